-- What a file had that is copied.
use Rattle.std.proofs.Common.{◌≡◌, ◌⊎◌, ◌∙◌, ℕ, List, ap, refl, subst, sym, inl, inr, false, Result, Ok, Err, MatchResult}
use Rattle.std.specs.Prelude.{Option, OnOk}
use Rattle.std.specs.Result.{IsErrAnd}
use Rattle.std.specs.Io.KnownBytes.{Appends}
use Rattle.record_core.specs.Bytes.{Encoding}
use Rattle.segment_core.specs.declared.format.Shape.{Shape}
use Rattle.segment_core.specs.contracts.format.Format.{the_type}
use Rattle.segment_core.specs.declared.format.Format.{Format}
use Rattle.segment_core.specs.declared.format.Format.TheVariants.{One, Two}
use Rattle.segment_core.specs.Frame.{Frame}
use Rattle.segment_core.specs.Vector.{HasVector}
use Rattle.pen_core.specs.PenOf.{PenOf}
use Rattle.pen_core.specs.Opening.{IsOpened}
use Rattle.vault_core.specs.Upgrading.{IsFileOfFormat}
use Rattle.beside_core.specs.Bookmark.{LiesBehind}
use Rattle.beside_core.specs.PensFile.{IsPensFile}
use Rattle.beside_core.specs.declared.bookmark.Bookmark.{Bookmark}
use Rattle.follow_core.specs.Beside.{AreRecordsLeft, WereOnce}
use Rattle.text_core.specs.declared.status.Status.{Status}
use Rattle.text_core.specs.declared.status.Status.TheVariants as statuses
use Rattle.sentences.specs.declared.complaint.Complaint.{Complaint}
use Rattle.filing_core.specs.Copying.{HadRecords}
use denote.Enum.Bare.{sameb}

-- the bookmark behind the records tells the version
pub had_records : {R : Type 0} (form : Encoding R) (kept : Type 0) (held : ℕ → List ℕ) (from to synced : ℕ) (records : List R) (mark : Bookmark) (told : Shape) → told ≡ mark.shape
    → (kept → (shape : Shape) (frames : ℕ → List Frame) → IsPensFile shape held frames → WereOnce frames from to synced (λ at. AreRecordsLeft form at records × LiesBehind shape at mark))
    → HadRecords form kept held from to synced told.format records
had_records form kept held from to synced records mark told is once = λ model shape frames file.
    let were = once model shape frames file in (
      ap (λ (s : Shape). s.format) (sym (is ∙ were.so.1.shape_is)),
      record { moment = were.moment; begun = were.begun; until = were.until; settled = were.settled; so = were.so.0 },
    )

-- the bytes that were opened are a file of the pen's version
pub opened_file : {R D : Type 0} {form : Encoding R} {bytes : List ℕ} {pen : PenOf D} {records : List R} {format : Format} → IsOpened form bytes pen records
    → format ≡ pen.shape.format → IsFileOfFormat format form bytes records
opened_file {form = form} {bytes = bytes} {records = records} opened is =
    (opened.found, subst (λ (f : Format). HasVector f form bytes opened.found records) (ap (λ s. s.format) (sym opened.shape_is) ∙ sym is) opened.vector)

-- a file that isn't of version 2 is of version 1
pub is_one : (format : Format) → false ≡ sameb the_type format Two → format ≡ One
is_one One other = refl
is_one Two other = absurd cc

-- a complaint that `?` has handed on
pub told_complaint : (filed : Result Status Complaint) (complaint : Complaint) → IsErrAnd filed (λ told. told ≡ complaint) → filed ≡ Err complaint
told_complaint (Ok status) complaint is = absurd is
told_complaint (Err told) complaint is = ap (λ (c : Complaint). Err c) is

abbrev Filed : Status → Result Status Complaint
Filed status = Ok status

-- an answer was written, or output failed
pub answered : {X E : Type 0} (old new : Option (List ℕ)) (text : List ℕ) (written : Result X E) (status : Status)
    → MatchResult written (λ _. status ≡ statuses.Done) (λ _. status ≡ statuses.OutputFailed) → OnOk written (Appends old new text)
    → (Filed status ≡ Filed statuses.OutputFailed) ⊎ ((Filed status ≡ Filed statuses.Done) × Appends old new text)
answered old new text (Ok x) status told appends = inr (ap (λ (s : Status). Filed s) told, appends)
answered old new text (Err e) status told appends = inl (ap (λ (s : Status). Filed s) told)
