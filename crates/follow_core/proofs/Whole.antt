-- A first look has the whole vector, and what is written of it.
use Rattle.std.proofs.Common.{◌≡◌, ℕ, ◌≤◌, List, [], Option, Result, Ok, Err, sym, ap, subst, ◌∙◌, arith}
use Rattle.std.specs.Prelude.{MatchResult, OnOk}
use Rattle.std.specs.Global.{Vec}
use Rattle.std.specs.Io.KnownBytes.{Appends}
use Rattle.record_core.specs.Bytes.{Encoding}
use Rattle.segment_core.specs.declared.format.Shape.{Shape}
use Rattle.segment_core.specs.Frame.{Frame}
use Rattle.segment_core.specs.Raw.{AreReadAs}
use Rattle.beside_core.specs.declared.bookmark.Bookmark.{Bookmark}
use Rattle.beside_core.specs.declared.since.Since.TheVariants.{Grown}
use Rattle.beside_core.specs.Bookmark.{LiesBehind}
use Rattle.beside_core.specs.PensFile.{IsPensFile}
use Rattle.beside_core.specs.Replay.{vector_left}
use Rattle.beside_core.specs.declared.fault.LookFault.{LookFault}
use Rattle.beside_core.specs.Since.{IsSinceAt, MayRefuse}
use Rattle.follow_core.specs.declared.ended.LookEnd.{LookEnd}
use Rattle.follow_core.specs.declared.ended.LookEnd.TheVariants.{Done, OutputFailed}
use Rattle.follow_core.specs.Beside.{WereOnce, AreRecordsLeft, AnswersRecords, IsAnsweredBeside, IsReadBeside}

pub whole_vector : {R : Type 0} (form : Encoding R) (shape : Shape) (frames : ℕ → List Frame) (begin from to synced : ℕ) (records : Vec R) (mark : Bookmark) → begin ≤ from
    → IsSinceAt form shape frames [] from to synced (Grown records mark)
    → WereOnce frames begin to synced (λ at. AreRecordsLeft form at records.items × LiesBehind shape at mark)
whole_vector form shape frames begin from to synced records mark le look = record {
  moment = look.moment;
  begun = let begun = look.begun in omega (arith, le, begun);
  until = look.until;
  settled = λ some. look.settled (λ none. some (look.frames_are ∙ none));
  so = (
    subst (λ cells. AreReadAs form cells records.items) (sym (ap (vector_left form.width) look.frames_are ∙ look.answer.2)) look.answer.3,
    subst (λ fs. LiesBehind shape fs mark) (sym look.frames_are) look.answer.0,
  );
}

-- an answer was given
pub answered_once : {X E : Type 0} (IsAnswer : Shape → List ℕ → List Frame → Type 0) (MayFail : Shape → (ℕ → List Frame) → ℕ → ℕ → LookFault → Type 0) (kept : Type 0) (held : ℕ
    → List ℕ) (from to synced : ℕ) (old new : Option (List ℕ)) (text : List ℕ) (written : Result X E) (end : LookEnd)
    → MatchResult written (λ _. end ≡ Done) (λ _. end ≡ OutputFailed) → OnOk written (Appends old new text)
    → (kept → (shape : Shape) (frames : ℕ → List Frame) → IsPensFile shape held frames → WereOnce frames from to synced (IsAnswer shape text))
    → IsAnsweredBeside IsAnswer MayFail kept held from to synced old new end
answered_once IsAnswer MayFail kept held from to synced old new text (Ok x) end told appends once =
    subst (IsAnsweredBeside IsAnswer MayFail kept held from to synced old new) (sym told) (text, appends, once)
answered_once IsAnswer MayFail kept held from to synced old new text (Err e) end told appends once =
    subst (IsAnsweredBeside IsAnswer MayFail kept held from to synced old new) (sym told) tt

pub told_once : {R X E : Type 0} (form : Encoding R) (IsAnswer : Shape → List ℕ → List Frame → Type 0) (kept : Type 0) (held : ℕ
    → List ℕ) (from to synced : ℕ) (old new : Option (List ℕ)) (text : List ℕ) (written : Result X E) (end : LookEnd)
    → MatchResult written (λ _. end ≡ Done) (λ _. end ≡ OutputFailed) → OnOk written (Appends old new text)
    → (kept → (shape : Shape) (frames : ℕ → List Frame) → IsPensFile shape held frames → WereOnce frames from to synced (IsAnswer shape text))
    → IsReadBeside form IsAnswer kept held from to synced old new end
told_once form IsAnswer = answered_once IsAnswer (MayRefuse form)

pub told_records : {R X E : Type 0} (form : Encoding R) (IsAnswer : List R → List ℕ → Type 0) (kept : Type 0) (held : ℕ
    → List ℕ) (from to synced : ℕ) (old new : Option (List ℕ)) (records : List R) (mark : Bookmark) (text : List ℕ) (written : Result X E) (end : LookEnd)
    → MatchResult written (λ _. end ≡ Done) (λ _. end ≡ OutputFailed) → OnOk written (Appends old new text) → IsAnswer records text
    → (kept → (shape : Shape) (frames : ℕ → List Frame) → IsPensFile shape held frames → WereOnce frames from to synced (λ at. AreRecordsLeft form at records × LiesBehind shape at mark))
    → IsReadBeside form (λ _. AnswersRecords form IsAnswer) kept held from to synced old new end
told_records form IsAnswer kept held from to synced old new records mark text written end told appends is once =
    told_once form (λ _. AnswersRecords form IsAnswer) kept held from to synced old new text written end told appends (λ model shape frames file.
    let were = once model shape frames file in
    record { moment = were.moment; begun = were.begun; until = were.until; settled = were.settled; so = (records, were.so.0, is) })
