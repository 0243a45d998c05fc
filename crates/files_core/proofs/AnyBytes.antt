-- A file that is opened to be written.
use Rattle.std.proofs.Common.{◌≡◌, ℕ, zero, suc, ◌+◌, ◌<◌, ◌^◌, List, [], ◌∷◌, length, map, drop}
use Rattle.std.proofs.Common.{Option, Some, None, Result, Ok, Err, MatchResult, inl, inr, refl, sym, ap, subst, ◌∙◌, arith}
use Rattle.std.specs.Prelude.{slice_get, IfErr, IfOk, IsSome, MatchOption}
use Rattle.std.specs.Option.{option_and_then, unwrap_or}
use Rattle.std.proofs.lemmas.List.{append-nil}
use Rattle.record_core.specs.Bytes.{Encoding, IsBytes, WritesBack}
use Rattle.disk_core.specs.State.{State}
use Rattle.disk_core.specs.Calls.{bytes_of}
use Rattle.segment_core.specs.declared.format.Format.{Format}
use Rattle.segment_core.specs.Shape.{shape_of, format_in}
use Rattle.segment_core.specs.Frame.{text}
use Rattle.segment_core.specs.Tally.{tally_of}
use Rattle.segment_core.specs.Image.{BeginsImage}
use Rattle.segment_core.specs.Vector.{place_of, record_in, HasVector}
use Rattle.segment_core.specs.Raw.{raw, AreReadAs}
use Rattle.segment_core.specs.Fault.{IsBadRecord, IsFrameFault, frame_fault, header_fault}
use Rattle.segment_core.proofs.OneVector.{same_vector}
use Rattle.segment_core.proofs.Raw.{IsVectorOf_raw, IsVectorOf_typed}
use Rattle.segment_core.proofs.ReadAs.{AreCellsOf_read}
use Rattle.pen_core.specs.declared.fault.OpenFault.{OpenFault}
use Rattle.pen_core.specs.declared.fault.OpenFault.TheVariants.{Scan, Disk}
use Rattle.pen_core.specs.Opening.{IsAtRest, IsOpened, IsOpenRefusal, OnlySyncs, failed_openings}
use Rattle.pen_core.specs.PenOf.{PenOf}
use Rattle.segment_core.specs.Written.{joined}
use Rattle.vault_core.proofs.Kept.{opened_kept, opened_list, opened_sure}
use Rattle.files_core.specs.Opened.{IsNotOpened}
use Rattle.files_core.specs.Writable.{IsWritable, ReadsAny}

-- ---- refusals

match_weaker : {X : Type 0} (o : Option X) (A B : Type 0) (P : X → Type 0) → (A → B) → MatchOption o A P → MatchOption o B P
match_weaker None A B P to it = to it
match_weaker (Some x) A B P to it = it

-- no bytes of a place are a bad record
none_bad : (width : ℕ) (image : List ℕ) (o : Option ℕ) (place : ℕ) → o ≡ Some place → option_and_then (record_in (raw width) image) o ≡ None → ⊥
none_bad width image None place is bad = cc
none_bad width image (Some p) place is bad = cc

-- where any bytes are a record, a file is refused for the reason that holds whatever its records are
pub any_refusal : {R : Type 0} (form : Encoding R) (bytes : List ℕ) (fault : OpenFault) → IsOpenRefusal (raw form.width) bytes fault → IsOpenRefusal form bytes fault
any_refusal form bytes (Disk cause) refused = tt
any_refusal form bytes (Scan fault) refused = elim refused [
  | inr memory ↦ inr memory
  | inl first ↦ inl (
      match_weaker (header_fault form.width bytes) (IsFrameFault format (raw form.width) bytes fault) (IsFrameFault format form bytes fault) (λ f. fault ≡ f)
      (λ at. (
        at.0,
        at.1,
        match_weaker (frame_fault (shape_of format form) (length (text (shape_of format form) at.0)) (tally_of at.0) (drop (length (text (shape_of format form) at.0)) bytes))
            (IsBadRecord format (raw form.width) bytes at.0 fault) (IsBadRecord format form bytes at.0 fault) (λ f. fault ≡ f)
            (λ bad. absurd (none_bad form.width bytes (place_of (shape_of format form) at.0 bad.0) bad.1 bad.3 bad.2.bad)) at.2,
      )) first)
]
  where
    format : Format
    format = format_in bytes

-- ---- records

-- the first n cells as records; where there are fewer, or one is none, another record stands for it
abbrev pub records_in : {R : Type 0} → Encoding R → R → ℕ → List (List ℕ) → List R
records_in form blank zero cells = []
records_in form blank (suc n) [] = blank ∷ records_in form blank n []
records_in form blank (suc n) (cell ∷ cells) = unwrap_or (form.value_of cell) blank ∷ records_in form blank n cells

pub length-records_in : {R : Type 0} (form : Encoding R) (blank : R) (n : ℕ) (cells : List (List ℕ)) → length (records_in form blank n cells) ≡ n
length-records_in form blank zero cells = refl
length-records_in form blank (suc n) [] = ap suc (length-records_in form blank n [])
length-records_in form blank (suc n) (cell ∷ cells) = ap suc (length-records_in form blank n cells)

some_is : {X : Type 0} (o : Option X) (blank : X) → IsSome o → o ≡ Some (unwrap_or o blank)
some_is None blank is = absurd cc
some_is (Some x) blank is = refl

read_each : {R : Type 0} (form : Encoding R) (blank : R) (any : ReadsAny form) (n : ℕ) (cells : List (List ℕ)) → length cells ≡ n
    → (i : ℕ) → option_and_then form.value_of (slice_get cells i) ≡ slice_get (records_in form blank n cells) i
read_each form blank any zero [] len i = refl
read_each form blank any zero (cell ∷ cells) len i = absurd (omega arith)
read_each form blank any (suc n) [] len i = absurd (omega arith)
read_each form blank any (suc n) (cell ∷ cells) len zero = some_is (form.value_of cell) blank (any cell)
read_each form blank any (suc n) (cell ∷ cells) len (suc i) = read_each form blank any n cells (omega arith) i

pub AreReadAs-records_in : {R : Type 0} (form : Encoding R) (blank : R) (n : ℕ) (cells : List (List ℕ)) → ReadsAny form → length cells ≡ n
    → AreReadAs form cells (records_in form blank n cells)
AreReadAs-records_in form blank n cells any len = record { size = len ∙ sym (length-records_in form blank n cells); each = read_each form blank any n cells len }

-- What a pen sees that was opened over bytes of any kind, it sees as records where these are bytes.
pub opened_any : {R D : Type 0} (form : Encoding R) (blank : R) (bytes : List ℕ) (pen : PenOf D) → ReadsAny form → WritesBack form → form.width < 2 ^ 16 → IsBytes bytes
    → IsOpened (raw form.width) bytes pen pen.vector → IsOpened form bytes pen (records_in form blank pen.tally.size pen.vector)
opened_any {R} form blank bytes pen any back small fits opened =
    let records : List R = records_in form blank pen.tally.size pen.vector in
    let read = opened.vector.read in
    let framed = opened.vector.framed in
    let are : AreReadAs form pen.vector records = AreReadAs-records_in form blank pen.tally.size pen.vector any (read.size ∙ sym (ap (λ t. t.size) opened.tally_is)) in
    let typed = IsVectorOf_typed opened.format form bytes opened.found pen.vector records read are in
    let begins : BeginsImage (shape_of opened.format form) bytes opened.found =
    record { legal = framed.legal; begins = (framed.closed.0 ∷ framed.closed.1, framed.closed.3) } in
    let again : HasVector opened.format (raw form.width) bytes opened.found (map form.bytes_of records) =
    record { framed = framed; read = IsVectorOf_raw opened.format form bytes opened.found records back fits begins typed } in
    record {
      format = opened.format;
      found = opened.found;
      vector = record { framed = framed; read = typed };
      shape_is = opened.shape_is;
      frames_are = opened.frames_are;
      cells_are = AreCellsOf_read form pen.vector records
          (same_vector opened.format opened.format (raw form.width) bytes opened.found opened.found pen.vector (map form.bytes_of records) small opened.vector again) are;
      tally_is = opened.tally_is;
      gate_is = opened.gate_is;
    }

-- ---- the vault of a pen

alone : {R : Type 0} (records : List R) → joined (records ∷ []) ≡ records
alone records = append-nil records

-- Over a pen that was opened, and the records of its file, stands the vault that was opened.
pub writable : {R D : Type 0} (form : Encoding R) (keeps : D → Type 0) (states : D → List State) (faults : D → ℕ) (disk : D) (pen : PenOf D) (records : List R)
    → IsAtRest form.width (length records) pen → (keeps pen.disk → IsOpened form (bytes_of (states disk)) pen records)
    → (keeps pen.disk → OnlySyncs (states disk) (states pen.disk)) → faults pen.disk ≡ faults disk → (keeps pen.disk → keeps disk)
    → IsWritable form keeps states faults disk pen
writable {R} form keeps states faults disk pen records rests opened syncs same model = record {
  records = records;
  opened = record {
    rests = subst (λ (rs : List R). IsAtRest form.width (length rs) pen) (sym (alone records)) rests;
    opened = opened_list form (keeps pen.disk) pen (records ∷ []) records (bytes_of (states disk)) (alone records) rests opened;
    sure = opened_sure form (keeps pen.disk) pen (records ∷ []) records (bytes_of (states disk)) (alone records) rests opened;
    only_syncs = syncs;
    faults_same = same;
    model = model;
  };
  kept = opened_kept form (keeps pen.disk) pen (records ∷ []) records (bytes_of (states disk)) (alone records) rests opened;
}

module _ {R D : Type 0} (form : Encoding R) (keeps : D → Type 0) (states : D → List State) (faults : D → ℕ) (disk : D) (width : ℕ) (width_is : width ≡ form.width) where
  -- it was opened by its frames
  pub frames_opened : (blank : R) → ReadsAny form → WritesBack form → form.width < 2 ^ 16 → (keeps disk → IsBytes (bytes_of (states disk)))
      → (result : Result (PenOf D) (D × OpenFault)) → IfOk result (λ pen. IsAtRest width pen.tally.size pen)
      → IfOk result (λ pen. keeps pen.disk → IsOpened (raw width) (bytes_of (states disk)) pen pen.vector)
      → MatchResult result (λ pen. keeps pen.disk → OnlySyncs (states disk) (states pen.disk)) (λ r. keeps r.0 → OnlySyncs (states disk) (states r.0))
      → MatchResult result (λ pen. faults pen.disk ≡ faults disk) (λ r. faults r.0 ≡ faults disk + failed_openings r.1)
      → MatchResult result (λ pen. keeps pen.disk → keeps disk) (λ r. keeps r.0 → keeps disk)
      → IfOk result (IsWritable form keeps states faults disk)
  frames_opened blank any back small fits (Err r) rests opened syncs same model = tt
  frames_opened blank any back small fits (Ok pen) rests opened syncs same model =
      let records : List R = records_in form blank pen.tally.size pen.vector in
      writable form keeps states faults disk pen records
      (subst (λ w. IsAtRest w (length records) pen) width_is (subst (λ n. IsAtRest width n pen) (sym (length-records_in form blank pen.tally.size pen.vector)) rests))
      (λ m.
      opened_any form blank (bytes_of (states disk)) pen any back small (fits (model m))
      (subst (λ w. IsOpened (raw w) (bytes_of (states disk)) pen pen.vector) width_is (opened m)))
      syncs same model

  pub frames_refused : (result : Result (PenOf D) (D × OpenFault)) → IfErr result (λ r. keeps r.0 → IsOpenRefusal (raw width) (bytes_of (states disk)) r.1)
      → MatchResult result (λ pen. keeps pen.disk → OnlySyncs (states disk) (states pen.disk)) (λ r. keeps r.0 → OnlySyncs (states disk) (states r.0))
      → MatchResult result (λ pen. faults pen.disk ≡ faults disk) (λ r. faults r.0 ≡ faults disk + failed_openings r.1)
      → IfErr result (λ r. IsNotOpened form keeps states faults disk r.0 r.1)
  frames_refused (Ok pen) refused syncs same = tt
  frames_refused (Err r) refused syncs same = record {
    refused = λ m. any_refusal form (bytes_of (states disk)) r.1 (subst (λ w. IsOpenRefusal (raw w) (bytes_of (states disk)) r.1) width_is (refused m));
    only_syncs = syncs;
    faults_are = same;
  }
