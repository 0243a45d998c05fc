-- What the definitions of making and opening a file rule out, on the smallest examples.
use Rattle.std.proofs.Common.{◌≡◌, ℕ, zero, suc, ◌-◌, ◌^◌, ◌≤◌, ◌<◌, inl, inr, true, false, List, [], ◌∷◌, length, map, get_or, Some, None, refl, ap, ◌∙◌, arith}
use Rattle.std.specs.Prelude.{if◌then◌else◌}
use Rattle.std.specs.Option.{is_some}
use Rattle.std.proofs.lemmas.Bool.{cases_lt}
use Rattle.record_core.specs.Bytes.{Encoding}
use Rattle.disk_core.specs.State.{State, settled, written, is_within, IsImage}
use Rattle.disk_core.specs.declared.fault.DiskFault.TheVariants.{Sync, Length, Read, Write}
use Rattle.segment_core.specs.declared.format.Shape.{Shape}
use Rattle.segment_core.specs.Scanner.{IsDecided, IsCutShort}
use Rattle.segment_core.specs.Tally.{nothing}
use Rattle.pen_core.specs.declared.fault.PenFault.TheVariants.{Broken, Busy}
use Rattle.pen_core.specs.Births.{calls_of_creation, IsNew, IsEmpty}
use Rattle.pen_core.specs.Opening.{OnlySyncs, IsAtRest, IsOpened, AreCallsDone, AreNeeded, calls_of, reads_of, pieces_front}
use Rattle.pen_core.specs.Pen.{IsReadyToFold, job_len}
use Rattle.pen_core.specs.PenOf.{PenOf}
use Rattle.pen_core.specs.Refusals.{first_refusal, ready_lines}

-- a write, though of the byte that is there, is no sync
no_write : (b : ℕ) → OnlySyncs (settled (b ∷ []) ∷ []) (written (settled (b ∷ [])) 0 (b ∷ []) ∷ settled (b ∷ []) ∷ []) → ⊥
no_write b only = elim only.stands [
  | inl same ↦ (let pending = ap (λ s. length s.pending) same in omega (arith, pending))
  | inr same ↦ (let pending = ap (λ s. length s.pending) same in omega (arith, pending))
]

-- a creation on an empty disk makes eight calls, one on a closed byte and a few more seven
calls_when_empty : calls_of_creation [] ≡ Sync ∷ Length ∷ Write ∷ Sync ∷ Write ∷ Sync ∷ Write ∷ Sync ∷ []
calls_when_empty = refl

calls_when_closed : calls_of_creation (0 ∷ 1 ∷ []) ≡ Sync ∷ Length ∷ Read ∷ Write ∷ Sync ∷ Write ∷ Sync ∷ []
calls_when_closed = refl

-- opening 4,096 bytes reads once, and 4,097 twice
one_read : calls_of 4096 ≡ 3
one_read = refl

two_reads : calls_of 4097 ≡ 4
two_reads = refl

-- at most, whatever was read; and no piece is read of no bytes
no_read : calls_of 0 ≡ 2
no_read = refl

no_read_more : (n : ℕ) → AreCallsDone 4096 n → n ≤ 3
no_read_more n is = is.1

-- nothing is read behind the first pieces that aren't cut short, and all up to there
module _ {R : Type 0} (form : Encoding R) (piece : ℕ) (bytes : List ℕ) (n : ℕ) (is : AreNeeded piece form bytes n) where
  no_piece_behind : (k : ℕ) → (IsCutShort form (pieces_front piece k bytes) → ⊥) → n ≤ k
  no_piece_behind k told = elim (cases_lt k n) [ inl behind ↦ absurd (told (is.needed k behind)) | inr upto ↦ upto ]

  no_piece_less : n < reads_of piece (length bytes) → IsDecided form (pieces_front piece n bytes)
  no_piece_less less = elim is.enough [ inl all ↦ absurd (omega arith) | inr decided ↦ decided ]

-- ---- what the sync is for

abbrev five : List ℕ
five = 5 ∷ []

abbrev six : List ℕ
six = 6 ∷ []

-- 6 was written over 5
abbrev unsynced : State
unsynced = written (settled five) 0 six

-- a crash may leave the one or the other
six_is_left : IsImage unsynced six
six_is_left = record { no_shorter = omega arith; no_longer = omega arith; each = at }
  where
    at : (i : ℕ) → i < 1 → is_within unsynced.pending i ≡ false → get_or six i 0 ≡ get_or five i 0
    at zero lt apart = absurd cc
    at (suc i) lt apart = absurd (omega (arith, lt))

five_is_left : IsImage unsynced five
five_is_left = record { no_shorter = omega arith; no_longer = omega arith; each = λ i lt apart. refl }

-- a disk that leaves 5 again isn't only synced
not_lost : OnlySyncs (unsynced ∷ []) (settled five ∷ unsynced ∷ []) → ⊥
not_lost only = elim only.stands [
  | inl same ↦ (let pending = ap (λ s. length s.pending) same in omega (arith, pending))
  | inr same ↦ (let byte = ap (λ s. get_or s.seen 0 0) same in omega (arith, byte))
]

-- nor one that was written to meanwhile, though it is as it was in the end
not_between : OnlySyncs (settled five ∷ []) (settled five ∷ unsynced ∷ settled five ∷ []) → ⊥
not_between only =
    let left : IsImage (settled five) six = only.left_before.each six (omega arith, inr (omega arith, inl six_is_left)) in
    omega (arith, left.each 0 (omega arith) refl)

-- nor one of which a crash leaves what was there before the sync, once that has succeeded
not_unsettled : OnlySyncs (unsynced ∷ []) (settled six ∷ unsynced ∷ unsynced ∷ unsynced ∷ []) → ⊥
not_unsettled only =
    let same : five ≡ six = only.stays_as_read (omega arith) five (omega arith, inr (omega arith, inl five_is_left)) in
    omega (arith, ap (λ (bs : List ℕ). get_or bs 0 0) same)

-- ---- what a pen is that was made or opened

made_pen : {D : Type 0} (shape : Shape) (pen : PenOf D) → IsNew shape pen → IsEmpty pen
    → pen ≡ record {
      disk = pen.disk;
      shape = shape;
      frames = [];
      vector = [];
      job = None;
      fold = None;
      broken = false;
      tally = nothing;
      gate = 11;
      room = pen.room;
      places = pen.places;
    }
made_pen shape pen is empty =
    λ i. record {
      disk = pen.disk;
      shape = is.shape_is i;
      frames = empty.frames_are i;
      vector = empty.vector_is i;
      job = is.no_job i;
      fold = is.no_fold i;
      broken = is.whole i;
      tally = is.tally_is i;
      gate = is.gate_is i;
      room = pen.room;
      places = pen.places;
    }

-- a commit may be begun at once
ready_pen : {D : Type 0} (width size : ℕ) (pen : PenOf D) → IsAtRest width size pen → first_refusal (ready_lines pen) ≡ None
ready_pen width size pen is =
    ap (λ b. if b then Some Broken else first_refusal ((is_some pen.job, Busy) ∷ [])) is.whole
    ∙ ap (λ job. if is_some job then Some Busy else None) is.no_job

-- and a fold, where a change is live and there is room
folds_pen : {D : Type 0} (width size : ℕ) (pen : PenOf D) → IsAtRest width size pen → pen.tally.folded < pen.tally.changes
    → pen.gate < 2 ^ 48 - 14 → IsReadyToFold pen true
folds_pen width size pen is live room =
    (is.whole, is.no_fold, live, let none : job_len pen.shape pen.job ≡ 0 = ap (job_len pen.shape) is.no_job in omega arith)

-- its vector is the records, each as its bytes
vector_of_records : {R D : Type 0} (form : Encoding R) (bytes : List ℕ) (pen : PenOf D) (records : List R)
    → IsOpened form bytes pen records → pen.vector ≡ map form.bytes_of records
vector_of_records form bytes pen records is = is.cells_are.written
