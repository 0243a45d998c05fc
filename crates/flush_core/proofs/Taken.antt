-- The begin of a group: what a flusher keeps, and why none is begun.
use Rattle.std.proofs.Common.{◌≡◌, ℕ, zero, suc, ◌+◌, ◌≤◌, ◌<◌, ◌^◌, List, [], ◌∷◌, ◌++◌, length, take, drop, Bool, true, false, Option, Some, None, refl, sym, ap, subst, ◌∙◌, append_assoc, arith}
use Rattle.std.specs.Prelude.{nat_lt}
use Rattle.std.specs.Option.{is_some}
use Rattle.std.proofs.lemmas.Bool.{le-ltb}
use Rattle.std.proofs.lemmas.List.{length-map, length-drop}
use Rattle.std.proofs.lemmas.List.Sums.{sum_by-take-le}
use Rattle.record_core.specs.Bytes.{Encoding}
use Rattle.segment_core.specs.Raw.{AreCellsOf}
use Rattle.segment_core.specs.Shape.{limit_of}
use Rattle.segment_core.specs.Written.{joined, group_frame}
use Rattle.segment_core.proofs.Written.{size-group_frame}
use Rattle.pen_core.specs.declared.fault.PenFault.{PenFault}
use Rattle.pen_core.specs.declared.fault.PenFault.TheVariants.{Broken, Busy, OutOfRange, TooLarge, FileFull, Memory}
use Rattle.pen_core.specs.PenOf.{PenOf}
use Rattle.pen_core.specs.Pen.{BeginsFrame, vector_after}
use Rattle.pen_core.specs.Refusals.{IsRefusal, group_lines, room_lines, is_full}
use Rattle.block_core.specs.Growth.{Growth}
use Rattle.directory_core.specs.Chain.{total}
use Rattle.directory_core.specs.Chain as chains
use Rattle.flush_core.specs.Flusher.{FlusherOf, IsFlusher, flusher_of, list_to, untaken, tally_with}
use Rattle.flush_core.specs.Serving.{fold_with}
use Rattle.flush_core.proofs.Next.{grown_records-take_on, total-take_on}
use Rattle.flush_core.proofs.Kept.{kept}

-- ---- what it keeps

-- the next n growths that are there are known
pub taken_within : {R D : Type 0} {form : Encoding R} {keeps : Type 0} {f : FlusherOf R D} → IsFlusher keeps form f → (n : ℕ) → n ≤ length (untaken f)
    → f.taken + n ≤ length f.pass.entries
taken_within {R} {D} {form} {keeps} {f} is n there =
    let some = length-map (drop f.taken f.pass.entries) (λ (e : Growth R). e.records) in
    let rest = length-drop f.taken f.pass.entries in
    let taken = is.taken_known in
    omega arith

module _ {R D : Type 0} {form : Encoding R} {keeps : Type 0} {f : FlusherOf R D} (is : IsFlusher keeps form f) (idle : f.pen.job ≡ None)
    (n : ℕ) (there : n ≤ length (untaken f)) where
  -- the records of the vector behind the next n growths
  size_with : f.pen.tally.size + length (joined (take n (untaken f))) ≡ f.before + total (take (f.taken + n) f.pass.entries)
  size_with =
      let size = is.size_is in
      let settled = ap (λ k. total (take k f.pass.entries)) (is.idle_settled idle) in
      let more = total-take_on f.pass.entries f.taken n in
      omega arith

  pub size_in_limit : total f.pass.entries ≤ f.pass.of.limit → f.pen.tally.size + length (joined (take n (untaken f))) ≤ 2 ^ 32
  size_in_limit within =
      let size = size_with in
      let most = sum_by-take-le (λ (e : Growth R). length e.records) f.pass.entries (f.taken + n) in
      let limit = is.in_limit in
      omega arith

  list_with : list_to f f.settled ++ joined (take n (untaken f)) ≡ list_to f (f.taken + n)
  list_with =
      let entries : List (Growth R) = f.pass.entries in
      append_assoc f.opening (chains.grown_records (take f.settled entries)) (joined (take n (untaken f)))
      ∙ ap (λ k. f.opening ++ (chains.grown_records (take k entries) ++ joined (take n (untaken f)))) (sym (is.idle_settled idle))
      ∙ ap (λ (rs : List R). f.opening ++ rs) (sym (grown_records-take_on entries f.taken n))

  -- a group of the next n growths is begun
  pub taken_kept : (pen : PenOf D) (keeps' : Type 0) → BeginsFrame (group_frame form (take n (untaken f))) f.pen pen → (keeps' → keeps)
      → ((records : List R) → AreCellsOf form f.pen.vector records → AreCellsOf form (vector_after pen) (records ++ joined (take n (untaken f))))
      → IsFlusher keeps' form (flusher_of form pen f.pass f.mark f.before (f.taken + n) f.settled)
  taken_kept pen keeps' begun back adds =
      let order = is.settled_taken in
      let size = size_with in
      let same = ap (λ (t : _). t.size) begun.tally_same in
      let frame = size-group_frame form pen.tally (take n (untaken f)) in
      kept is pen (f.taken + n) f.settled keeps' begun.shape_same is.told_settled (omega arith) (taken_within is n there)
      (λ none. let job = sym none ∙ begun.job_is in absurd cc)
      (same ∙ is.size_is)
      (ap (λ (j : _). (tally_with pen.tally j).size) begun.job_is ∙ omega arith)
      back
      (λ model. subst (λ (cells : _). AreCellsOf form cells (list_to f f.settled)) (sym begun.file_same.vector_same) (is.file_is (back model)))
      (λ model. subst (AreCellsOf form (vector_after pen)) list_with (adds (list_to f f.settled) (is.file_is (back model))))

pub idle_is : {X : Type 0} (job : Option X) → is_some job ≡ false → job ≡ None
idle_is None is = refl
idle_is (Some job) is = absurd cc

-- whether one was begun or not, the disk is the same, the pen is as whole, and so is the fold once the job is done
pub taken_pen : {R D : Type 0} (form : Encoding R) (old new : FlusherOf R D) (n : ℕ) (growths : List (List R)) → old.pen.job ≡ None
    → (0 < n → BeginsFrame (group_frame form growths) old.pen new.pen) → (n ≡ 0 → new ≡ old)
    → (new.pen.disk ≡ old.pen.disk) × (new.pen.broken ≡ old.pen.broken)
    × (fold_with new.pen.job new.pen.fold ≡ fold_with old.pen.job old.pen.fold)
taken_pen {R} {D} form old new zero growths idle begun none =
    let same = none refl in
    (ap (λ (f : FlusherOf R D). f.pen.disk) same, ap (λ (f : FlusherOf R D). f.pen.broken) same, ap (λ (f : FlusherOf R D). fold_with f.pen.job f.pen.fold) same)
taken_pen form old new (suc n) growths idle begun none =
    let is = begun (omega arith) in
    (is.disk_same, is.broken_same, ap (λ (j : _). fold_with j new.pen.fold) is.job_is ∙ is.fold_same ∙ sym (ap (λ (j : _). fold_with j old.pen.fold) idle))

-- ---- why none is begun

-- a test that doesn't hold
passed : (test : Bool) (first : PenFault) (lines : List (Bool × PenFault)) (fault : PenFault) → test ≡ false → IsRefusal ((test, first) ∷ lines) fault → IsRefusal lines fault
passed true first lines fault not refused = absurd cc
passed false first lines fault not refused = refused

-- a group that the file has room for is refused for want of memory alone
pub only_memory : {D : Type 0} (pen : PenOf D) (records payload : ℕ) (fault : PenFault) → pen.broken ≡ false → is_some pen.job ≡ false
    → pen.tally.size + records ≤ 2 ^ 32 → payload ≤ limit_of pen.shape.format → is_full pen payload ≡ false
    → IsRefusal (group_lines pen records payload) fault → fault ≡ Memory
only_memory pen records payload fault whole idle short fits room refused =
    let full = passed (is_full pen payload) FileFull [] fault room in
    let limit : ℕ = limit_of pen.shape.format in
    let size : ℕ = pen.tally.size + records in
    let large = passed (nat_lt limit payload) TooLarge ((is_full pen payload, FileFull) ∷ []) fault (le-ltb limit payload fits) in
    let range = passed (nat_lt (2 ^ 32) size) OutOfRange (room_lines pen payload) fault (le-ltb (2 ^ 32) size short) in
    let rest : List (Bool × PenFault) = (nat_lt (2 ^ 32) size, OutOfRange) ∷ room_lines pen payload in
    full (large (range (passed (is_some pen.job) Busy rest fault idle (passed pen.broken Broken ((is_some pen.job, Busy) ∷ rest) fault whole refused))))

pub full_refused : (full : Bool) → full ≡ true → IsRefusal ((full, FileFull) ∷ []) FileFull
full_refused true is = refl
full_refused false is = absurd cc

pub memory_refused : (full : Bool) (fault : PenFault) → full ≡ false → fault ≡ Memory → IsRefusal ((full, FileFull) ∷ []) fault
memory_refused true fault is same = absurd cc
memory_refused false fault is same = same
