-- Records that are put in the place of others.
use Rattle.std.proofs.Common.{◌≡◌, ℕ, zero, suc, ◌+◌, ◌-◌, ◌≤◌, ◌<◌, ◌||◌, Bool, true, false, List, [], ◌∷◌}
use Rattle.std.proofs.Common.{◌++◌, length, take, drop, Some, None, inl, inr, refl, sym, ap, subst, ◌∙◌, append_assoc, arith}
use Rattle.std.specs.Prelude.{◌==◌, slice_get, nat_le, nat_lt, if◌then◌else◌}
use Rattle.std.specs.Option.{option_map, unwrap_or}
use Rattle.std.specs.List.{flat_map}
use Rattle.std.proofs.lemmas.Bool.{cases_lt, leb-true, le-ltb, and_parts}
use Rattle.std.proofs.lemmas.List.{append-nil, drop_at, take_at, length-take-le, take_all}
use Rattle.record_core.specs.Bytes.{Encoding}
use Rattle.segment_core.specs.Frame.{Run, Change}
use Rattle.segment_core.specs.Command.{replaced}
use Rattle.segment_core.specs.Runs.{change_frame}
use Rattle.segment_core.specs.Raw.{AreCellsOf}
use Rattle.segment_core.specs.Written.{joined}
use Rattle.segment_core.proofs.Replaced.{length-spliced, spliced_before, spliced_inside, spliced_past}
use Rattle.pen_core.specs.PenOf.{PenOf}
use Rattle.disk_core.specs.Moments.{LeavesOnly, clock}
use Rattle.pen_core.specs.declared.fault.PenFault.{PenFault}
use Rattle.pen_core.specs.Pen.{BeginsFrame, FileSame, IsUnchanged, MayOpen, failed_calls, log_left, vector_after}
use Rattle.pen_core.specs.Refusals.{IsRefusal, first_refusal, change_lines, one_run}
use Rattle.pen_core.specs.Settled.{IsLogFault, IsLogSettled, frames_after}
use Rattle.vault_core.specs.declared.fault.VaultFault.TheVariants.{Pen}
use Rattle.vault_core.proofs.Devices.{Device}
use Rattle.vault_core.proofs.Commands.{AreQuiet, committed_command, quiet, refused_command, stands_was, stopped_command}
use Rattle.vault_core.proofs.Kept.{done_kept, failed_stands}
use Rattle.vault_core.specs.Touched.{IsTouched, has, taken_at}
use Rattle.vault_core.specs.Vault.{IsVault, list_of}
use Rattle.vault_core.specs.Commands.{IsBegun, changed_frame}
use Rattle.vault_core.proofs.Runs.{has_inside, has_at}
use Rattle.vault_core.proofs.Changes.{MayChange, may_change}
use Rattle.files_core.specs.Given.{given_from}
use Rattle.files_core.specs.Writable.{IsNotPut, IsPutFrom, vault_with}

or_false : (b : Bool) → (b || false) ≡ b
or_false true = refl
or_false false = refl

-- an element of a list
some_at : {X : Type 0} (xs : List X) (i : ℕ) → i < length xs → (x : X) × (slice_get xs i ≡ Some x)
some_at [] i lt = absurd (omega arith)
some_at (x ∷ xs) zero lt = (x, refl)
some_at (x ∷ xs) (suc i) lt = some_at xs i (omega arith)

-- a list with records in the place of those from a position on
abbrev pub put_into : {R : Type 0} → ℕ → List R → List R → List R
put_into start records list = take start list ++ take (length records) records ++ drop (start + length records) list

module _ {R : Type 0} (start : ℕ) (records list : List R) (end : start + length records ≤ length list) where
  -- a position of the run gets the record that is given for it
  given : (i : ℕ) → start ≤ i → i < start + length records → slice_get records (i - start) ≡ option_map (given_from start records i) (slice_get list i)
  given i from before =
      let old = some_at list i (omega arith) in
      let new = some_at records (i - start) (omega arith) in
      let past : nat_lt i start ≡ false = le-ltb i start from in
      new.1 ∙ sym (ap (option_map (given_from start records i)) old.1
      ∙ ap (λ b. Some (if b then old.0 else unwrap_or (slice_get records (i - start)) old.0)) past
      ∙ ap (λ o. Some (unwrap_or o old.0)) new.1)

  pub behind_touched : IsTouched (given_from start records) (one_run start (length records)) list (put_into start records list)
  behind_touched = record {
    same_length = length-spliced list records start (length records) end (omega arith);
    inside = λ i on.
        let in_run = has_inside i run (sym (or_false (has i run)) ∙ on) in
        spliced_inside list records start (length records) end (omega arith) i in_run.0 in_run.1 ∙ given i in_run.0 in_run.1;
    outside = λ i off. elim (cases_lt i start) [
      | inl before ↦ spliced_before list records start (length records) end (omega arith) i before
      | inr from ↦ elim (cases_lt i (start + length records)) [
        | inr past ↦ spliced_past list records start (length records) end (omega arith) i past
        | inl within ↦ absurd (let here = has_at i run from within in let not_here = sym (or_false (has i run)) ∙ off in cc)
      ]
    ];
  }
    where
      run : Run
      run = record { start = start; count = length records }

  -- what stands in the run then
  pub behind_taken : taken_at (one_run start (length records)) (put_into start records list) ≡ records
  behind_taken =
      let front : List R = take start list in
      let count : ℕ = length records in
      let at : length front ≡ start = length-take-le start list (omega arith) in
      append-nil (take count (drop start (put_into start records list)))
      ∙ ap (λ (rs : List R). take count (drop start rs)) (append_assoc front (take count records) (drop (start + count) list))
      ∙ ap (take count) (drop_at front (take count records ++ drop (start + count) list) start at)
      ∙ ap (λ (rs : List R). take count (rs ++ drop (start + count) list)) (take_all count records (omega arith))
      ∙ take_at records (drop (start + count) list) count refl

-- records that are given, as one piece of them
pub some_given : {R : Type 0} (records : List R) → false ≡ (length records == 0) → 0 < length (joined (records ∷ []))
some_given [] is = absurd cc
some_given (r ∷ records) is = omega arith

-- ---- over a pen

module _ {R D : Type 0} (form : Encoding R) (keeps : D → Type 0) (pen : PenOf D) (list : List R) (is : IsVault (keeps pen.disk) form (vault_with form pen list))
    (start : ℕ) (records : List R) where
  abbrev runs : List Run
  runs = one_run start (length records)

  -- the list, as it is told of its block
  abbrev was : List R
  was = list_of (vault_with form pen list)

  abbrev pub put_in : List R
  put_in = put_into start records was

  alone : joined (put_in ∷ []) ≡ put_in
  alone = append-nil put_in

  module _ (allowed : first_refusal (change_lines pen (one_run start (length records))) ≡ None) where
    may : MayChange pen (one_run start (length records))
    may = may_change pen (one_run start (length records)) allowed

    inside : start + length records ≤ length was
    inside =
        let size = is.size_is may.whole in
        let first = and_parts (nat_le (start + length records) pen.tally.size) true may.inside in
        let end = leb-true (start + length records) pen.tally.size first.0 in
        omega (arith, size, end)

    pub put_touched : IsTouched (given_from start records) (one_run start (length records)) was (joined (put_in ∷ []))
    put_touched = subst (IsTouched (given_from start records) (one_run start (length records)) was) (sym alone) (behind_touched start records was inside)

    module _ (pieces : List (List R)) (pieces_are : joined pieces ≡ records) where
      frame_is : change_frame form (one_run start (length records)) pieces ≡ changed_frame form (one_run start (length records)) (joined (put_in ∷ []))
      frame_is =
          ap (λ (rs : List R). Change (one_run start (length records)) (flat_map form.bytes_of rs))
          (pieces_are ∙ sym (ap (taken_at (one_run start (length records))) alone ∙ behind_taken start records was inside))

      -- the change has begun
      pub put_begun : (mid : PenOf D) → BeginsFrame (change_frame form (one_run start (length records)) pieces) pen mid
          → ((others : List R) → AreCellsOf form pen.vector others → AreCellsOf form (vector_after mid) (replaced others (one_run start (length records)) records))
          → IsBegun form keeps (vault_with form pen list) (changed_frame form (one_run start (length records)) (joined (put_in ∷ []))) mid (put_in ∷ [])
      put_begun mid begins next = record {
        kept = is;
        whole = may.whole;
        begins = subst (λ frame. BeginsFrame frame pen mid) frame_is begins;
        size_is = is.size_is may.whole ∙ sym put_touched.same_length;
        next_is = λ model.
            subst (AreCellsOf form (vector_after mid)) (sym alone)
            (next was (subst (AreCellsOf form pen.vector) (is.whole model may.whole) (is.file_is model)));
      }

-- what the begin of a change of these pieces promises
pub record BeginsPut {R D : Type 0} (form : Encoding R) (start : ℕ) (pieces : List (List R)) (old new : PenOf D) : Type 0 where
  pub some : 0 < length (joined pieces)
  pub allowed : first_refusal (change_lines old (one_run start (length (joined pieces)))) ≡ None
  pub begun : BeginsFrame (change_frame form (one_run start (length (joined pieces))) pieces) old new
  pub next : (others : List R) → AreCellsOf form old.vector others → AreCellsOf form (vector_after new) (replaced others (one_run start (length (joined pieces))) (joined pieces))

module _ {R D : Type 0} (form : Encoding R) (device : Device D) (pen : PenOf D) (list : List R) (is : IsVault (device.keeps pen.disk) form (vault_with form pen list))
    (start : ℕ) (pieces : List (List R)) where
  abbrev given_records : List R
  given_records = joined pieces

  -- it wasn't begun
  pub put_refused : (new : PenOf D) (fault : PenFault) → 0 < length (joined pieces) → IsUnchanged pen new → IsRefusal (change_lines pen (one_run start (length (joined pieces)))) fault
      → IsNotPut form device.keeps device.states device.faults start (joined pieces) list pen new (Pen fault)
  put_refused new fault some same why =
      let lines = change_lines pen (one_run start (length (joined pieces))) in
      let quiets : AreQuiet lines = (refl, (refl, (refl, (refl, (refl, (refl, (refl, tt))))))) in
      record {
        behind = list;
        refused = record {
          some = some;
          command = refused_command form device.keeps device.states device.faults (vault_with form pen list) is _ lines new fault same quiets why;
          list = stands_was _ _ fault (quiet lines fault quiets why) refl;
        };
      }

  module _ (mid new : PenOf D) (begins : BeginsPut form start pieces pen mid) (model : device.keeps new.disk → device.keeps mid.disk)
      (images : device.keeps new.disk → LeavesOnly (device.states mid.disk) (device.states new.disk) (MayOpen mid)) where
    abbrev now_in : List R
    now_in = put_in form device.keeps pen list is start (joined pieces)

    begun : IsBegun form device.keeps (vault_with form pen list) (changed_frame form (one_run start (length (joined pieces))) (joined (now_in ∷ []))) mid (now_in ∷ [])
    begun = put_begun form device.keeps pen list is start (joined pieces) begins.allowed pieces refl mid begins.begun begins.next

    touched : IsTouched (given_from start (joined pieces)) (one_run start (length (joined pieces))) (list_of (vault_with form pen list)) (joined (now_in ∷ []))
    touched = put_touched form device.keeps pen list is start (joined pieces) begins.allowed

    -- it was committed
    pub put_done : IsLogSettled mid new → new.broken ≡ false → (device.keeps new.disk → new.vector ≡ vector_after mid)
        → clock (device.states new.disk) ≡ clock (device.states mid.disk) + log_left mid.job → device.faults new.disk ≡ device.faults mid.disk
        → (device.keeps mid.disk → device.keeps new.disk) → (device.keeps new.disk → new.frames ≡ frames_after mid)
        → IsPutFrom form device.keeps device.states device.faults start (joined pieces) list pen new
    put_done settled still file time calls goes_on frames = record {
      behind = now_in;
      set = record {
        list = touched;
        some = λ _. committed_command device begun new model images settled still file (change_lines pen (one_run start (length (joined pieces)))) begins.allowed time calls goes_on frames;
        none = λ none. absurd (let some = begins.some in let zero_len = ap length none in omega arith);
      };
      kept = done_kept begun new model settled still file;
    }

    -- a device call of its commit failed
    pub put_stopped : (fault : PenFault) → IsLogFault mid new fault → (device.keeps new.disk → FileSame mid new)
        → clock (device.states new.disk) + log_left new.job ≡ clock (device.states mid.disk) + log_left mid.job + failed_calls fault
        → device.faults new.disk ≡ device.faults mid.disk + failed_calls fault
        → IsNotPut form device.keeps device.states device.faults start (joined pieces) list pen new (Pen fault)
    put_stopped fault why file time calls = record {
      behind = now_in;
      refused = record {
        some = begins.some;
        command = stopped_command device begun new model images fault why file (change_lines pen (one_run start (length (joined pieces)))) begins.allowed time calls;
        list = failed_stands begun new model fault why file _ _ touched;
      };
    }
