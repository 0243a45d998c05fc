-- Lengths that are reached in parts.
use Rattle.std.proofs.Common.{◌≡◌, ◌⊎◌, ℕ, zero, suc, ◌+◌, ◌-◌, ◌*◌, ◌<◌, ◌≤◌, ◌^◌, Bool, false, List, [], ◌∷◌, ◌++◌, length, replicate, Ok, Err, Result, MatchResult, OnOk, inl, inr, refl, sym, ap, subst, ◌∙◌, arith}
use Rattle.std.specs.Prelude.{IfErr, IsErrAnd}
use Rattle.std.proofs.lemmas.List.{append_assoc, append-nil, length-append, length-replicate, replicate-append-replicate, take_all}
use Rattle.record_core.specs.Bytes.{Encoding}
use Rattle.disk_core.specs.State.{State, now, IsImage}
use Rattle.disk_core.specs.Calls.{bytes_of}
use Rattle.disk_core.specs.Moments.{LeavesOnly}
use Rattle.disk_core.proofs.JoinedMoments.{LeavesOnly-join, LeavesOnly-weaker}
use Rattle.segment_core.specs.Frame.{Frame, Shrink}
use Rattle.segment_core.specs.declared.format.Format.{Format}
use Rattle.segment_core.specs.declared.format.Format.TheVariants.{One, Two}
use Rattle.segment_core.specs.Written.{group_frame, joined}
use Rattle.pen_core.specs.declared.fault.PenFault.{PenFault}
use Rattle.pen_core.specs.declared.fault.PenFault.TheVariants as faults
use Rattle.pen_core.specs.Refusals.{group_lines, shrink_lines}
use Rattle.pen_core.specs.Typed.{OpensTo}
use Rattle.vault_core.specs.declared.fault.VaultFault.{VaultFault}
use Rattle.vault_core.specs.declared.fault.VaultFault.TheVariants.{Pen, Unsettled, WrongPhase}
use Rattle.vault_core.specs.Commands.{IsCommand, IsNothingFault, StandsCommanded, resized}
use Rattle.vault_core.specs.Upgrading.{IsGreatestPiece}
use Rattle.vault_core.specs.Vault.{VaultOf, OpensToEither, list_of}
use Rattle.files_core.specs.Changing.{IsResized, IsResizeFault}
use Rattle.files_core.specs.Lengthened.{HasComeNear, HasGrownBy, IsLengthened, IsLengthenFault, OpensToPart, StandsInPart, StandsWhole}
use Rattle.files_core.specs.Opened.{IsOpenedOn, LeavesBeforeOr}
use Rattle.files_core.proofs.Changed.{IsTakenFrom, three_ways}
use Rattle.files_core.proofs.Opened.{opened_alone, opened_list, opens_same}

-- ---- lists of another length

-- copies behind it
pub resized-up : {X : Type 0} (n : ℕ) (x : X) (xs : List X) → length xs ≤ n → resized n x xs ≡ xs ++ replicate (n - length xs) x
resized-up n x xs le = ap (λ front. front ++ replicate (n - length xs) x) (take_all n xs le)

pub length-resized-up : {X : Type 0} (n : ℕ) (x : X) (xs : List X) → length xs ≤ n → length (resized n x xs) ≡ n
length-resized-up n x xs le =
    let long = ap length (resized-up n x xs le) in
    omega (arith, le, long, length-append xs (replicate (n - length xs) x), length-replicate (n - length xs) x)

longer_twice : {X : Type 0} (x : X) (xs : List X) (j k : ℕ) → (xs ++ replicate j x) ++ replicate k x ≡ xs ++ replicate (j + k) x
longer_twice x xs j k = append_assoc xs (replicate j x) (replicate k x) ∙ ap (λ rs. xs ++ rs) (replicate-append-replicate j k x)

length_longer : {X : Type 0} (x : X) (xs : List X) (j : ℕ) → length (xs ++ replicate j x) ≡ length xs + j
length_longer x xs j = length-append xs (replicate j x) ∙ ap (λ m. length xs + m) (length-replicate j x)

-- whether some of the copies stood there before is the same
resized_behind : {X : Type 0} (n : ℕ) (x : X) (xs ys : List X) (j : ℕ) → ys ≡ xs ++ replicate j x → length xs + j ≤ n → resized n x ys ≡ resized n x xs
resized_behind n x xs ys j is le =
    let long : length ys ≡ length xs + j = ap length is ∙ length_longer x xs j in
    let rest : j + (n - length ys) ≡ n - length xs = omega (arith, le, long) in
    resized-up n x ys (omega (arith, le, long)) ∙ ap (λ front. front ++ replicate (n - length ys) x) is ∙ longer_twice x xs j (n - length ys)
    ∙ ap (λ m. xs ++ replicate m x) rest ∙ sym (resized-up n x xs (omega (arith, le)))

longer_again : {X : Type 0} (next : ℕ) (x : X) (xs ys : List X) (j k : ℕ) → ys ≡ xs ++ replicate j x → next ≡ length ys + k → resized next x ys ≡ xs ++ replicate (j + k) x
longer_again next x xs ys j k is more =
    let rest : next - length ys ≡ k = omega (arith, more) in
    resized-up next x ys (omega (arith, more)) ∙ ap (λ m. ys ++ replicate m x) rest ∙ ap (λ front. front ++ replicate k x) is ∙ longer_twice x xs j k

-- ---- refusals of a command

-- what it makes stands, or what was, by one fault and in each respect
both_stand : (made was made_too was_too : Type 0) (fault : VaultFault) → StandsCommanded made was fault → StandsCommanded made_too was_too fault → (made × made_too) ⊎ (was × was_too)
both_stand made was made_too was_too (Pen faults.Broken) one two = inr (one, two)
both_stand made was made_too was_too (Pen faults.Busy) one two = inr (one, two)
both_stand made was made_too was_too (Pen faults.OldFormat) one two = inr (one, two)
both_stand made was made_too was_too (Pen faults.Runs) one two = inr (one, two)
both_stand made was made_too was_too (Pen faults.OutOfRange) one two = inr (one, two)
both_stand made was made_too was_too (Pen faults.TooLarge) one two = inr (one, two)
both_stand made was made_too was_too (Pen faults.Unfolded) one two = inr (one, two)
both_stand made was made_too was_too (Pen faults.FileFull) one two = inr (one, two)
both_stand made was made_too was_too (Pen faults.Memory) one two = inr (one, two)
both_stand made was made_too was_too (Pen faults.Exists) one two = inr (one, two)
both_stand made was made_too was_too (Pen (faults.Disk cause)) one two = inl (one, two)
both_stand made was made_too was_too (Unsettled number) one two = absurd one
both_stand made was made_too was_too WrongPhase one two = absurd one

-- ---- growths, one behind the other

-- a frame takes a record of any width
pub some_fit : (format : Format) (width piece : ℕ) → width < 2 ^ 16 → IsGreatestPiece format width piece → 0 < piece
some_fit One width piece small greatest = (greatest 1).1 (omega (arith, small))
some_fit Two width piece small greatest = (greatest 1).1 (omega (arith, small))

module _ {R D : Type 0} (form : Encoding R) (keeps : D → Type 0) (states : D → List State) (faults : D → ℕ) where
  grown_list : (r : R) (v : VaultOf R D) (growths piece : ℕ) (u : VaultOf R D) → HasGrownBy form keeps states faults growths piece r v u
      → (j : ℕ) × (list_of u ≡ list_of v ++ replicate j r)
  grown_list r v zero piece u is = (0, ap list_of is ∙ sym (append-nil (list_of v)))
  grown_list r v (suc growths) piece w so =
      let before = grown_list r v growths piece so.0 so.1 in (
        before.0 + piece,
        so.2.list ∙ longer_again (length (list_of so.0) + piece) r (list_of v) (list_of so.0) before.0 piece before.1 refl,
      )

  -- the list of a length is the same, whether it is made of the one or of the other
  pub came_whole : (n : ℕ) (r : R) (v near : VaultOf R D) → HasComeNear form keeps states faults n r v near → resized n r (list_of near) ≡ resized n r (list_of v)
  came_whole n r v near came = whole came.growths came.piece came.grown came.short
    where
      whole : (growths piece : ℕ) → HasGrownBy form keeps states faults growths piece r v near → (0 < growths → length (list_of near) < n) → resized n r (list_of near) ≡ resized n r (list_of v)
      whole zero piece is short = ap (λ (x : VaultOf R D). resized n r (list_of x)) is
      whole (suc growths) piece so short =
          let is = grown_list r v (suc growths) piece near so in
          let long = ap length is.1 ∙ length_longer r (list_of v) is.0 in
          resized_behind n r (list_of v) (list_of near) is.0 is.1 (omega (arith, long, short (omega arith)))

-- the fault that a `?` passes on
pub told_err : {T E : Type 0} (r : Result T E) (fault : E) (P : E → Type 0) → IsErrAnd r (λ e. e ≡ fault) → P fault → IfErr r P
told_err (Ok x) fault P so holds = tt
told_err (Err e) fault P so holds = subst P (sym so) holds

-- ---- what a resize answers

module _ {R D : Type 0} (form : Encoding R) (keeps : D → Type 0) (states : D → List State) (faults : D → ℕ) (r : R) (u w : VaultOf R D) where
  -- of the growth of copies that it makes, of the shrink, and of nothing to do
  pub record AnswersResize (m : ℕ) (result : Result (Unit {0}) VaultFault) : Type 0 where
    pub list : MatchResult result (λ _. list_of w ≡ resized m r (list_of u)) (StandsCommanded (list_of w ≡ resized m r (list_of u)) (w.blocks ≡ u.blocks))
    pub up : length (list_of u) < m → IsCommand form keeps states faults (group_frame form (replicate (m - length (list_of u)) r ∷ []))
        (group_lines u.pen (m - length (list_of u)) (8 + (m - length (list_of u)) * form.width)) u w result
    pub down : m < length (list_of u) → IsCommand form keeps states faults (Shrink m) (shrink_lines u.pen m) u w result
    pub nothing : m ≡ length (list_of u) → (w ≡ u) × MatchResult result (λ _. u.pen.broken ≡ false) (IsNothingFault u.pen)

  pub resize_done : (m : ℕ) → AnswersResize m (Ok tt) → IsResized form keeps states faults m r u w
  resize_done m so = record { list = so.list; up = so.up; down = so.down; same = λ same. (so.nothing same).0 }

  -- it isn't refused where there is nothing to do, unless the vault is broken
  pub resize_refused : (m : ℕ) (fault : VaultFault) → (m ≡ length (list_of u) → u.pen.broken ≡ false) → AnswersResize m (Err fault) → IsResizeFault form keeps states faults m r u w fault
  resize_refused m fault whole so = record { up = so.up; down = so.down; other = λ same. absurd (cc (whole same, (so.nothing same).1.1)); list = so.list }

  module _ (n : ℕ) (v : VaultOf R D) (came : HasComeNear form keeps states faults n r v u) where
    -- the last resize
    pub last_done : (result : Result (Unit {0}) VaultFault) → (n ≤ 2 ^ 32 → n ≤ length (list_of u) + came.piece) → AnswersResize n result
        → OnOk result (IsLengthened form keeps states faults n r v w)
    last_done (Ok x) enough so = record { list = so.list ∙ came_whole form keeps states faults n r v u came; near = u; came = came; enough = enough; last = resize_done n so }
    last_done (Err fault) enough so = tt

    pub last_refused : (result : Result (Unit {0}) VaultFault) → v.pen.broken ≡ false → AnswersResize n result → IfErr result (IsLengthenFault form keeps states faults n r v w)
    last_refused (Ok x) whole so = tt
    last_refused (Err fault) whole so = record { near = u; came = came; next = n; next_is = inl refl; why = resize_refused n fault same so }
      where
        at : (growths piece : ℕ) → HasGrownBy form keeps states faults growths piece r v u → (0 < growths → length (list_of u) < n) → n ≡ length (list_of u) → u.pen.broken ≡ false
        at zero piece is short same = subst (λ (x : VaultOf R D). x.pen.broken ≡ false) (sym is) whole
        at (suc growths) piece is short same = absurd (omega (arith, same, short (omega arith)))

        same : n ≡ length (list_of u) → u.pen.broken ≡ false
        same = at came.growths came.piece came.grown came.short

    -- one growth more
    pub next_refused : (next : ℕ) (fault : VaultFault) → 0 < came.piece → next ≡ length (list_of u) + came.piece → next < n → AnswersResize next (Err fault)
        → IsLengthenFault form keeps states faults n r v w fault
    next_refused next fault some is less so =
        record { near = u; came = came; next = next; next_is = inr (is, less); why = resize_refused next fault (λ same. absurd (omega (arith, same, is, some))) so }

module _ {R D : Type 0} {form : Encoding R} {keeps : D → Type 0} {states : D → List State} {faults : D → ℕ} {disk : D} {v : VaultOf R D} (n : ℕ) (r : R)
    (opened : IsOpenedOn form keeps states faults disk v) where
  abbrev Part : List ℕ → Type 0
  Part = OpensToPart form (list_of v) n r

  -- a part of what is asked for, as a list
  pub IsPartList : List R → Type 0
  IsPartList records = (records ≡ resized n r (list_of v)) ⊎ ((k : ℕ) × (k ≤ n - length (list_of v)) × (records ≡ list_of v ++ replicate k r))

  -- Its file is known by what was written since it was opened: the records that are sure are a part, and those of its blocks.
  pub record IsPartLeft (w : VaultOf R D) : Type 0 where
    pub before : keeps v.pen.disk
    pub sure : IsPartList w.sure
    pub list : IsPartList (list_of w)
    pub images : LeavesBeforeOr (states disk) (states w.pen.disk) Part

  -- and nothing is in hand
  pub record Stands (w : VaultOf R D) : Type 0 where
    pub before : keeps v.pen.disk
    pub sure : w.sure ≡ list_of w
    pub images : LeavesBeforeOr (states disk) (states w.pen.disk) Part

  part_opens : (image : List ℕ) (records : List R) → IsPartList records → OpensTo form image records → Part image
  unfolding IsPartList
  part_opens image records (inl is) opens = inr (subst (OpensTo form image) is opens)
  part_opens image records (inr some) opens = inl (some.0, some.1, subst (OpensTo form image) some.2 opens)

  either_opens : (image : List ℕ) (one two : List R) → IsPartList one → IsPartList two → OpensToEither form one two image → Part image
  either_opens image one two first then (inl opens) = part_opens image one first opens
  either_opens image one two first then (inr opens) = part_opens image two then opens

  part_is : (one two : List R) → one ≡ two → IsPartList two → IsPartList one
  part_is one two is part = subst IsPartList (sym is) part

  -- ---- what was written by one command more

  then_leaves : (u w : VaultOf R D) → LeavesBeforeOr (states disk) (states u.pen.disk) Part → (P : List ℕ → Type 0) → ((image : List ℕ) → P image → Part image)
      → LeavesOnly (states u.pen.disk) (states w.pen.disk) P → LeavesBeforeOr (states disk) (states w.pen.disk) Part
  then_leaves u w before P part leaves =
      let Before : List ℕ → Type 0 = λ image. IsImage (now (states disk)) image ⊎ Part image in
      LeavesOnly-join (states disk) (states u.pen.disk) (states w.pen.disk) Before before
      (LeavesOnly-weaker (states u.pen.disk) (states w.pen.disk) P Before (λ image is. inr (part image is)) leaves)

  module _ (u w : VaultOf R D) (was : IsPartList (list_of u)) (stood : keeps u.pen.disk → Stands u) where
    committed_stands : (frame : Frame) (lines : List (Bool × PenFault)) → IsCommand form keeps states faults frame lines u w (Ok tt) → IsPartList (list_of w)
        → keeps w.pen.disk → Stands w
    committed_stands frame lines command part own =
        let so = stood (command.model own) in
        record {
          before = so.before;
          sure = command.sure own;
          images = then_leaves u w so.images (OpensToEither form u.sure (list_of w))
              (λ image. either_opens image u.sure (list_of w) (part_is u.sure (list_of u) so.sure was) part) (command.images own);
        }

    resized_stands : (m : ℕ) → IsResized form keeps states faults m r u w → IsPartList (list_of w) → keeps w.pen.disk → Stands w
    resized_stands m so part own = elim (three_ways (length (list_of u)) m) [
      | inl up ↦ committed_stands _ _ (so.up up) part own
      | inr (inl down) ↦ committed_stands _ _ (so.down down) part own
      | inr (inr same) ↦ subst (λ (x : VaultOf R D). keeps x.pen.disk → Stands x) (sym (so.same (sym same))) stood own
    ]

    refused_leaves : (frame : Frame) (lines : List (Bool × PenFault)) (fault : VaultFault) (made : List R) → IsPartList made
        → IsCommand form keeps states faults frame lines u w (Err fault) → StandsCommanded (list_of w ≡ made) (w.blocks ≡ u.blocks) fault → keeps w.pen.disk → IsPartLeft w
    refused_leaves frame lines fault made part command list own =
        let so = stood (command.model own) in
        let old : IsPartList u.sure = part_is u.sure (list_of u) so.sure was in
        let sure : IsPartList w.sure = part_is w.sure u.sure (command.sure own) old in
        elim (both_stand _ _ _ _ fault (command.images own) list) [
          | inl made_so ↦ let new : IsPartList (list_of w) = part_is (list_of w) made made_so.1 part in
              record {
                before = so.before;
                sure = sure;
                list = new;
                images = then_leaves u w so.images (OpensToEither form u.sure (list_of w)) (λ image. either_opens image u.sure (list_of w) old new) made_so.0;
              }
          | inr same ↦ record {
            before = so.before;
            sure = sure;
            list = part_is (list_of w) (list_of u) (ap joined same.1) was;
            images = subst (λ (d : D). LeavesBeforeOr (states disk) (states d) Part) (sym same.0) so.images;
          }
        ]

    resize_leaves : (m : ℕ) (fault : VaultFault) → IsResizeFault form keeps states faults m r u w fault → IsPartList (resized m r (list_of u)) → keeps w.pen.disk → IsPartLeft w
    resize_leaves m fault so part own = elim (three_ways (length (list_of u)) m) [
      | inl up ↦ refused_leaves _ _ fault (resized m r (list_of u)) part (so.up up) so.list own
      | inr (inl down) ↦ refused_leaves _ _ fault (resized m r (list_of u)) part (so.down down) so.list own
      | inr (inr same) ↦ absurd (so.other (sym same))
    ]

  -- ---- growths, one behind the other

  -- all of them are short of the length
  grown_part : (growths piece : ℕ) (u : VaultOf R D) → HasGrownBy form keeps states faults growths piece r v u → length (list_of u) ≤ n → IsPartList (list_of u)
  unfolding IsPartList
  grown_part growths piece u so le =
      let is = grown_list form keeps states faults r v growths piece u so in
      let long = ap length is.1 ∙ length_longer r (list_of v) is.0 in
      inr (is.0, omega (arith, le, long), is.1)

  own_part : IsPartList (list_of v)
  unfolding IsPartList
  own_part = inr (0, omega arith, sym (append-nil (list_of v)))

  opened_stands : keeps v.pen.disk → Stands v
  opened_stands own = record { before = own; sure = opened.sure own; images = opened_alone (states disk) (states v.pen.disk) Part (opened.only_syncs own) }

  grown_stands : (growths piece : ℕ) (u : VaultOf R D) → HasGrownBy form keeps states faults growths piece r v u → length (list_of u) ≤ n → keeps u.pen.disk → Stands u
  grown_stands zero piece u is le = subst (λ (x : VaultOf R D). keeps x.pen.disk → Stands x) (sym is) opened_stands
  grown_stands (suc growths) piece w so le =
      let long = ap length so.2.list ∙ length-resized-up (length (list_of so.0) + piece) r (list_of so.0) (omega arith) in
      let less : length (list_of so.0) ≤ n = omega (arith, le, long) in
      resized_stands so.0 w (grown_part growths piece so.0 so.1 less) (grown_stands growths piece so.0 so.1 less) (length (list_of so.0) + piece) so.2
      (grown_part (suc growths) piece w so le)

  -- ---- near the length

  module _ (near : VaultOf R D) where
    near_by_part : (growths piece : ℕ) → HasGrownBy form keeps states faults growths piece r v near → (0 < growths → length (list_of near) < n) → IsPartList (list_of near)
    near_by_part zero piece is short = part_is (list_of near) (list_of v) (ap list_of is) own_part
    near_by_part (suc growths) piece so short = grown_part (suc growths) piece near so (omega (arith, short (omega arith)))

    near_by_stands : (growths piece : ℕ) → HasGrownBy form keeps states faults growths piece r v near → (0 < growths → length (list_of near) < n) → keeps near.pen.disk → Stands near
    near_by_stands zero piece is short = subst (λ (x : VaultOf R D). keeps x.pen.disk → Stands x) (sym is) opened_stands
    near_by_stands (suc growths) piece so short = grown_stands (suc growths) piece near so (omega (arith, short (omega arith)))

    next_by_part : (growths piece next : ℕ) → HasGrownBy form keeps states faults growths piece r v near → next ≡ length (list_of near) + piece → next < n
        → IsPartList (resized next r (list_of near))
    unfolding IsPartList
    next_by_part growths piece next so is lt =
        let by = grown_list form keeps states faults r v growths piece near so in
        let long = ap length by.1 ∙ length_longer r (list_of v) by.0 in
        inr (by.0 + piece, omega (arith, long, is, lt), longer_again next r (list_of v) (list_of near) by.0 piece by.1 is)

    module _ (came : HasComeNear form keeps states faults n r v near) where
      near_part : IsPartList (list_of near)
      near_part = near_by_part came.growths came.piece came.grown came.short

      near_stands : keeps near.pen.disk → Stands near
      near_stands = near_by_stands came.growths came.piece came.grown came.short

      whole_part : (records : List R) → records ≡ resized n r (list_of near) → IsPartList records
      unfolding IsPartList
      whole_part records is = inl (is ∙ came_whole form keeps states faults n r v near came)

      next_part : (next : ℕ) → (next ≡ n) ⊎ ((next ≡ length (list_of near) + came.piece) × (next < n)) → IsPartList (resized next r (list_of near))
      next_part next (inl is) = whole_part (resized next r (list_of near)) (ap (λ m. resized m r (list_of near)) is)
      next_part next (inr so) = next_by_part came.growths came.piece next came.grown so.0 so.1

  -- ---- and at its end

  module _ (w : VaultOf R D) (left : D) (taken : IsTakenFrom form keeps states w left) (model : keeps left) where
    own_disk : keeps w.pen.disk
    own_disk = subst keeps taken.disk model

    part_of : IsPartLeft w → StandsInPart form states n r disk left
    part_of so = record {
      was = list_of v;
      file = opened_list form (bytes_of (states disk)) v.pen (list_of v) (opened.opened so.before);
      images = subst (λ (d : D). LeavesBeforeOr (states disk) (states d) Part) (sym taken.disk) so.images;
      stands = λ image is. either_opens image w.sure (list_of w) so.sure so.list (taken.images model image is);
    }

    pub refused_before : (fault : VaultFault) → IsLengthenFault form keeps states faults n r v w fault → keeps v.pen.disk
    refused_before fault so =
        (resize_leaves so.near w (near_part so.near so.came) (near_stands so.near so.came) so.next fault so.why (next_part so.near so.came so.next so.next_is) own_disk).before

    pub lengthened_before : IsLengthened form keeps states faults n r v w → keeps v.pen.disk
    lengthened_before so =
        (resized_stands so.near w (near_part so.near so.came) (near_stands so.near so.came) n so.last (whole_part so.near so.came (list_of w) so.last.list) own_disk).before

    pub refused_in_part : (fault : VaultFault) → IsLengthenFault form keeps states faults n r v w fault → StandsInPart form states n r disk left
    refused_in_part fault so =
        part_of (resize_leaves so.near w (near_part so.near so.came) (near_stands so.near so.came) so.next fault so.why (next_part so.near so.came so.next so.next_is) own_disk)

    pub lengthened_whole : IsLengthened form keeps states faults n r v w → StandsWhole form states n r disk left
    unfolding part_of
    lengthened_whole so =
        let part = whole_part so.near so.came (list_of w) so.last.list in
        let stands = resized_stands so.near w (near_part so.near so.came) (near_stands so.near so.came) n so.last part own_disk in
        record {
          meanwhile = part_of (record { before = stands.before; sure = part_is w.sure (list_of w) stands.sure part; list = part; images = stands.images });
          settled = λ image is. subst (OpensTo form image) so.list (opens_same form w.sure (list_of w) (list_of w) image stands.sure refl (taken.images model image is));
        }
