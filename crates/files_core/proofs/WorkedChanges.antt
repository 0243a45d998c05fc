-- What the definitions of commands that change a file say, on lists of few records: what each allows, and the nearest that it doesn't.
use Rattle.std.proofs.Common.{◌≡◌, inl, inr, ℕ, zero, suc, ◌+◌, ◌-◌, ◌*◌, ◌^◌, ◌<◌, ◌≤◌, true, false, List, []}
use Rattle.std.proofs.Common.{◌∷◌, ◌++◌, length, get_or, replicate, Ok, Err, refl, sym, ap, subst, ◌∙◌, arith, codes, option_map, slice_get}
use Rattle.std.specs.Fmt.{digits}
use Rattle.std.proofs.lemmas.Bool.Decides.{nat_tests}
use Rattle.record_core.specs.Bytes.{Encoding}
use Rattle.disk_core.specs.State.{State, now, settled, IsImage}
use Rattle.disk_core.specs.declared.fault.DiskFault.{DiskFault}
use Rattle.disk_core.specs.declared.fault.DiskFault.TheVariants.{Sync}
use Rattle.disk_core.proofs.ImageLemmas.{settled_image}
use Rattle.std.specs.Prelude.{Option, Some, None}
use Rattle.std.specs.declared.num.NonZeroU32.{NonZeroU32}
use Rattle.segment_core.specs.declared.format.Format.{Format}
use Rattle.segment_core.specs.declared.format.Format.TheVariants.{One, Two}
use Rattle.segment_core.specs.Vector.{HasVector}
use Rattle.segment_core.specs.Written.{group_frame}
use Rattle.segment_core.specs.Frame.{Run, Frame, Group, Change, Shrink}
use Rattle.segment_core.specs.Shape.{shape_of}
use Rattle.segment_core.proofs.OneVector.{same_items, sound_header}
use Rattle.pen_core.specs.declared.fault.OpenFault.{OpenFault}
use Rattle.pen_core.specs.declared.fault.OpenFault.TheVariants.{Disk}
use Rattle.pen_core.specs.declared.fault.PenFault.TheVariants as faults
use Rattle.pen_core.specs.Births.{IsExisting}
use Rattle.pen_core.specs.Pen.{IsKept}
use Rattle.pen_core.specs.Refusals.{group_lines, shrink_lines, change_lines}
use Rattle.pen_core.specs.Typed.{OpensTo}
use Rattle.pen_core.proofs.Typed.{OpensTo_same}
use Rattle.vault_core.specs.declared.fault.VaultFault.{VaultFault}
use Rattle.vault_core.specs.declared.fault.VaultFault.TheVariants.{Pen, Unsettled, WrongPhase}
use Rattle.vault_core.specs.declared.upgrading.UpgradeFault.TheVariants.{Old, NotOld}
use Rattle.vault_core.specs.Commands.{IsCommand, changed_frame, resized}
use Rattle.vault_core.specs.Touched.{IsTouched, cover}
use Rattle.vault_core.specs.Vault.{VaultOf, list_of}
use Rattle.files_core.specs.declared.fault.FileFault.TheVariants as told
use Rattle.files_core.specs.declared.fault.Word.{Word}
use Rattle.files_core.specs.Changing.{IsSet, IsResized, IsCleared, HasWorked, IsWorkFault, IsSetFault, IsClearFault, IsResizeFault}
use Rattle.files_core.specs.Creating.{IsCreated, IsCreateRefusal}
use Rattle.files_core.specs.Given.{given_from}
use Rattle.files_core.specs.Opened.{IsNotOpened, IsOpenedOn}
use Rattle.files_core.specs.Texts.{copied_line, upgraded_line}
use Rattle.files_core.specs.Upgraded.{HasCopied, IsCopyCommandFault, IsUpgraded, AreCallsBefore, failed_before}
use Rattle.vault_core.specs.Upgrading.{IsGreatestPiece}

abbrev run : ℕ → ℕ → Run
run start count = record { start = start; count = count }

-- ---- what records become: from position 1 on the two that are given, and no other

given : (given_from {R = ℕ} 1 (8 ∷ 9 ∷ []) 0 5 ≡ 5) × (given_from {R = ℕ} 1 (8 ∷ 9 ∷ []) 1 5 ≡ 8) × (given_from {R = ℕ} 1 (8 ∷ 9 ∷ []) 2 5 ≡ 9) × (given_from {R = ℕ} 1 (8 ∷ 9 ∷ []) 3 5 ≡ 5)
given = (refl, refl, refl, refl)

module _ {D : Type 0} (form : Encoding ℕ) (keeps : D → Type 0) (states : D → List State) (counted : D → ℕ) (v w : VaultOf ℕ D) where
  -- ---- two records are put behind the first of four

  abbrev SetTwo : Type 0
  SetTwo = IsSet form keeps states counted 1 (8 ∷ 9 ∷ []) v w

  abbrev by_change : Frame
  by_change = Change (run 1 2 ∷ []) (form.bytes_of 8 ++ (form.bytes_of 9 ++ []))

  abbrev before : List ℕ
  before = 5 ∷ 6 ∷ 6 ∷ 7 ∷ []

  abbrev behind : List ℕ
  behind = 5 ∷ 8 ∷ 9 ∷ 7 ∷ []

  touched_alone : (one : List ℕ) → IsTouched (given_from 1 (8 ∷ 9 ∷ [])) (run 1 2 ∷ []) before one → one ≡ behind
  touched_alone one so = same_items one behind so.same_length each
    where
      each : (i : ℕ) → i < length one → slice_get one i ≡ slice_get behind i
      each zero lt = so.outside 0 refl
      each (suc zero) lt = so.inside 1 refl
      each (suc (suc zero)) lt = so.inside 2 refl
      each (suc (suc (suc zero))) lt = so.outside 3 refl
      each (suc (suc (suc (suc i)))) lt = absurd (omega (arith, lt, so.same_length))

  touched : IsTouched {R = ℕ} (given_from 1 (8 ∷ 9 ∷ [])) (run 1 2 ∷ []) before behind
  touched = record { same_length = refl; inside = within; outside = without }
    where
      within : (i : ℕ) → cover (run 1 2 ∷ []) i ≡ true → slice_get behind i ≡ option_map (given_from 1 (8 ∷ 9 ∷ []) i) (slice_get before i)
      within zero on = absurd cc
      within (suc zero) on = refl
      within (suc (suc zero)) on = refl
      within (suc (suc (suc i))) on = absurd (grind (arith, nat_tests))

      without : (i : ℕ) → cover (run 1 2 ∷ []) i ≡ false → slice_get behind i ≡ slice_get before i
      without zero off = refl
      without (suc zero) off = absurd cc
      without (suc (suc zero)) off = absurd cc
      without (suc (suc (suc zero))) off = refl
      without (suc (suc (suc (suc i)))) off = refl

  module _ (was : list_of v ≡ before) where
    set_alone : SetTwo → list_of w ≡ behind
    set_alone so = touched_alone (list_of w) (subst (λ old. IsTouched (given_from 1 (8 ∷ 9 ∷ [])) (run 1 2 ∷ []) old (list_of w)) was so.list)

    -- by one change of just these two
    set_by : SetTwo → IsCommand form keeps states counted by_change (change_lines v.pen (run 1 2 ∷ [])) v w (Ok tt)
    set_by so = subst (λ new. IsCommand form keeps states counted (changed_frame form (run 1 2 ∷ []) new) (change_lines v.pen (run 1 2 ∷ [])) v w (Ok tt)) (set_alone so) (so.some (omega arith))

    is_set : list_of w ≡ behind → IsCommand form keeps states counted by_change (change_lines v.pen (run 1 2 ∷ [])) v w (Ok tt) → SetTwo
    is_set is command = record {
      list = subst (λ new. IsTouched (given_from 1 (8 ∷ 9 ∷ [])) (run 1 2 ∷ []) (list_of v) new) (sym is)
          (subst (λ old. IsTouched (given_from 1 (8 ∷ 9 ∷ [])) (run 1 2 ∷ []) old behind) (sym was) touched);
      some = λ more. subst (λ new. IsCommand form keeps states counted (changed_frame form (run 1 2 ∷ []) new) (change_lines v.pen (run 1 2 ∷ [])) v w (Ok tt)) (sym is) command;
      none = λ no. absurd (omega (arith, ap length no));
    }

    not_one_alone : list_of w ≡ 5 ∷ 8 ∷ 6 ∷ 7 ∷ [] → SetTwo → ⊥
    not_one_alone is so = absurd (omega (arith, ap (λ (rs : List ℕ). get_or rs 2 0) (sym is ∙ set_alone so)))

    not_at_the_front : list_of w ≡ 8 ∷ 9 ∷ 6 ∷ 7 ∷ [] → SetTwo → ⊥
    not_at_the_front is so = absurd (omega (arith, ap (λ (rs : List ℕ). get_or rs 0 0) (sym is ∙ set_alone so)))

    -- a refusal leaves the list; a call of the disk that failed may leave the new one
    set_refused : IsSetFault form keeps states counted 1 (8 ∷ 9 ∷ []) v w (Pen faults.OutOfRange) → w.blocks ≡ v.blocks
    set_refused so = so.list

    set_failed : (cause : DiskFault) → IsSetFault form keeps states counted 1 (8 ∷ 9 ∷ []) v w (Pen (faults.Disk cause)) → list_of w ≡ behind
    set_failed cause so = touched_alone (list_of w) (subst (λ old. IsTouched (given_from 1 (8 ∷ 9 ∷ [])) (run 1 2 ∷ []) old (list_of w)) was so.list)

  set_failed_by : (fault : VaultFault) → list_of w ≡ behind → IsSetFault form keeps states counted 1 (8 ∷ 9 ∷ []) v w fault
      → IsCommand form keeps states counted by_change (change_lines v.pen (run 1 2 ∷ [])) v w (Err fault)
  set_failed_by fault is so = subst (λ new. IsCommand form keeps states counted (changed_frame form (run 1 2 ∷ []) new) (change_lines v.pen (run 1 2 ∷ [])) v w (Err fault)) is so.command

  -- no record is no change, and refused by nothing
  set_none : (start : ℕ) → IsSet form keeps states counted start [] v w → w ≡ v
  set_none start so = so.none refl

  no_set_fault : (start : ℕ) (fault : VaultFault) → IsSetFault form keeps states counted start [] v w fault → ⊥
  no_set_fault start fault so = absurd (omega (arith, so.some))

  -- ---- a list of two is made longer, shorter, and as long as it is

  module _ (was : list_of v ≡ 5 ∷ 6 ∷ []) where
    abbrev Resized : ℕ → Type 0
    Resized n = IsResized form keeps states counted n 9 v w

    two : length (list_of v) ≡ 2
    two = ap length was

    longer : Resized 4 → list_of w ≡ 5 ∷ 6 ∷ 9 ∷ 9 ∷ []
    longer so = so.list ∙ ap (λ old. resized 4 9 old) was

    shorter : Resized 1 → list_of w ≡ 5 ∷ []
    shorter so = so.list ∙ ap (λ old. resized 1 9 old) was

    as_long : Resized 2 → w ≡ v
    as_long so = so.same (sym two)

    -- by one growth of two copies, and by a shrink
    longer_by : Resized 4 → IsCommand form keeps states counted (Group (2 ∷ []) (form.bytes_of 9 ++ (form.bytes_of 9 ++ []))) (group_lines v.pen 2 (8 + 2 * form.width)) v w (Ok tt)
    longer_by so =
        subst (λ n. IsCommand form keeps states counted (group_frame form (replicate (4 - n) 9 ∷ [])) (group_lines v.pen (4 - n) (8 + (4 - n) * form.width)) v w (Ok tt)) two
        (so.up (omega (arith, two)))

    shorter_by : Resized 1 → IsCommand form keeps states counted (Shrink 1) (shrink_lines v.pen 1) v w (Ok tt)
    shorter_by so = so.down (omega (arith, two))

    is_longer : list_of w ≡ 5 ∷ 6 ∷ 9 ∷ 9 ∷ []
        → IsCommand form keeps states counted (Group (2 ∷ []) (form.bytes_of 9 ++ (form.bytes_of 9 ++ []))) (group_lines v.pen 2 (8 + 2 * form.width)) v w (Ok tt) → Resized 4
    is_longer is command = record {
      list = is ∙ sym (ap (λ old. resized 4 9 old) was);
      up =
          λ less. subst (λ n. IsCommand form keeps states counted (group_frame form (replicate (4 - n) 9 ∷ [])) (group_lines v.pen (4 - n) (8 + (4 - n) * form.width)) v w (Ok tt)) (sym two) command;
      down = λ more. absurd (omega (arith, more, two));
      same = λ same. absurd (omega (arith, same, two));
    }

    is_shorter : list_of w ≡ 5 ∷ [] → IsCommand form keeps states counted (Shrink 1) (shrink_lines v.pen 1) v w (Ok tt) → Resized 1
    is_shorter is command = record {
      list = is ∙ sym (ap (λ old. resized 1 9 old) was);
      up = λ less. absurd (omega (arith, less, two));
      down = λ more. command;
      same = λ same. absurd (omega (arith, same, two));
    }

    not_one_more : list_of w ≡ 5 ∷ 6 ∷ 9 ∷ [] → Resized 4 → ⊥
    not_one_more is so = absurd (omega (arith, ap length (sym is ∙ longer so)))

    not_the_last_alone : list_of w ≡ 6 ∷ [] → Resized 1 → ⊥
    not_the_last_alone is so = absurd (omega (arith, ap (λ (rs : List ℕ). get_or rs 0 0) (sym is ∙ shorter so)))

    resize_refused : (n : ℕ) → IsResizeFault form keeps states counted n 9 v w (Pen faults.Unfolded) → w.blocks ≡ v.blocks
    resize_refused n so = so.list

    resize_failed : (cause : DiskFault) → IsResizeFault form keeps states counted 1 9 v w (Pen (faults.Disk cause)) → list_of w ≡ 5 ∷ []
    resize_failed cause so = so.list ∙ ap (λ old. resized 1 9 old) was

    resize_failed_by : (fault : VaultFault) → IsResizeFault form keeps states counted 1 9 v w fault → IsCommand form keeps states counted (Shrink 1) (shrink_lines v.pen 1) v w (Err fault)
    resize_failed_by fault so = so.down (omega (arith, two))

    -- nothing that is nothing to do is refused
    resize_of_nothing : (fault : VaultFault) → IsResizeFault form keeps states counted 2 9 v w fault → ⊥
    resize_of_nothing fault so = so.other (sym two)

    -- ---- and cleared

    cleared : IsCleared form keeps states counted v w → (list_of w ≡ []) × IsCommand form keeps states counted (Shrink 0) (shrink_lines v.pen 0) v w (Ok tt)
    cleared so = (so.list, so.some (omega (arith, two)))

    is_cleared : list_of w ≡ [] → IsCommand form keeps states counted (Shrink 0) (shrink_lines v.pen 0) v w (Ok tt) → IsCleared form keeps states counted v w
    is_cleared is command = record { list = is; some = λ some. command; none = λ none. absurd (omega (arith, two, ap length none)) }

    not_the_first_left : list_of w ≡ 5 ∷ [] → IsCleared form keeps states counted v w → ⊥
    not_the_first_left is so = absurd (omega (arith, ap length (sym is ∙ so.list)))

    clear_refused : IsClearFault form keeps states counted v w (Pen faults.Unfolded)
        → (w.blocks ≡ v.blocks) × IsCommand form keeps states counted (Shrink 0) (shrink_lines v.pen 0) v w (Err (Pen faults.Unfolded))
    clear_refused so = (so.list, so.command)

  clear_of_none : list_of v ≡ [] → IsCleared form keeps states counted v w → w ≡ v
  clear_of_none none so = so.none none

  never_so : (number : ℕ) (n : ℕ) (r : ℕ) → (IsClearFault form keeps states counted v w (Unsettled number) → ⊥)
      × (IsClearFault form keeps states counted v w WrongPhase → ⊥)
      × (IsResizeFault form keeps states counted n r v w WrongPhase → ⊥) × (IsSetFault form keeps states counted n (r ∷ []) v w WrongPhase → ⊥)
  never_so number n r = (λ so. so.list, λ so. so.list, λ so. so.list, λ so. so.list)

  -- ---- the work of one command

  module _ (IsDone : VaultOf ℕ D → VaultOf ℕ D → Type 0) (disk left : D) where
    worked_on_it : (so : HasWorked form keeps states counted IsDone disk left) → (so.after.pen.disk ≡ left) × IsDone so.before so.after × (keeps left → IsKept (states left) so.after.pen)
        × IsOpenedOn form keeps states counted disk so.before
    worked_on_it so = (so.disk_is, so.done, so.kept, so.opened)

    no_work_by_others : (why : VaultOf ℕ D → VaultOf ℕ D → VaultFault → Type 0) (word : Word) → IsWorkFault form keeps states counted why disk left (told.Word word) → ⊥
    no_work_by_others why word so = so

    by_its_vault : (why : VaultOf ℕ D → VaultOf ℕ D → VaultFault → Type 0) (fault : VaultFault) (so : IsWorkFault form keeps states counted why disk left (told.Vault fault))
        → IsOpenedOn form keeps states counted disk so.0 × (so.1.pen.disk ≡ left) × why so.0 so.1 fault
    by_its_vault why fault so = (so.2, so.3, so.4)

    unopened : (why : VaultOf ℕ D → VaultOf ℕ D → VaultFault → Type 0) (fault : OpenFault) → IsWorkFault form keeps states counted why disk left (told.Open fault)
        → IsNotOpened form keeps states counted disk left fault
    unopened why fault so = so

-- ---- files that are made and upgraded: on disks that are their states

abbrev Disks : Type 0
Disks = List State

abbrev itself : Disks → List State
itself states = states

abbrev known : Disks → Type 0
known states = Unit {0}

abbrev no_fault : Disks → ℕ
no_fault states = 0

module _ (form : Encoding ℕ) (small : form.width < 2 ^ 16) (one two : List ℕ) (opens_one : OpensTo form one (5 ∷ [])) (opens_two : OpensTo form two (5 ∷ 6 ∷ [])) where
  abbrev nothing : Disks
  nothing = settled [] ∷ []

  as_many : (image : List ℕ) (a b : List ℕ) → OpensTo form image a → OpensTo form image b → length a ≡ length b
  as_many image a b to_a to_b = ap length (OpensTo_same form image a b small to_a to_b)

  -- a file that was made has no record, and its version
  module _ (left : Disks) (so : IsCreated form known itself no_fault Two nothing left) where
    made_on_it : so.vault.pen.disk ≡ left
    made_on_it = so.disk_is

    of_version_two : (so.vault.pen.shape ≡ shape_of Two form) × (so.vault.blocks ≡ [])
    of_version_two = (so.made.created.0.shape_is, so.made.created.1)

  not_full : IsCreated form known itself no_fault Two nothing (settled one ∷ nothing) → ⊥
  not_full so = omega (arith, as_many one [] (5 ∷ []) (so.settled tt one (settled_image one)) opens_one)

  not_over_another : (bytes : List ℕ) (left : Disks) → IsExisting bytes → IsCreated form known itself no_fault Two (settled bytes ∷ []) left → ⊥
  not_over_another bytes left exists so = so.made.none_existed tt exists

  -- and none is said to exist that doesn't
  no_file : IsExisting [] → ⊥
  no_file exists = elim exists [ inl long ↦ absurd (omega (arith, long)) | inr opened ↦ absurd (omega (arith, opened.0)) ]

  not_existing : (left : Disks) → IsCreateRefusal {R = ℕ} form known itself no_fault Two nothing left (told.Vault (Pen faults.Exists)) → ⊥
  not_existing left so = no_file (so.exists tt refl)

  never_at_opening : (left : Disks) (fault : OpenFault) → (IsCreateRefusal {R = ℕ} form known itself no_fault Two nothing left (told.Open fault) → ⊥)
      × (IsCreateRefusal {R = ℕ} form known itself no_fault Two nothing left (told.Vault WrongPhase) → ⊥)
  never_at_opening left fault = (λ so. so, λ so. so)

  -- ---- upgrades

  -- records of 8 bytes: 8 bytes and 2,097,151 of them take 16 MiB
  greatest_of_eight : IsGreatestPiece Two 8 2097151
  greatest_of_eight n = (λ few. omega (arith, few), λ fits. omega (arith, fits))

  no_other_greatest : (piece : ℕ) → IsGreatestPiece Two 8 piece → piece ≡ 2097151
  no_other_greatest piece is =
      let least : 2097151 ≤ piece = (is 2097151).1 (omega arith) in
      let most : 2097152 ≤ piece → ⊥ = λ more. (let fits = (is 2097152).0 more in omega (arith, fits)) in
      omega (arith, least, most)

  abbrev Upgraded : List ℕ → Disks → List ℕ → Type 0
  Upgraded bytes left_new text = IsUpgraded form known itself known itself no_fault (settled bytes ∷ []) nothing (settled bytes ∷ []) left_new text

  was_two : (left_new : Disks) (text : List ℕ) (so : Upgraded two left_new text) → list_of so.vault ≡ 5 ∷ 6 ∷ []
  was_two left_new text so = let file = so.file tt in OpensTo_same form two (list_of so.vault) (5 ∷ 6 ∷ []) small (record { format = One; frames = file.0; vector = file.1 }) opens_two

  told_two : (left_new : Disks) (text : List ℕ) → Upgraded two left_new text → text ≡ codes "upgraded size 2\n"
  unfolding digits
  told_two left_new text so = so.told ∙ ap (λ (rs : List ℕ). upgraded_line (length rs)) (was_two left_new text so)

  new_disk : (left_new : Disks) (text : List ℕ) (so : Upgraded two left_new text) → (so.vault.pen.disk ≡ left_new) × IsGreatestPiece Two form.width so.piece
  new_disk left_new text so = (so.disk_is, so.greatest)

  not_one_of_two : (text : List ℕ) → Upgraded two (settled one ∷ []) text → ⊥
  not_one_of_two text so =
      let opens = so.copied.opens tt one (subst (λ disk. IsImage (now disk) one) (sym so.disk_is) (settled_image one)) in
      omega (arith, as_many one (list_of so.vault) (5 ∷ []) opens opens_one, ap length (was_two (settled one ∷ []) text so))

  not_from_version_two : (left_new : Disks) (text : List ℕ) (frames : List Frame) (records : List ℕ) → HasVector Two form two frames records → Upgraded two left_new text → ⊥
  not_from_version_two left_new text frames records of_two so =
      let file = so.file tt in
      let first = (sound_header One form.width two file.0 small file.1.framed).names in
      let second = (sound_header Two form.width two frames small of_two.framed).names in
      absurd (let clash = sym first ∙ second in cc)

  -- ---- copies

  module _ (format : Option Format) (block : Option NonZeroU32) where
    abbrev Copied : List ℕ → Disks → List ℕ → Type 0
    Copied bytes left_new text = HasCopied form known itself known itself no_fault (settled bytes ∷ []) nothing (settled bytes ∷ []) left_new format block text

    had_two : (left_new : Disks) (text : List ℕ) (so : Copied two left_new text) → list_of so.vault ≡ 5 ∷ 6 ∷ []
    had_two left_new text so =
        let file = so.copied.file tt in OpensTo_same form two (list_of so.vault) (5 ∷ 6 ∷ []) small (record { format = so.copied.own; frames = file.0; vector = file.1 }) opens_two

    told_two_copied : (left_new : Disks) (text : List ℕ) → Copied two left_new text → text ≡ codes "copied size 2\n"
    unfolding digits
    told_two_copied left_new text so = so.told ∙ ap (λ (rs : List ℕ). copied_line (length rs)) (had_two left_new text so)

    not_one_copied : (text : List ℕ) → Copied two (settled one ∷ []) text → ⊥
    not_one_copied text so =
        let opens = so.copied.copied.opens tt one (subst (λ disk. IsImage (now disk) one) (sym so.disk_is) (settled_image one)) in
        omega (arith, as_many one (list_of so.vault) (5 ∷ []) opens opens_one, ap length (had_two (settled one ∷ []) text so))

    never_for_its_version : (old left left_new : Disks) → IsCopyCommandFault form known itself known itself no_fault old nothing left left_new format block (told.Upgrade NotOld) → ⊥
    never_for_its_version old left left_new so = so

  -- a file of version 1 has a copy of version 1, unless another is asked for
  of_its_version : (block : Option NonZeroU32) (left_new : Disks) (text : List ℕ) (frames : List Frame) (records : List ℕ) → HasVector One form two frames records
      → (so : Copied None block two left_new text) → so.vault.pen.shape ≡ shape_of One form
  of_its_version block left_new text frames records of_one so =
      let file = so.copied.file tt in
      let first = (sound_header so.copied.own form.width two file.0 small file.1.framed).names in
      let second = (sound_header One form.width two frames small of_one.framed).names in
      so.copied.copied.written.shape_is ∙ ap (λ f. shape_of f form) (sym first ∙ second)

  of_the_asked_version : (block : Option NonZeroU32) (bytes : List ℕ) (left_new : Disks) (text : List ℕ) (so : Copied (Some Two) block bytes left_new text) → so.vault.pen.shape ≡ shape_of Two form
  of_the_asked_version block bytes left_new text so = so.copied.copied.written.shape_is

-- the calls of the old disk that a refusal tells
upgrade_calls : (n : ℕ) → AreCallsBefore 56 n (told.Upgrade NotOld) → (2 ≤ n) × (n ≤ 3)
upgrade_calls n calls = (calls.0, calls.1)

upgrade_alone : (len n : ℕ) (word : Word) (fault : VaultFault) → (AreCallsBefore len n (told.Word word) → ⊥) × (AreCallsBefore len n (told.Vault fault) → ⊥) × (failed_before (told.Word word) ≡ 0)
    × (failed_before (told.Upgrade NotOld) ≡ 0) × (failed_before (told.Upgrade (Old (Disk Sync))) ≡ 1)
upgrade_alone len n word fault = (λ so. so, λ so. so, refl, refl, refl)
