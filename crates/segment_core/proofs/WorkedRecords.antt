-- What is said of positions, records and commands, on worked frames: where homes stand, which bytes are loose, which
-- commands are legal and which frames they are, and how many records a file can hold.
use Rattle.std.proofs.Common.{◌≡◌, ℕ, zero, suc, ◌+◌, ◌*◌, ◌≤◌, ◌<◌, List, [], ◌∷◌, ◌++◌, Some, None, refl, sym, ap, ◌∙◌, arith}
use Rattle.std.specs.Prelude.{slice_get}
use Rattle.std.specs.List.{flat_map}
use Rattle.std.specs.Option.{option_and_then}
use Rattle.record_core.specs.Cells.{cell, AreRecords}
use Rattle.segment_core.specs.declared.format.Format.TheVariants.{One, Two}
use Rattle.segment_core.specs.declared.found.Home.{Home}
use Rattle.segment_core.specs.declared.format.Shape.{Shape}
use Rattle.segment_core.specs.Shape.{shape_of}
use Rattle.segment_core.specs.Frame.{Run, Frame, Group, Change, Shrink, Fold}
use Rattle.segment_core.specs.Layout.{u32_at, u64_at}
use Rattle.segment_core.specs.Command.{IsLegalCommand}
use Rattle.segment_core.specs.Command as commands
use Rattle.segment_core.specs.CommandFrame.{IsFrameOf}
use Rattle.segment_core.specs.Vector.{home_of}
use Rattle.segment_core.specs.Found.{AreInTurn, AreHomes, live_of, pairs_of}
use Rattle.segment_core.specs.Folding.{home_record_at, HomesHold, IsLoose}
use Rattle.segment_core.specs.Blanked.{all_blanked}
use Rattle.segment_core.specs.Raw.{cells_in, after_frame, AreReadAs, AreCellsOf}
use Rattle.segment_core.specs.Parsed.{frames_before}
use Rattle.segment_core.specs.Scanner.{CanHold}
use Rattle.segment_core.proofs.PlaceOf.{live_inside, change_of_none}
use Rattle.segment_core.proofs.WorkedImages.{numbers, one, number, changed, changed_file, changed_legal, only_first, differ, of_some}

abbrev two : Shape
two = shape_of Two numbers

abbrev run : ℕ → ℕ → Run
run start count = record { start = start; count = count }

abbrev home : ℕ → ℕ → ℕ → Home
home position place count = record { position = position; place = place; count = count }

-- ---- homes

-- the growth behind a shrink takes the position anew
abbrev grown_again : List Frame
grown_again = Group (1 ∷ []) (number 5) ∷ Shrink 0 ∷ Group (1 ∷ []) (number 6) ∷ []

grown_again_homes : AreHomes one grown_again (home 0 61 1 ∷ [])
grown_again_homes = record { in_turn = (refl, refl); each = only_first (λ i. _) refl }

not_the_first_home : AreHomes one grown_again (home 0 25 1 ∷ []) → ⊥
not_the_first_home are = differ 25 61 (omega arith) (of_some 25 61 (are.each 0 (omega arith)))

-- one behind the other, from 0 on, up to the end
in_turn : AreInTurn 0 (home 0 25 1 ∷ home 1 51 2 ∷ []) 3
in_turn = (refl, (refl, refl))

not_in_turn : AreInTurn 0 (home 1 51 2 ∷ home 0 25 1 ∷ []) 3 → ⊥
not_in_turn are = differ 0 1 (omega arith) (sym are.0)

not_to_the_end : AreInTurn 0 (home 0 25 1 ∷ []) 3 → ⊥
not_to_the_end are = differ 1 3 (omega arith) are.1

-- ---- live changes

abbrev two_runs : List Frame
two_runs = Group (4 ∷ []) (number 5 ++ number 5 ++ number 5 ++ number 5) ∷ Change (run 0 1 ∷ run 2 2 ∷ []) (number 7 ++ number 8 ++ number 9) ∷ []

live_runs : flat_map pairs_of (live_of two two_runs) ≡ (0, 1) ∷ (2, 2) ∷ []
live_runs = refl

no_live_runs : flat_map pairs_of (live_of two (two_runs ++ Fold 1 ∷ [])) ≡ []
no_live_runs = refl

-- ---- loose bytes

loose : IsLoose one changed 25
loose = record { position = 0; place = 25; told = 47; home_is = refl; covered = refl; from = omega arith; before = omega arith }

-- the eight home bytes alone
loose_bytes : (j : ℕ) → IsLoose one changed j → (25 ≤ j) × (j < 33)
loose_bytes j is =
    let inside : is.position < 1 = live_inside one changed is.position is.told changed_legal is.covered in
    let place : is.place ≡ 25 = only_first (λ i. home_of one changed i ≡ Some is.place → is.place ≡ 25) (λ there. of_some is.place 25 (sym there)) is.position inside is.home_is in
    let from = is.from in
    let before = is.before in
    (omega arith, omega arith)

-- behind a fold none
not_loose : (j : ℕ) → IsLoose one (changed ++ Fold 1 ∷ []) j → ⊥
not_loose j is = let clash : Some is.told ≡ None = sym is.covered ∙ change_of_none one 1 (changed ++ Fold 1 ∷ []) is.position (omega arith) in absurd cc

-- a fold has to wait until the homes say what the change says
home_says_5 : home_record_at One numbers changed_file changed 0 ≡ Some 5
home_says_5 = refl

homes_do_not_hold : HomesHold One numbers changed_file changed 1 (7 ∷ []) → ⊥
homes_do_not_hold hold = differ 5 7 (omega arith) (of_some 5 7 (sym home_says_5 ∙ hold 0 refl refl))

-- zeros for home bytes
blanked_frames : all_blanked changed ≡ Group (1 ∷ []) (number 0) ∷ Change (run 0 1 ∷ []) (number 7) ∷ []
blanked_frames = refl

-- ---- commands

abbrev five : List ℕ
five = 5 ∷ []

abbrev three : List ℕ
three = 5 ∷ 5 ∷ 5 ∷ []

grow_legal : IsLegalCommand one five (commands.Grow (6 ∷ []))
grow_legal = (omega arith, omega arith, omega arith)

grow_of_none : IsLegalCommand {R = ℕ} one five (commands.Grow []) → ⊥
grow_of_none is = let some = is.0 in absurd (omega arith)

shrink_legal : IsLegalCommand one five (commands.Shrink 1)
shrink_legal = omega arith

shrink_past_the_end : IsLegalCommand one five (commands.Shrink 2) → ⊥
shrink_past_the_end is = absurd (omega arith)

change_legal : IsLegalCommand one five (commands.Change (run 0 1 ∷ []) (7 ∷ []))
change_legal = (record { some = refl; each = (omega arith, tt); ordered = refl; inside = refl; filled = refl }, omega arith)

change_outside : IsLegalCommand one five (commands.Change (run 1 1 ∷ []) (7 ∷ [])) → ⊥
change_outside is = let inside = is.0.inside in absurd cc

change_of_two_records : IsLegalCommand one five (commands.Change (run 0 1 ∷ []) (7 ∷ 8 ∷ [])) → ⊥
change_of_two_records is = differ 1 2 (omega arith) (sym is.0.filled)

change_of_nothing : IsLegalCommand {R = ℕ} one five (commands.Change (run 0 0 ∷ []) []) → ⊥
change_of_nothing is = let some = is.0.each.0 in absurd (omega arith)

-- version 1 has one run
two_runs_in_one : IsLegalCommand {R = ℕ} one three (commands.Change (run 0 1 ∷ run 2 1 ∷ []) (7 ∷ 8 ∷ [])) → ⊥
two_runs_in_one is = differ 1 2 (omega arith) (sym is.0.some)

two_runs_in_two : IsLegalCommand {R = ℕ} two three (commands.Change (run 0 1 ∷ run 2 1 ∷ []) (7 ∷ 8 ∷ []))
two_runs_in_two = (record { some = omega arith; each = (omega arith, (omega arith, tt)); ordered = refl; inside = refl; filled = refl }, omega arith)

runs_out_of_order : IsLegalCommand {R = ℕ} two three (commands.Change (run 2 1 ∷ run 0 1 ∷ []) (7 ∷ 8 ∷ [])) → ⊥
runs_out_of_order is = let ordered = is.0.ordered in absurd cc

-- ---- the frames of commands

fives : AreRecords numbers (number 5) (5 ∷ [])
fives = record { filled = refl; each = only_first (λ i. numbers.value_of (cell 8 (number 5) i) ≡ slice_get (5 ∷ []) i) refl }

grow_frame : IsFrameOf numbers (commands.Grow (5 ∷ [])) (Group (1 ∷ []) (number 5))
grow_frame = (1 ∷ [], number 5, refl, fives)

change_frame : IsFrameOf numbers (commands.Change (run 0 1 ∷ []) (5 ∷ [])) (Change (run 0 1 ∷ []) (number 5))
change_frame = (number 5, refl, fives)

other_frame : IsFrameOf numbers (commands.Change (run 0 1 ∷ []) (5 ∷ [])) (Group (1 ∷ []) (number 5)) → ⊥
other_frame (bytes, is, are) = absurd cc

other_run : IsFrameOf numbers (commands.Change (run 0 1 ∷ []) (5 ∷ [])) (Change (run 1 1 ∷ []) (number 5)) → ⊥
other_run (bytes, is, are) = let same : run 1 1 ≡ run 0 1 = cc in differ 0 1 (omega arith) (sym (ap (λ (r : Run). r.start) same))

other_length : IsFrameOf {R = ℕ} numbers (commands.Shrink 1) (Shrink 2) → ⊥
other_length is = let same : 2 ≡ 1 = cc in differ 1 2 (omega arith) (sym same)

-- ---- records as their bytes

two_cells : cells_in 2 2 (1 ∷ 2 ∷ 3 ∷ 4 ∷ 5 ∷ []) ≡ (1 ∷ 2 ∷ []) ∷ (3 ∷ 4 ∷ []) ∷ []
two_cells = refl

after_group : after_frame 8 (number 5 ∷ []) (Group (2 ∷ []) (number 6 ++ number 7)) ≡ number 5 ∷ number 6 ∷ number 7 ∷ []
after_group = refl

after_change : after_frame 8 (number 5 ∷ number 6 ∷ []) (Change (run 1 1 ∷ []) (number 7)) ≡ number 5 ∷ number 7 ∷ []
after_change = refl

after_shrink : after_frame 8 (number 5 ∷ number 6 ∷ []) (Shrink 1) ≡ number 5 ∷ []
after_shrink = refl

after_fold : after_frame 8 (number 5 ∷ number 6 ∷ []) (Fold 1) ≡ number 5 ∷ number 6 ∷ []
after_fold = refl

read_as : AreReadAs numbers (number 5 ∷ []) (5 ∷ [])
read_as = record { size = refl; each = each }
  where
    each : (i : ℕ) → option_and_then numbers.value_of (slice_get (number 5 ∷ []) i) ≡ slice_get {X = ℕ} (5 ∷ []) i
    each zero = refl
    each (suc i) = refl

not_read_as : AreReadAs numbers (number 5 ∷ []) (6 ∷ []) → ⊥
not_read_as are = differ 5 6 (omega arith) (of_some 5 6 (are.each 0))

cells_of : AreCellsOf numbers (number 5 ∷ []) (5 ∷ [])
cells_of = record { written = refl; read_again = (refl, tt) }

-- ---- the frames and the vector before a gate

frames_of_changed : frames_before one 55 changed_file ≡ changed
unfolding frames_before u32_at u64_at
frames_of_changed = refl

-- ---- what fits a file

-- one record takes a header, a frame of 22 bytes and the last gate
one_fits : CanHold one 34 1
one_fits = record { groups = 1; in_groups = omega arith; in_bytes = omega arith }

two_do_not : CanHold one 34 2 → ⊥
two_do_not can = let fit = can.in_bytes in absurd (omega arith)

none_in_33 : CanHold one 33 1 → ⊥
none_in_33 can =
    let fit = can.in_bytes in
    let some = can.in_groups in
    none_without can.groups fit some
  where
    none_without : (groups : ℕ) → 12 + groups * 14 + 1 * 8 ≤ 33 → 1 ≤ groups * 131071 → ⊥
    none_without groups fit some = absurd (omega arith)

-- more than a full group has take a second one, of 14 bytes more
full_group : CanHold one 1048594 131071
full_group = record { groups = 1; in_groups = omega arith; in_bytes = omega arith }

not_in_one_group : CanHold one 1048602 131072 → ⊥
not_in_one_group can = let fit = can.in_bytes in let some = can.in_groups in by_groups can.groups fit some
  where
    by_groups : (groups : ℕ) → 12 + groups * 14 + 131072 * 8 ≤ 1048602 → 131072 ≤ groups * 131071 → ⊥
    by_groups groups fit some = absurd (omega arith)

in_two_groups : CanHold one 1048616 131072
in_two_groups = record { groups = 2; in_groups = omega arith; in_bytes = omega arith }
