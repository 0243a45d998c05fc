-- Worked values of the definitions: a change of several runs in a file of either version.
use Rattle.std.proofs.Common.{◌≡◌, ℕ, [], ◌∷◌, length, Option, Some, None, refl}
use Rattle.std.specs.Int.{w64}
use Rattle.record_core.specs.Bytes.{unsigned}
use Rattle.disk_core.specs.State.{settled}
use Rattle.segment_core.specs.declared.format.Format.{Format}
use Rattle.segment_core.specs.declared.format.Format.TheVariants.{One, Two}
use Rattle.segment_core.specs.Shape.{shape_of}
use Rattle.segment_core.specs.Command.{Command}
use Rattle.pen_core.specs.Refusals.{first_refusal}
use Rattle.pen_core.specs.declared.fault.PenFault.{PenFault}
use Rattle.pen_core.specs.declared.fault.PenFault.TheVariants.{OldFormat, Runs, OutOfRange, Unfolded}
use Rattle.drive_core.specs.World.{World, start, vector, changed_runs, changed, resize_command, fitting}
use Rattle.drive_core.specs.OpeningRows.{with_opened, empty_file}
use Rattle.drive_core.specs.ExclusiveRows.{committed, tests_of}

-- a file of u64, of which nothing but the tables is asked
abbrev made : Format → World ℕ
made format = with_opened (start (record { states = settled [] ∷ []; faults = 0 })) [] (empty_file (shape_of format (unsigned w64)))

abbrev behind : World ℕ → Option (Command ℕ) → World ℕ
behind w None = w
behind w (Some command) = committed (unsigned w64) w command

abbrev four : Format → World ℕ
four format = behind (made format) (resize_command 0 4 5)

abbrev runs : Option (Command ℕ)
runs = changed_runs ((0, 7 ∷ []) ∷ (2, 8 ∷ 9 ∷ []) ∷ [])

abbrev turned : Option (Command ℕ)
turned = changed_runs ((2, 8 ∷ 9 ∷ []) ∷ (0, 7 ∷ []) ∷ [])

abbrev first_of : World ℕ → Option (Command ℕ) → Option PenFault
first_of w None = None
first_of w (Some command) = first_refusal (tests_of (unsigned w64) w.hand (length (vector w)) command)

four_are : vector (four Two) ≡ 5 ∷ 5 ∷ 5 ∷ 5 ∷ []
four_are = refl

changed_are : vector (behind (four Two) runs) ≡ 7 ∷ 5 ∷ 8 ∷ 9 ∷ []
changed_are = refl

-- the Change frame stands at 57, and the image that is left has 116 bytes
gate_before : (four Two).hand.file.gate ≡ 57
gate_before = refl

gate_behind : (behind (four Two) runs).hand.file.gate ≡ 115
gate_behind = refl

allowed : first_of (four Two) runs ≡ None
allowed = refl

in_old : first_of (four One) runs ≡ Some OldFormat
in_old = refl

disordered : first_of (four Two) turned ≡ Some Runs
disordered = refl

outside : first_of (four Two) (changed 3 (1 ∷ 2 ∷ [])) ≡ Some OutOfRange
outside = refl

unfolded : first_of (behind (four Two) runs) (resize_command 4 1 0) ≡ Some Unfolded
unfolded = refl

-- no run at all writes nothing
none : changed_runs {R = ℕ} [] ≡ None
none = refl

-- what one payload holds
holds : fitting {R = ℕ} 8 40 ((1 ∷ 2 ∷ []) ∷ (3 ∷ []) ∷ (4 ∷ []) ∷ []) ≡ 2
holds = refl
