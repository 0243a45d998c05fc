-- Worked steps: growths that a flusher settles, and answers that no table allows.
use Rattle.std.proofs.Common.{◌≡◌, inl, inr, ℕ, Bool, true, false, [], ◌∷◌, Some, None, refl, ap, sym, ◌∙◌}
use Rattle.std.proofs.lemmas.Option.{same_Some}
use Rattle.std.specs.Int.{w64}
use Rattle.record_core.specs.Bytes.{unsigned}
use Rattle.disk_core.specs.State.{settled}
use Rattle.segment_core.specs.declared.format.Format.TheVariants.{One}
use Rattle.segment_core.specs.Shape.{shape_of}
use Rattle.segment_core.specs.Written.{group_frame}
use Rattle.pen_core.specs.declared.fault.PenFault.TheVariants as pen
use Rattle.book_core.specs.declared.fault.GrowFault.TheVariants as grow
use Rattle.vault_core.specs.declared.fault.VaultFault.TheVariants as vault
use Rattle.drive_core.specs.declared.fault.StepFault.{StepFault}
use Rattle.drive_core.specs.declared.fault.StepFault.TheVariants.{Vault, Grow}
use Rattle.drive_core.specs.Line.{Might, Allows, is_vault_memory}
use Rattle.drive_core.specs.Step as step
use Rattle.drive_core.specs.World.{World, GrowthPhase, DrivePhase, Shut, Exclusive, Growing, start, vector, next_group}
use Rattle.drive_core.specs.OpeningRows.{with_opened, empty_file}
use Rattle.drive_core.specs.GrowthRows.{within, knowing, with_growth, put_answer, with_group}
use Rattle.drive_core.specs.ExclusiveRows.{share_lines, first_growth}
use Rattle.drive_core.specs.LaneRows.{done, fold_lines}

-- ---- two seats put two growths, and the flusher settles them

-- a new file of u64
abbrev pub made : World ℕ
made = with_opened (start (record { states = settled [] ∷ []; faults = 0 })) [] (empty_file (shape_of One (unsigned w64)))

abbrev pub phase_of : DrivePhase → GrowthPhase
phase_of Shut = first_growth made 8 2
phase_of Exclusive = first_growth made 8 2
phase_of (Growing phase) = phase

abbrev pub shared : World ℕ
shared = within made (first_growth made 8 2)

abbrev pub one : World ℕ
one = with_growth shared (phase_of shared.phase) 0 (1 ∷ 2 ∷ [])

abbrev pub two : World ℕ
two = with_growth one (phase_of one.phase) 1 (3 ∷ [])

first_receipt : put_answer shared (phase_of shared.phase) 0 (1 ∷ 2 ∷ []) ≡ step.Grown (record { number = 0; start = 0; len = 2; seat = 0; serial = 0 })
first_receipt = refl

second_receipt : put_answer one (phase_of one.phase) 1 (3 ∷ []) ≡ step.Grown (record { number = 1; start = 2; len = 1; seat = 1; serial = 0 })
second_receipt = refl

vector_is : vector two ≡ 1 ∷ 2 ∷ 3 ∷ []
vector_is = refl

abbrev pub looked : World ℕ
looked = within two (knowing (phase_of two.phase) None 2)

group_is : next_group 8 looked (phase_of looked.phase) ≡ (1 ∷ 2 ∷ []) ∷ (3 ∷ []) ∷ []
group_is = refl

-- a flusher that hasn't looked takes none
none_known : next_group 8 two (phase_of two.phase) ≡ []
none_known = refl

abbrev pub taken : World ℕ
taken = with_group (unsigned w64) looked (phase_of looked.phase) ((1 ∷ 2 ∷ []) ∷ (3 ∷ []) ∷ [])

abbrev pub behind : World ℕ
behind = done taken (group_frame (unsigned w64) ((1 ∷ 2 ∷ []) ∷ (3 ∷ []) ∷ []))

none_settled : taken.settled ≡ 0
none_settled = refl

both_settled : behind.settled ≡ 2
both_settled = refl

-- the image that a crash leaves then has 54 bytes
gate_is : behind.hand.file.gate ≡ 53
gate_is = refl

-- ---- what no table allows

never : false ≡ true → ⊥
never is = absurd cc

-- a fault that isn't of the kind, where nothing else may come
not_kind : (kind : StepFault → Bool) (fault : StepFault) → kind fault ≡ false → Allows (Might kind ∷ []) (Some fault) → ⊥
not_kind kind fault is allowed = elim allowed [
  | inl might ↦ never (sym is ∙ ap kind (same_Some fault might.0 might.1) ∙ might.2)
  | inr none ↦ absurd cc
]

-- a share of a new file is accepted, or wants memory, and isn't refused as busy
shares : Allows (share_lines made.hand 8 2) None
shares = inr refl

shares_not_busy : Allows (share_lines made.hand 8 2) (Some (Vault (vault.Pen pen.Busy))) → ⊥
shares_not_busy = not_kind is_vault_memory (Vault (vault.Pen pen.Busy)) refl

shares_too_many : Allows (share_lines made.hand 8 65) (Some (Vault (vault.Pen pen.TooLarge)))
shares_too_many = refl

-- while a group is in hand it is busy, and nothing else
shares_busy : Allows (share_lines taken.hand 8 2) (Some (Vault (vault.Pen pen.Busy)))
shares_busy = refl

-- nothing strays but where something is looked at
lists_not_strayed : Allows (Might is_vault_memory ∷ []) (Some (Grow (grow.Strayed 3))) → ⊥
lists_not_strayed = not_kind is_vault_memory (Grow (grow.Strayed 3)) refl

-- a fold of a file without a change wants no room
folds_nothing : Allows (fold_lines made.hand false) None
folds_nothing = refl
