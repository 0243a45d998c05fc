-- What the definitions of stops and refusals of `load` and `append` allow, and the nearest that they don't.
use Rattle.std.proofs.Common.{◌≡◌, ◌⊎◌, inl, inr, ℕ, ◌^◌, ◌-◌, ◌<◌, ◌≤◌, min, List, [], ◌∷◌, length, Option, Some, None, Result, Ok, refl, sym, subst, ◌∙◌, arith}
use Rattle.record_core.specs.Bytes.{Encoding}
use Rattle.disk_core.specs.State.{State, settled}
use Rattle.text_core.specs.Text.{Spelling}
use Rattle.text_core.specs.declared.refusal.Refusal.TheVariants as refusals
use Rattle.block_core.specs.Growth.{Growth}
use Rattle.book_core.specs.declared.fault.GrowFault.TheVariants.{TooLong}
use Rattle.pen_core.specs.declared.fault.OpenFault.{OpenFault}
use Rattle.pen_core.specs.declared.fault.PenFault.{PenFault}
use Rattle.pen_core.specs.declared.fault.PenFault.TheVariants as faults
use Rattle.pen_core.specs.Refusals.{first_refusal, ready_lines}
use Rattle.vault_core.specs.declared.fault.VaultFault.{VaultFault}
use Rattle.vault_core.specs.declared.fault.VaultFault.TheVariants.{Pen, Unsettled}
use Rattle.vault_core.specs.Vault.{VaultOf}
use Rattle.files_core.specs.declared.appended.Appended.{Appended}
use Rattle.files_core.specs.declared.fault.FileFault.{FileFault}
use Rattle.files_core.specs.declared.fault.FileFault.TheVariants as told
use Rattle.files_core.specs.declared.fault.Stopped.{Stopped}
use Rattle.files_core.specs.declared.fault.Word.TheVariants.{Start}
use Rattle.files_core.specs.Opened.{IsNotOpened}
use Rattle.lines_core.specs.InputBlocks.{AreOfAllLines}
use Rattle.load_core.specs.Appending.{AreAllTold, GrowthsStand, HasAppendedAll, IsAppendFault, IsRestTold, IsTooLongStop, fault_told}
use Rattle.lines_core.specs.declared.batches.Rest.TheVariants.{More, Nothing, Refused}
use Rattle.load_core.specs.Loading.{IsLoadNotBegun, IsLoadRefusal, IsNotEnded, line_behind}

-- letters, each its own text
abbrev letters : Spelling ℕ
letters = record { is_value = λ n. 65 ≤ n; text_of = λ n. n ∷ [] }

-- ---- what is told of a stop

abbrev told_so : ℕ → ℕ → ℕ → Appended
told_so growths lines size = record { growths = growths; lines = lines; size = size }

-- behind 40 lines that are told, the line of the growth that the vector has no room for is the next one
stop_told : fault_told (told_so 4 40 9) faults.OutOfRange ≡ told.Grower (record { grower = 0; line = 41; fault = TooLong; size = 9 })
stop_told = refl

-- another fault is told as it is
memory_told : fault_told (told_so 4 40 9) faults.Memory ≡ told.Vault (Pen faults.Memory)
memory_told = refl

-- behind the lines of a batch that were all there are, more lines are told; where one is refused, no more are
all_read : (end : Option (Result (Unit {0}) FileFault)) (now : Appended) → IsRestTold Nothing 17 (told_so 2 20 5) now end → now ≡ told_so 2 17 5
all_read end now so = so.1

none_more_told : (end : Option (Result (Unit {0}) FileFault)) (now : Appended) → IsRestTold (Refused (refusals.Line 3)) 17 (told_so 2 20 5) now end → now ≡ told_so 2 20 5
none_more_told end now so = so.2

not_over : IsRestTold More 17 (told_so 2 20 5) (told_so 2 20 5) (Some (Ok tt)) → ⊥
not_over so = let is : ◌≡◌ {A = Option (Result (Unit {0}) FileFault)} (Some (Ok tt)) None = so.0 in cc is

-- line 8 is that of the third growth of the second of three growers, which made two; behind a phase it is counted on
lines_of_growers : (line_behind 0 3 1 2 ≡ 8) × (line_behind 0 1 0 0 ≡ 1) × (line_behind 1048566 3 1 2 ≡ 1048574)
lines_of_growers = (refl, refl, refl)

-- ---- refusals of commands, on disks that are their states

abbrev Disks : Type 0
Disks = List State

abbrev itself : Disks → List State
itself states = states

abbrev known : Disks → Type 0
known states = Unit {0}

abbrev no_fault : Disks → ℕ
no_fault states = 0

module _ (form : Encoding ℕ) (b : ℕ) where
  abbrev disk : Disks
  disk = settled (b ∷ []) ∷ []

  -- a file that wasn't opened wasn't appended to, nor loaded into
  abbrev Appended_not : Disks → Appended → FileFault → Type 0
  Appended_not left appended fault = IsAppendFault form known itself no_fault letters 1 None disk left appended fault

  unopened : (left : Disks) (appended : Appended) (fault : OpenFault) → Appended_not left appended (told.Open fault)
      → (appended ≡ told_so 0 0 0) × IsNotOpened form known itself no_fault disk left fault
  unopened left appended fault so = so

  never_by_a_word : (left : Disks) (appended : Appended) → Appended_not left appended (told.Word Start) → ⊥
  never_by_a_word left appended so = so

  never_unsettled : (left : Disks) (appended : Appended) (number : ℕ) → Appended_not left appended (told.Vault (Unsettled number)) → ⊥
  never_unsettled left appended number so = so

  -- a call of the disk that failed is told as such
  never_broken : (left : Disks) (appended : Appended) → Appended_not left appended (told.Vault (Pen faults.Broken)) → ⊥
  never_broken left appended so = so.7

  -- at a line all that stands is told
  at_a_line : (left : Disks) (appended : Appended) → Appended_not left appended (told.Input (refusals.Line 3))
      → (made : List (List ℕ)) × GrowthsStand form itself disk left appended made []
  at_a_line left appended so = (so.0, so.1 tt)

  -- and where memory was refused, which is no fault of the disk
  for_want_of_memory : (left : Disks) (appended : Appended) → Appended_not left appended (told.Vault (Pen faults.Memory))
      → (made : List (List ℕ)) × GrowthsStand form itself disk left appended made []
  for_want_of_memory left appended so = (so.0, subst (λ (more : List (List ℕ)). GrowthsStand form itself disk left appended so.0 more) (so.6 refl) (so.2 tt))

  abbrev Loaded_not : Disks → Appended → FileFault → Type 0
  Loaded_not left appended fault = IsLoadRefusal form known itself no_fault ((b ∷ []) ∷ []) 1 disk left appended fault

  unloaded : (left : Disks) (appended : Appended) (fault : OpenFault) → Loaded_not left appended (told.Open fault)
      → (appended ≡ told_so 0 0 0) × IsNotOpened form known itself no_fault disk left fault
  unloaded left appended fault so = so

  -- a stop's grower is one of them
  no_other_grower : (left : Disks) (appended : Appended) (stopped : Stopped) → stopped.grower ≡ 1 → Loaded_not left appended (told.Grower stopped) → ⊥
  no_other_grower left appended stopped one so = omega (arith, one, so.8.inside)

  -- and the line of its growth is behind those that are told
  line_of_stop : (left : Disks) (appended : Appended) (stopped : Stopped) → appended.lines ≡ 40 → Loaded_not left appended (told.Grower stopped) → 40 < stopped.line
  line_of_stop left appended stopped forty so = let line = so.8.line_is in omega (arith, forty, line)

  -- ---- all that stands is told

  module _ (left : Disks) (appended : Appended) where
    all_appended : HasAppendedAll form known itself letters 1 None disk left appended
        → (made : List (List ℕ)) × GrowthsStand form itself disk left appended made [] × AreAllTold letters 1 None appended made
    all_appended so = (so.0, so.1 tt, so.2)

-- the lines that are told are all of the input
all_lines : (input : Option (List ℕ)) (appended : Appended) (made : List (List ℕ)) → AreAllTold letters 2 input appended made
    → (count : ℕ) × AreOfAllLines letters 2 input made count × (appended.lines ≡ min (2 ^ 64 - 1) count)
all_lines input appended made so = so

-- behind 40 lines that are told the grower stopped at the next one, for want of room, and that is told of just what stands
module _ (input : Option (List ℕ)) (made : List (List ℕ)) (stopped : Stopped) (so : IsTooLongStop letters 10 input (told_so 4 40 9) made stopped) where
  stopped_behind : (stopped.grower ≡ 0) × (stopped.line ≡ 41) × (stopped.size ≡ 9) × (stopped.fault ≡ TooLong)
  stopped_behind = (so.grower_is, so.line_is, so.size_is, so.fault_is)

  -- so the next growth was a long one
  long_next : 2 ^ 32 - 9 < length so.next
  long_next = let past = so.past in let size = so.size_is in omega arith

-- what a crew gave up is what its flusher knows, of a phase with a seat for each grower
module _ {R D : Type 0} (keeps : D → Type 0) (left : D) (made : List (Growth R)) (fault : VaultFault) where
  given_up : (so : IsNotEnded keeps 5 2 left made fault) → (so.live.directory.room ≡ 5) × (length so.seats ≡ 2) × (so.flusher.pen.disk ≡ left) × (so.flusher.pass.entries ≡ made)
  given_up so = (so.room_is, so.as_many, so.disk_is, so.made_are)

-- no grower begins no load, and more than 64 don't; that there are many growths is no reason
no_grower : {R D : Type 0} (v : VaultOf R D) → IsLoadNotBegun 0 v (Pen faults.TooLarge)
no_grower v = inl (refl, refl)

module _ {R D : Type 0} (v : VaultOf R D) (ready : first_refusal (ready_lines v.pen) ≡ None) where
  too_many_growers : IsLoadNotBegun 65 v (Pen faults.TooLarge)
  too_many_growers = inr (inr (ready, inl (refl, inr (inr (inr (omega arith))))))

  by_growers_alone : (growers : ℕ) → IsLoadNotBegun growers v (Pen faults.TooLarge) → (growers ≡ 0) ⊎ (64 < growers)
  by_growers_alone growers (inl (is, none)) = inl none
  by_growers_alone growers (inr (inl first)) = let other : ◌≡◌ {A = Option PenFault} None (Some faults.TooLarge) = sym ready ∙ first in absurd (cc other)
  by_growers_alone growers (inr (inr (first, inl (is, inl no_room)))) = absurd (omega (arith, no_room))
  by_growers_alone growers (inr (inr (first, inl (is, inr (inl past))))) = absurd (omega (arith, past))
  by_growers_alone growers (inr (inr (first, inl (is, inr (inr (inl none)))))) = inl none
  by_growers_alone growers (inr (inr (first, inl (is, inr (inr (inr many)))))) = inr many
  by_growers_alone growers (inr (inr (first, inr (is, may)))) = absurd (cc is)
