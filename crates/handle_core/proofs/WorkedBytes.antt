-- Worked examples: what is asked of an end by the bytes of records.
use Rattle.std.proofs.Common.{◌≡◌, ℕ, List, refl}
use Rattle.std.specs.declared.cmp.PartialEq as PartialEq
use Rattle.record_core.specs.declared.record.Record as Record
use Rattle.book_core.specs.declared.seat.Receipt.{Receipt}
use Rattle.phase_core.specs.declared.grower.Grower.{Grower}
use Rattle.c_core.specs.Records.{AreNone, IsRecord, IsNoRecord}
use Rattle.c_core.specs.declared.refusal.Refusal.TheVariants.{Memory, NoRecord, NotSo}
use Rattle.handle_core.specs.declared.end.Role.{Role}
use Rattle.handle_core.specs.declared.end.Role.TheVariants as roles
use Rattle.handle_core.specs.Roles.{Grows, RefusesGrowth, Reads, Counts, Finds, RefusesSearch, IsNoGrower}
use Rattle.handle_core.specs.Vaults.{Changes, RefusesChange, Resizes, RefusesResize}

module _ (R : Type 0) (record_of : Record.Ghosts R) (eq_of : PartialEq.Ghosts R) (bytes : List ℕ) where
  abbrev nothing : Role R record_of eq_of
  nothing = roles.Nothing

  -- no end makes nothing of bytes, whatever these are
  no_growth : (receipt : Receipt) → Grows bytes receipt nothing nothing → ⊥
  no_growth receipt made = made

  no_read : (from count : ℕ) (old new : List ℕ) → Reads from old new count nothing nothing → ⊥
  no_read from count old new read = read

  no_count : (count : ℕ) → Counts bytes count nothing nothing → ⊥
  no_count count counted = counted

  no_place : (from place : ℕ) → Finds bytes from place nothing nothing → ⊥
  no_place from place found = found

  no_change : (start : ℕ) → Changes start bytes nothing nothing → ⊥
  no_change start changed = changed

  no_size : (size : ℕ) → Resizes size bytes nothing nothing → ⊥
  no_size size resized = resized

  -- it is refused as another end, and by nothing else: not for bytes that are no records
  refused : RefusesGrowth bytes NotSo nothing nothing × RefusesSearch bytes NotSo nothing nothing × IsNoGrower NotSo nothing nothing
      × RefusesChange 0 bytes NotSo nothing nothing × RefusesResize 0 bytes NotSo nothing nothing
  refused = ((refl, refl), (refl, refl), (refl, refl), (refl, refl), (refl, refl))

  not_for_its_bytes : RefusesGrowth bytes NoRecord nothing nothing → ⊥
  not_for_its_bytes said = let same : NoRecord ≡ NotSo = said.0 in cc

  not_searched_for_its_bytes : RefusesSearch bytes NoRecord nothing nothing → ⊥
  not_searched_for_its_bytes said = let same : NoRecord ≡ NotSo = said.0 in cc

  not_for_memory : RefusesChange 0 bytes Memory nothing nothing → ⊥
  not_for_memory said = let same : Memory ≡ NotSo = said.0 in cc

  -- a grower's search is refused for bytes that are no record alone, and leaves it as it was
  searched : (grower : Grower R record_of eq_of) → RefusesSearch bytes NoRecord (roles.Grower grower) (roles.Grower grower) → IsNoRecord record_of.form bytes
  searched grower said = said.1

  not_searched : (grower : Grower R record_of eq_of) (x : R) → IsRecord record_of.form bytes x → RefusesSearch bytes NoRecord (roles.Grower grower) (roles.Grower grower) → ⊥
  not_searched grower x is said = absurd (let none = said.1 is.whole in let some = is.read in cc)

  no_end_of_a_grower : (grower : Grower R record_of eq_of) → RefusesSearch bytes NoRecord (roles.Grower grower) nothing → ⊥
  no_end_of_a_grower grower said = absurd (let same = said.2 in cc)

  -- what is grown by are the records that the bytes are
  grown_by : (receipt : Receipt) (old new : Grower R record_of eq_of) → Grows bytes receipt (roles.Grower old) (roles.Grower new) → AreNone record_of.form bytes → ⊥
  grown_by receipt old new made none = none made.0 made.1
