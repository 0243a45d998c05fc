-- Worked examples: a block that C writes in place.
use Rattle.std.proofs.Common.{◌≡◌, ℕ, refl, inl, inr}
use Rattle.std.specs.declared.cmp.PartialEq as PartialEq
use Rattle.std.specs.contracts.prelude.U32PartialEq.TheImpl as u32_eq
use Rattle.std.specs.contracts.prelude.U64PartialEq.TheImpl as u64_eq
use Rattle.record_core.specs.declared.record.Record as Record
use Rattle.record_core.specs.contracts.number.U32Record.TheImpl as u32_record
use Rattle.record_core.specs.contracts.number.U64Record.TheImpl as u64_record
use Rattle.book_core.specs.declared.seat.Receipt.{Receipt}
use denote.RawPtr.{Ptr}
use Rattle.c_core.specs.declared.refusal.Refusal.{Refusal}
use Rattle.c_core.specs.declared.refusal.Refusal.TheVariants.{Width, Empty, NotSo}
use Rattle.handle_core.specs.declared.end.Role.{Role}
use Rattle.handle_core.specs.declared.end.Role.TheVariants as roles
use Rattle.handle_core.specs.declared.end.End.TheVariants as ends
use Rattle.handle_core.specs.Ends.{RefusedWith}
use Rattle.handle_core.specs.Roles.{IsBlockOf, Publishes, RefusesBlock, RefusesPublishing}

abbrev U32Role : Type 0
U32Role = Role ℕ u32_record.ghosts u32_eq.ghosts

abbrev U64Role : Type 0
U64Role = Role ℕ u64_record.ghosts u64_eq.ghosts

-- what is said of the refusal of ends with the same records
abbrev Said : Type 1
Said = Refusal → (R : Type 0) (record_of : Record.Ghosts R) (eq_of : PartialEq.Ghosts R) → Role R record_of eq_of → Role R record_of eq_of → Role R record_of eq_of → Type 0

-- a block of u32 is none for a grower of u64, which stays as it is
other_records : (P : Said) (block : U32Role) (grower : U64Role) → RefusedWith P Width (ends.U32 block) (ends.U64 grower) (ends.U64 grower)
other_records P block grower = inr (refl, (λ same. cc), refl)

-- with the same records it isn't refused so
same_records : (block old : U32Role) → RefusedWith (λ refusal _ _ _ end old new. ⊥) Width (ends.U32 block) (ends.U32 old) (ends.U32 old) → ⊥
same_records block old (inl never) = never
same_records block old (inr other) = other.1 refl

module _ (R : Type 0) (record_of : Record.Ghosts R) (eq_of : PartialEq.Ghosts R) where
  abbrev nothing : Role R record_of eq_of
  nothing = roles.Nothing

  -- no end is no block, and no grower
  no_block : (count : ℕ) (place : Ptr) → IsBlockOf count place nothing nothing → ⊥
  no_block count place is = is

  no_publishing : (receipt : Receipt) → Publishes receipt nothing nothing nothing → ⊥
  no_publishing receipt made = made

  -- it is refused as another end, and by nothing else
  refused : (count : ℕ) → RefusesBlock count NotSo nothing
  refused count = refl

  not_empty : RefusesBlock 0 Empty nothing → ⊥
  not_empty said = let same : Empty ≡ NotSo = said in cc

  publishing_refused : RefusesPublishing NotSo nothing nothing nothing
  publishing_refused = (refl, refl)
