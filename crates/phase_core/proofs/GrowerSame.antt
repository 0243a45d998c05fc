-- A grower whose seat is as it was.
use Rattle.std.proofs.Common.{◌≡◌, sym, ap, subst}
use Rattle.std.proofs.Props.{props}
use Rattle.std.specs.Arc.{arc_value}
use Rattle.std.specs.declared.cmp.PartialEq as PartialEq
use Rattle.record_core.specs.declared.record.Record as Record
use Rattle.book_core.specs.Lists.{Seated, IsSeatOf}
use Rattle.phase_core.specs.declared.grower.Grower.{Grower}

module _ {R : Type 0} {record_of : Record.Ghosts R} {eq_of : PartialEq.Ghosts R} (grower : Grower R record_of eq_of) where
  abbrev pub with_seat : (seat : Seated R) → IsSeatOf (arc_value grower.live) seat → Grower R record_of eq_of
  with_seat seat of = record { live = grower.live; seat = seat; of = of }

  one_proof : (a b : IsSeatOf (arc_value grower.live) grower.seat) → a ≡ b
  one_proof = hlevel props

  pub same_seat : (seat : Seated R) (of : IsSeatOf (arc_value grower.live) seat) → seat ≡ grower.seat → with_seat seat of ≡ grower
  same_seat seat of same =
      let P : Seated R → Type 0 = λ s. (o : IsSeatOf (arc_value grower.live) s) → with_seat s o ≡ grower in
      subst P (sym same) (λ o. ap (with_seat grower.seat) (one_proof o grower.of)) of
