-- A phase that isn't wide, begun as a wide one.
use Rattle.std.proofs.Common.{ℕ, ◌≤◌, Result, Ok, Err, OnOk, IfErr, inl, inr, arith}
use Rattle.directory_core.specs.Limits.{growth_limit}
use Rattle.book_core.specs.declared.fault.GrowFault.{GrowFault}
use Rattle.book_core.specs.declared.fault.GrowFault.TheVariants as grow
use Rattle.book_core.specs.Beginning.{MayBegin, IsBeginRefusal, MayBeginWide, IsWideBeginRefusal}

module _ (room seats : ℕ) (few : room ≤ growth_limit) where
  pub narrow_may : {X E : Type 0} (result : Result X E) → OnOk result (MayBeginWide room seats) → OnOk result (MayBegin room seats)
  narrow_may (Ok x) may = record { room_in = (may.room_in.0, few); seats_in = may.seats_in }
  narrow_may (Err e) may = tt

  narrow_fault : (fault : GrowFault) → IsWideBeginRefusal room seats fault → IsBeginRefusal room seats fault
  narrow_fault grow.Closed why = why
  narrow_fault grow.Full why = why
  narrow_fault grow.TooLong why = why
  narrow_fault (grow.Strayed n) why = why
  narrow_fault grow.Memory why = record { room_in = (why.room_in.0, few); seats_in = why.seats_in }
  narrow_fault grow.Empty why = why
  narrow_fault grow.TooLarge (inl none) = inl none
  narrow_fault grow.TooLarge (inr (inl much)) = absurd (omega (arith, much, few))
  narrow_fault grow.TooLarge (inr (inr of_seats)) = inr (inr of_seats)

  pub narrow_refused : {X B : Type 0} (Same : B → Type 0) (result : Result X (B × GrowFault)) → IfErr result (λ r. Same r.0 × IsWideBeginRefusal room seats r.1)
      → IfErr result (λ r. Same r.0 × IsBeginRefusal room seats r.1)
  narrow_refused Same (Ok x) refused = tt
  narrow_refused Same (Err r) refused = (refused.0, narrow_fault r.1 refused.1)
