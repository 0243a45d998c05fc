-- What counts as a file, and which calls tell it, on disks of few bytes.
use Rattle.std.proofs.Common.{◌≡◌, ℕ, zero, suc, ◌<◌, inl, inr, false, List, [], ◌∷◌, get_or, Some, refl, ap, arith}
use Rattle.disk_core.specs.declared.fault.DiskFault.TheVariants.{Sync, Length, Read, Write}
use Rattle.disk_core.specs.State.{settled, written, is_within, IsImage}
use Rattle.pen_core.specs.declared.create.FoundFile.TheVariants.{Blank, Closed}
use Rattle.pen_core.specs.declared.fault.PenFault.TheVariants as faults
use Rattle.pen_core.specs.Births.{IsExisting, AreContents, WritesNothing, IsFoundOut, AreLooks, AreCallsUntil, first_calls, calls_of_creation}

-- eleven, twelve and thirteen bytes, by the first
abbrev eleven : ℕ → List ℕ
eleven b = b ∷ 67 ∷ 86 ∷ 69 ∷ 67 ∷ 83 ∷ 69 ∷ 71 ∷ 1 ∷ 8 ∷ 0 ∷ []

abbrev twelve : ℕ → List ℕ
twelve b = b ∷ 67 ∷ 86 ∷ 69 ∷ 67 ∷ 83 ∷ 69 ∷ 71 ∷ 1 ∷ 8 ∷ 0 ∷ 0 ∷ []

abbrev thirteen : ℕ → List ℕ
thirteen b = b ∷ 67 ∷ 86 ∷ 69 ∷ 67 ∷ 83 ∷ 69 ∷ 71 ∷ 1 ∷ 8 ∷ 0 ∷ 0 ∷ 0 ∷ []

-- ---- whether there is a file

eleven_open : IsExisting (eleven 1)
eleven_open = inr (omega arith, refl)

eleven_closed : IsExisting (eleven 0) → ⊥
eleven_closed is = elim is [ inl long ↦ absurd (omega (arith, long)) | inr opened ↦ absurd (omega (arith, opened.1)) ]

twelve_open : IsExisting (twelve 1)
twelve_open = inr (omega arith, refl)

-- any byte but 0x01 is closed
twelve_closed : IsExisting (twelve 255) → ⊥
twelve_closed is = elim is [ inl long ↦ absurd (omega (arith, long)) | inr opened ↦ absurd (omega (arith, opened.1)) ]

-- longer than an empty file, it is one, whatever its first byte is
thirteen_open : IsExisting (thirteen 1)
thirteen_open = inl (omega arith)

thirteen_closed : IsExisting (thirteen 0)
thirteen_closed = inl (omega arith)

-- one byte is none, though it is open
one_open : IsExisting (1 ∷ []) → ⊥
one_open is = elim is [ inl long ↦ absurd (omega (arith, long)) | inr opened ↦ absurd (omega (arith, opened.0)) ]

two_open : IsExisting (1 ∷ 0 ∷ [])
two_open = inr (omega arith, refl)

-- ---- what a look finds

none_is_blank : AreContents [] Blank
none_is_blank = omega arith

one_is_blank : AreContents (1 ∷ []) Blank
one_is_blank = omega arith

one_is_not_closed : AreContents (0 ∷ []) Closed → ⊥
one_is_not_closed is = omega (arith, is.0)

two_are_closed : AreContents (0 ∷ 1 ∷ []) Closed
two_are_closed = (omega arith, omega arith, λ opened. omega (arith, opened))

two_are_not_blank : AreContents (0 ∷ 1 ∷ []) Blank → ⊥
two_are_not_blank is = omega (arith, is)

twelve_are_closed : AreContents (twelve 0) Closed
twelve_are_closed = (omega arith, omega arith, λ opened. omega (arith, opened))

open_is_not_closed : AreContents (twelve 1) Closed → ⊥
open_is_not_closed is = is.2 refl

thirteen_are_not_closed : AreContents (thirteen 0) Closed → ⊥
thirteen_are_not_closed is = omega (arith, is.1)

-- ---- the calls

calls_on_one : calls_of_creation (1 ∷ []) ≡ Sync ∷ Length ∷ Write ∷ Sync ∷ Write ∷ Sync ∷ Write ∷ Sync ∷ []
calls_on_one = refl

calls_on_twelve : calls_of_creation (twelve 0) ≡ Sync ∷ Length ∷ Read ∷ Write ∷ Sync ∷ Write ∷ Sync ∷ []
calls_on_twelve = refl

-- no byte of a longer disk is read
looks_at_thirteen : first_calls (thirteen 0) ≡ Length ∷ []
looks_at_thirteen = refl

-- a file of 13 bytes is told by the second call, and one of 12 by the third
told_by_length : AreCallsUntil (thirteen 1) (calls_of_creation (thirteen 1)) faults.Exists 2
told_by_length = inl (omega arith, (omega arith, refl))

not_told_by_length : IsFoundOut (twelve 1) (calls_of_creation (twelve 1)) 2 → ⊥
not_told_by_length told =
    elim told [
      | inl long ↦ absurd (omega (arith, long.0))
      | inr read ↦ absurd (let clash : Some Length ≡ Some Read = read.1.1 in cc)
    ]

told_by_byte : AreCallsUntil (twelve 1) (calls_of_creation (twelve 1)) faults.Exists 3
told_by_byte = inr (omega arith, (omega arith, refl))

not_told_by_byte : IsFoundOut (thirteen 1) (calls_of_creation (thirteen 1)) 3 → ⊥
not_told_by_byte told =
    elim told [
      | inl long ↦ absurd (let clash : Some Write ≡ Some Length = long.1.1 in cc)
      | inr read ↦ absurd (omega (arith, read.0))
    ]

one_look_at_none : AreLooks [] (first_calls []) Blank 1
one_look_at_none = refl

two_looks_at_two : AreLooks (0 ∷ 1 ∷ []) (first_calls (0 ∷ 1 ∷ [])) Closed 2
two_looks_at_two = refl

-- ---- what writes nothing

-- another byte is a write
no_other_byte : WritesNothing (settled (5 ∷ []) ∷ []) (written (settled (5 ∷ [])) 0 (6 ∷ []) ∷ settled (5 ∷ []) ∷ []) → ⊥
no_other_byte none =
    let now : List ℕ = 6 ∷ [] in
    let before : List ℕ = 5 ∷ [] in
    let same : now ≡ before = none.bytes_same in
    omega (arith, ap (λ (bs : List ℕ). get_or bs 0 0) same)

-- and so is the same one, which a crash may tear
abbrev five : List ℕ
five = 5 ∷ []

abbrev six : List ℕ
six = 6 ∷ []

no_same_byte : WritesNothing (settled five ∷ []) (written (settled five) 0 five ∷ settled five ∷ []) → ⊥
no_same_byte none =
    let torn : IsImage (written (settled five) 0 five) six = record { no_shorter = omega arith; no_longer = omega arith; each = torn_at } in
    let left : IsImage (settled five) six = none.left_before.newest six torn in
    omega (arith, left.each 0 (omega arith) refl)
  where
    torn_at : (i : ℕ) → i < 1 → is_within (written (settled five) 0 five).pending i ≡ false → get_or six i 0 ≡ get_or five i 0
    torn_at zero lt apart = absurd cc
    torn_at (suc i) lt apart = absurd (omega (arith, lt))
