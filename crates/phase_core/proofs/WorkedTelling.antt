-- Worked examples: what a host is told of where records stand, and how much room a phase has.
use Rattle.std.proofs.Common.{ℕ, List, [], ◌∷◌, length, drop, refl, ap, inl, inr, arith}
use Rattle.std.proofs.lemmas.List.{length-take, length-drop}
use Rattle.std.specs.Borrow.{Bor}
use Rattle.std.specs.Ptr.{as_ptr}
use Rattle.directory_core.specs.Limits.{growth_limit, place_limit}
use Rattle.phase_core.specs.declared.piece.Piece.{Piece}
use Rattle.phase_core.specs.Telling.{TellsAt, TellsFrom}
use Rattle.phase_core.specs.Room.{IsRoomFor}

-- these records, lent from there
abbrev lent : ℕ → List ℕ → Bor (List ℕ)
lent place records = record { ref_ptr = (place, 0); now = records }

-- that they stand from that position on
abbrev told : ℕ → ℕ → List ℕ → Piece
told start place records = record { start = start; at = as_ptr (lent place records); len = length records }

abbrev three : List ℕ
three = 5 ∷ 7 ∷ 11 ∷ []

abbrev blank : Piece
blank = told 0 0 []

seven : (p : ℕ) → TellsAt three 1 (told 1 p (7 ∷ []))
seven p = record { lent = lent p (7 ∷ []); of = record { start_is = refl; at_is = refl; len_is = refl }; stand = record { some = omega arith; is = refl } }

eleven : (q : ℕ) → TellsAt three 2 (told 2 q (11 ∷ []))
eleven q = record { lent = lent q (11 ∷ []); of = record { start_is = refl; at_is = refl; len_is = refl }; stand = record { some = omega arith; is = refl } }

-- two pieces from position 1 on are all, and the third place of the output is left as it was
two : (p q : ℕ) → TellsFrom three 1 (blank ∷ blank ∷ blank ∷ []) (told 1 p (7 ∷ []) ∷ told 2 q (11 ∷ []) ∷ blank ∷ []) 2
two p q = record { inside = (omega arith, refl); told = (seven p, (eleven q, tt)); behind = refl; all = λ fewer. omega arith }

-- one piece is as many as there is room for
room_for_one : (p : ℕ) → TellsFrom three 1 (blank ∷ []) (told 1 p (7 ∷ []) ∷ []) 1
room_for_one p = record { inside = (omega arith, refl); told = (seven p, tt); behind = refl; all = λ fewer. absurd (omega (arith, fewer)) }

-- with more room one piece isn't all
one_of_two : (p : ℕ) → TellsFrom three 1 (blank ∷ blank ∷ []) (told 1 p (7 ∷ []) ∷ blank ∷ []) 1 → ⊥
one_of_two p tells = let all = tells.all (omega arith) in absurd (omega (arith, all))

-- the first begins where it was asked, and the second where the first one ends
from_the_front : (p : ℕ) → TellsFrom three 1 (blank ∷ []) (told 0 p (5 ∷ []) ∷ []) 1 → ⊥
from_the_front p tells = let start = tells.told.0.of.start_is in absurd (omega (arith, start))

with_a_gap : (p q : ℕ) → TellsFrom three 0 (blank ∷ blank ∷ []) (told 0 p (5 ∷ []) ∷ told 2 q (11 ∷ []) ∷ []) 2 → ⊥
with_a_gap p q tells = let start = tells.told.1.0.of.start_is in absurd (omega (arith, start))

-- more records than stand there
too_long : (p : ℕ) → TellsFrom three 2 (blank ∷ []) (told 2 p (11 ∷ 0 ∷ []) ∷ []) 1 → ⊥
too_long p tells =
    let len = tells.told.0.of.len_is in
    let is = ap length tells.told.0.stand.is in
    absurd (omega (arith, len, is, length-take (length tells.told.0.lent.now) (drop 2 three), length-drop 2 three))

-- ---- room

as_asked : IsRoomFor 8 8
as_asked = inl refl

-- a wide phase may have the narrow room in the place of its own, and a narrow one no other
narrow : IsRoomFor place_limit growth_limit
narrow = inr (omega arith, refl)

none_narrower : IsRoomFor place_limit 8 → ⊥
none_narrower (inl same) = absurd (omega (arith, same))
none_narrower (inr is) = absurd (omega (arith, is.1))

none_wider : IsRoomFor 8 growth_limit → ⊥
none_wider (inl same) = absurd (omega (arith, same))
none_wider (inr is) = absurd (omega (arith, is.0))
