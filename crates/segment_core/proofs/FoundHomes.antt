-- Homes one behind the other: one more, one less, one cut.
use Rattle.std.proofs.Common.{◌≡◌, ℕ, ◌+◌, ◌-◌, ◌≤◌, ◌<◌, List, [], ◌∷◌, ◌++◌, Option, sym, ap, ◌∙◌, arith, inl, inr}
use Rattle.std.specs.Option.{option_or}
use Rattle.std.proofs.lemmas.Bool.{cases_lt}
use Rattle.segment_core.specs.declared.found.Home.{Home}
use Rattle.segment_core.specs.Vector.{place_among}
use Rattle.segment_core.specs.Found.{home_among, AreInTurn}
use Rattle.segment_core.proofs.LastFrom.{option_or_assoc, option_or_none}
use Rattle.segment_core.proofs.PlaceAmong.{place_among_inside, place_among_below}

pub home_among_push : (width i : ℕ) (homes : List Home) (home : Home)
    → home_among width (homes ++ home ∷ []) i ≡ option_or (place_among width home.place home.position home.count i) (home_among width homes i)
home_among_push width i [] home = sym (option_or_none (place_among width home.place home.position home.count i))
home_among_push width i (first ∷ homes) home =
    let here : Option ℕ = place_among width first.place first.position first.count i in
    ap (λ o. option_or o here) (home_among_push width i homes home)
    ∙ option_or_assoc (place_among width home.place home.position home.count i) (home_among width homes i) here

pub in_turn_push : (start middle end : ℕ) (homes : List Home) (home : Home)
    → AreInTurn start homes middle → home.position ≡ middle → middle + home.count ≡ end
    → AreInTurn start (homes ++ home ∷ []) end
in_turn_push start middle end [] home turn here to = (here ∙ sym turn, omega (arith, turn))
in_turn_push start middle end (first ∷ homes) home turn here to = (turn.0, in_turn_push (start + first.count) middle end homes home turn.1 here to)

pub in_turn_pop : (start end : ℕ) (homes : List Home) (home : Home) → AreInTurn start (homes ++ home ∷ []) end → AreInTurn start homes home.position × (home.position + home.count ≡ end)
in_turn_pop start end [] home turn = let here = turn.0 in let to = turn.1 in (sym here, omega arith)
in_turn_pop start end (first ∷ homes) home turn = let rest = in_turn_pop (start + first.count) end homes home turn.1 in ((turn.0, rest.0), rest.1)

pub in_turn_up_to : (start end : ℕ) (homes : List Home) → AreInTurn start homes end → start ≤ end
in_turn_up_to start end [] turn = omega (arith, turn)
in_turn_up_to start end (first ∷ homes) turn = let rest = in_turn_up_to (start + first.count) end homes turn.1 in omega arith

-- a home that begins past a position says nothing of it
pub home_among_popped : (width i size : ℕ) (homes : List Home) (home : Home) → i < size → size ≤ home.position → home_among width homes i ≡ home_among width (homes ++ home ∷ []) i
home_among_popped width i size homes home lt past =
    sym (home_among_push width i homes home ∙ ap (λ o. option_or o (home_among width homes i)) (place_among_below width home.place home.position home.count i (omega arith)))

-- a home that ends earlier says the same of what is left
pub home_among_cut : (width i size : ℕ) (homes : List Home) (home : Home) → i < size → home.position < size → size ≤ home.position + home.count
    → home_among width (homes ++ record { position = home.position; place = home.place; count = size - home.position } ∷ []) i ≡ home_among width (homes ++ home ∷ []) i
home_among_cut width i size homes home lt from to =
    let short : Home = record { position = home.position; place = home.place; count = size - home.position } in
    let same : place_among width home.place home.position (size - home.position) i ≡ place_among width home.place home.position home.count i = elim (cases_lt i home.position) [
      | inl below ↦ place_among_below width home.place home.position (size - home.position) i below ∙ sym (place_among_below width home.place home.position home.count i below)
      | inr inside ↦
          place_among_inside width home.place home.position (size - home.position) i inside (omega arith)
          ∙ sym (place_among_inside width home.place home.position home.count i inside (omega arith))
    ] in
    home_among_push width i homes short ∙ ap (λ o. option_or o (home_among width homes i)) same ∙ sym (home_among_push width i homes home)
