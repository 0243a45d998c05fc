-- Whose growths a phase leaves, whose seats stand in the order of their ids.
use Rattle.std.proofs.Common.{◌≡◌, ℕ, ◌<◌, List, [], ◌∷◌, length, take, get_or, slice_get, Some, All, sym, ap, subst, ◌∙◌, arith}
use Rattle.std.proofs.lemmas.List.{get_or-map, length-map}
use Rattle.std.proofs.lemmas.Option.{slice_get_within, get_or_from_slice_get}
use Rattle.block_core.specs.Growth.{Growth}
use Rattle.directory_core.specs.Chain.{IsPrefix}
use Rattle.book_core.specs.Lists.{Seated, StandInList, own_of}
use Rattle.book_core.proofs.Owns.{take-begins}
use Rattle.vault_core.specs.Gathering.{AreDistinct, HasId, made_by}
use Rattle.vault_core.specs.Leaving.{AreOfGrowers, StandAmong}
use Rattle.vault_core.proofs.Prefixes.{begins-le}
use Rattle.vault_core.proofs.Endings.{by_seats, made_once}

-- the id of each is its place
abbrev pub AreInOrder : {R : Type 0} → List (Seated R) → Type 0
AreInOrder {R} seats = (k : ℕ) (d : Seated R) → k < length seats → (get_or seats k d).id ≡ k

module _ {R : Type 0} (seats : List (Seated R)) (order : AreInOrder seats) where
  grower-at : (id : ℕ) (d : Seated R) → HasId id seats → id < length seats
  grower-at id d has =
      let lt : has.0 < length seats = let within = has.1 in let long = length-map seats (λ (s : Seated R). s.id) in omega arith in
      let is : id ≡ has.0 = sym has.2 ∙ get_or-map (λ (s : Seated R). s.id) seats has.0 d id lt ∙ order has.0 d lt in
      omega arith

  distinct : AreDistinct seats
  distinct i j d lt within same =
      let one = order i d (omega arith) in
      let other = order j d within in
      omega (arith, sym one ∙ same ∙ other)

  -- their lists begin one that is known
  module _ {es : List (Growth R)} (stand : All StandInList seats) (begin : All (λ s. IsPrefix s.pass.entries es) seats) where
    pub stand_among : (k : ℕ) (seat : Seated R) → slice_get seats k ≡ Some seat → StandAmong k es seat.made
    stand_among k seat there =
        let within = slice_get_within seats k seat there in
        let here = get_or_from_slice_get seats k seat seat there in
        let stands : StandInList seat = subst StandInList here (stand k seat within) in
        let begins : IsPrefix seat.pass.entries es = subst (λ (s : Seated R). IsPrefix s.pass.entries es) here (begin k seat within) in
        let id : seat.id ≡ k = ap (λ (s : Seated R). s.id) (sym here) ∙ order k seat within in
        record {
          first = stands.first;
          inside = let le = begins-le seat.pass.entries es begins in let inside = stands.inside in omega (arith, le, inside);
          are = stands.are ∙ ap (own_of seat.id) (sym (take-begins seat.pass.entries es stands.first begins stands.inside))
              ∙ ap (λ (i : ℕ). own_of i (take stands.first es)) id;
        }

    pub of_growers : made_by seats ≡ length es → (n : ℕ) → length seats ≡ n → AreOfGrowers n seats es
    of_growers as_many n many = record {
      by_growers = λ k d lt. by_seat k d lt;
      made_once = λ k seat lt there.
          let within = slice_get_within seats k seat there in
          let here = get_or_from_slice_get seats k seat seat there in
          let id = ap (λ (s : Seated R). s.id) (sym here) ∙ order k seat within in
          ap (λ (i : ℕ). own_of i es) (sym id) ∙ subst (λ (s : Seated R). own_of s.id es ≡ s.made) here (made_once seats es distinct as_many stand begin k seat within);
    }
      where
        -- some seat
        some_seat : (ss : List (Seated R)) (i : ℕ) → i < length ss → Seated R
        some_seat [] i lt = absurd (omega arith)
        some_seat (s ∷ ss) i lt = s

        by_seat : (k : ℕ) (d : Growth R) → k < length es → (get_or es k d).seat < n
        by_seat k d lt =
            let has = by_seats seats es distinct as_many stand begin k d lt in
            let within = has.1 in
            let long = length-map seats (λ (s : Seated R). s.id) in
            let is = some_seat seats has.0 (omega arith) in
            let at = grower-at (get_or es k d).seat is has in
            omega (arith, at, many)
