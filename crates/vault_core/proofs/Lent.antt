-- What an iterator over pieces lends, and what is left of a piece.
use Rattle.std.proofs.Common.{◌≡◌, ℕ, ◌+◌, ◌≤◌, ◌^◌, Bool, List, [], ◌∷◌, ◌++◌, length, map, Bor, Option, Some, None, refl, sym, ap, subst, ◌∙◌, arith}
use Rattle.std.specs.Prelude.{MatchOption}
use Rattle.std.specs.List.{count_by}
use Rattle.std.specs.Iterator.{Yields, YieldsFirstRef}
use Rattle.std.proofs.lemmas.List.{length-append, append-nil}
use Rattle.std.proofs.lemmas.List.Concat.{flat_map-append}
use Rattle.segment_core.specs.Written.{joined}
use Rattle.directory_core.specs.Finding.{IsPieceAt}
use Rattle.book_core.specs.Lists.{IsRestOfPiece}
use Rattle.book_core.proofs.PieceLists.{IsPieceAt-rest}
use Rattle.search_core.specs.Search.{records_in, LendsFew, LendsAll, LendsUntil, IsFirst}
use Rattle.search_core.proofs.Firsts.{first_before}

abbrev steps : {R : Type 0} → List (List R) → Option (Bor (List R)) → List (List R) → Type 0
steps {R} = YieldsFirstRef {A = List R} (λ (pieces : List (List R)). pieces)

-- the pieces are those that it lent, and those that are left
lent_pieces : {R : Type 0} (pieces : List (List R)) (items : List (Bor (List R))) (rest : List (List R)) → Yields steps pieces items rest
    → pieces ≡ map (λ (t : Bor (List R)). t.now) items ++ rest
lent_pieces pieces [] rest same = same
lent_pieces {R} pieces (item ∷ items) rest lent = lent.1 ∙ ap (λ (ps : List (List R)). item.now ∷ ps) (lent_pieces lent.0 items rest lent.2)

pub lent_records : {R : Type 0} (pieces : List (List R)) (items : List (Bor (List R))) (rest : List (List R)) → Yields steps pieces items rest → joined pieces ≡ records_in items ++ joined rest
lent_records {R} pieces items rest lent =
    ap joined (lent_pieces pieces items rest lent) ∙ flat_map-append (λ (rs : List R). rs) (map (λ (t : Bor (List R)). t.now) items) rest

-- it lends no more records than the pieces have
pub lends_few : {R : Type 0} (pieces : List (List R)) → length (joined pieces) ≤ 2 ^ 32 → LendsFew (steps {R = R}) pieces
lends_few pieces few items rest lent = omega (arith, few, ap length (lent_records pieces items rest lent), length-append (records_in items) (joined rest))

-- all of them, where no more comes
pub lends_all : {R : Type 0} (pieces : List (List R)) (items : List (Bor (List R))) → LendsAll (steps {R = R}) pieces items → records_in items ≡ joined pieces
lends_all {R} pieces items all =
    let last = all.1 in
    sym (lent_records pieces items last.0 last.1 ∙ ap (λ (ps : List (List R)). records_in items ++ joined ps) last.2.0 ∙ append-nil (records_in items))

-- and so the first of what it lent is the first of all
pub lends_first : {R : Type 0} (p : R → Bool) (pieces : List (List R)) (items : List (Bor (List R))) (found : Option ℕ)
    → LendsUntil (steps {R = R}) pieces items found → IsFirst p (records_in items) found → IsFirst p (joined pieces) found
lends_first p pieces items None all first = ap (count_by p) (sym (lends_all pieces items all)) ∙ first
lends_first {R} p pieces items (Some i) some first =
    subst (λ (rs : List R). IsFirst p rs (Some i)) (sym (lent_records pieces items some.0 some.1)) (first_before p (records_in items) (joined some.0) i first)

-- ---- what is left of a piece

pub rest_at : {R : Type 0} (pieces : List (List R)) (i : ℕ) (found : Option (Bor (List R)))
    → MatchOption found (length (joined pieces) ≤ i) (λ rest. IsRestOfPiece pieces i rest.now)
    → MatchOption found (length (joined pieces) ≤ i) (λ rest. IsPieceAt (joined pieces) i rest.now)
rest_at pieces i None none = none
rest_at pieces i (Some rest) at = IsPieceAt-rest pieces i rest.now at
