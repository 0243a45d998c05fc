-- Worked values of definitions that stand in conclusions alone.
use Rattle.std.proofs.Common.{◌≡◌, ℕ, zero, suc, ◌+◌, inl, inr, Bool, true, false, List, [], ◌∷◌, Option, Some, None, Ok, Err, MatchOption, length, take, drop, slice_get, refl, ap, sym, subst, ◌∙◌, arith, codes}
use Rattle.std.specs.Fmt.{digits}
use Rattle.once_cell.specs.declared.race.note.Note.{Note}
use Rattle.block_core.specs.Growth.{Growth}
use Rattle.directory_core.specs.declared.fault.DirFault.{DirFault}
use Rattle.directory_core.specs.declared.fault.DirFault.TheVariants.{Taken, Full, Strayed, Memory}
use Rattle.directory_core.specs.Chain.{total, grown_records, IsNextGrowth, IsChained, AreBlocks, IsPrefix, Agree, IsLongerOf}
use Rattle.directory_core.specs.Fault.{DirectoryKeepsLimit, IsPublishRefusal}
use Rattle.directory_core.specs.Finding.{IsPlaceOf, IsRestAt, IsPieceAt}
use Rattle.directory_core.specs.Identity.{Name, Identity}
use Rattle.directory_core.specs.Known.{Known, Held, KnowsAll}
use Rattle.directory_core.specs.Notes.{IsEnd, EndsIn, IsEndedAt}
use Rattle.directory_core.specs.Judging.{IsJudged}
use Rattle.directory_core.specs.Names.{dir_name}
use Rattle.directory_core.specs.Limits.{place_limit, growth_limit}
use Rattle.record_core.specs.Limits.{record_limit}
use Rattle.directory_core.specs.Spot.{places_before, IsSpot}

-- ---- spots

limits : (place_limit ≡ places_before 26) × (growth_limit ≡ places_before 17) × (record_limit ≡ 4294967296)
limits = (refl, refl, refl)

first_place : IsSpot 0 0 0
first_place = record { inside = omega arith; at = refl }

last_of_the_first : IsSpot 7 0 7
last_of_the_first = record { inside = omega arith; at = refl }

first_of_the_second : IsSpot 8 1 0
first_of_the_second = record { inside = omega arith; at = refl }

-- the last place of 17 buckets, the one behind it, and the last of all
last_place_of_17 : IsSpot 1048567 16 524287
last_place_of_17 = record { inside = omega arith; at = refl }

first_of_the_18th : IsSpot 1048568 17 0
first_of_the_18th = record { inside = omega arith; at = refl }

last_place : IsSpot 536870903 25 268435455
last_place = record { inside = omega arith; at = refl }

-- a number behind the last place has a bucket that no directory has
first_beyond : IsSpot 536870904 26 0
first_beyond = record { inside = omega arith; at = refl }

-- the first bucket has no ninth place
no_ninth : IsSpot 8 0 8 → ⊥
no_ninth spot = let inside = spot.inside in omega arith

-- ---- chains

abbrev one : Growth ℕ
one = record { number = 0; start = 0; seat = 3; serial = 0; records = 7 ∷ 8 ∷ [] }

abbrev other : Growth ℕ
other = record { number = 1; start = 2; seat = 1; serial = 0; records = 9 ∷ [] }

of_both : (total (one ∷ other ∷ []) ≡ 3) × (grown_records (one ∷ other ∷ []) ≡ 7 ∷ 8 ∷ 9 ∷ [])
of_both = (refl, refl)

-- what is behind the first has its number and its start
no_gap : IsNextGrowth (one ∷ []) (record { number = 1; start = 3; seat = 1; serial = 0; records = 9 ∷ [] }) → ⊥
no_gap next = let start = next.start in omega arith

no_skip : IsNextGrowth (one ∷ []) (record { number = 2; start = 2; seat = 1; serial = 0; records = 9 ∷ [] }) → ⊥
no_skip next = let number = next.number in omega arith

no_chain : IsChained (other ∷ []) → ⊥
no_chain chained = let number = (chained 0 other refl).number in omega arith

a_chain : IsChained (one ∷ other ∷ [])
a_chain zero e is = let same : one ≡ e = cc in rw (← same) (record { number = refl; start = refl })
a_chain (suc zero) e is = let same : other ≡ e = cc in rw (← same) (record { number = refl; start = refl })
a_chain (suc (suc g)) e is = absurd cc

-- a growth of no records is none of a chain of blocks
no_empty_growth : AreBlocks {R = ℕ} 8 (one ∷ record { number = 1; start = 2; seat = 1; serial = 0; records = [] } ∷ []) → ⊥
no_empty_growth blocks = let some = (blocks 1 one (omega arith)).some in omega arith

-- ---- lists that agree

not_begun : IsPrefix {X = ℕ} (8 ∷ []) (7 ∷ 8 ∷ []) → ⊥
not_begun begins = absurd cc

not_begun_by_more : IsPrefix {X = ℕ} (7 ∷ 8 ∷ []) (7 ∷ []) → ⊥
not_begun_by_more begins = absurd cc

no_agreement : Agree {X = ℕ} (7 ∷ 8 ∷ []) (7 ∷ 9 ∷ []) → ⊥
no_agreement agree = let second = agree 1 (omega arith) (omega arith) in absurd cc

-- of two lists of which one begins the other they give the longer
the_longer : (both : List ℕ) → IsLongerOf (7 ∷ []) (7 ∷ 8 ∷ []) both → both ≡ 7 ∷ 8 ∷ []
the_longer both meets = elim meets.is_one [
  | inl short ↦ let begins = meets.begins_theirs in absurd (let wrong : take 2 (7 ∷ []) ≡ 7 ∷ 8 ∷ [] = ap (take 2) (sym short) ∙ begins in cc)
  | inr long ↦ long
]

nothing_given : (both : List ℕ) → IsLongerOf (7 ∷ []) (8 ∷ []) both → ⊥
nothing_given both meets = let seven : List ℕ = 7 ∷ [] in let eight : List ℕ = 8 ∷ [] in let same : seven ≡ eight = sym meets.begins_mine ∙ meets.begins_theirs in absurd cc

-- ---- positions

-- position 1 is the second place of the first growth, and no place of another
second : IsPlaceOf (one ∷ other ∷ []) 1 0 1
second = record { growth = one; is = refl; inside = omega arith; at = refl }

third : IsPlaceOf (one ∷ other ∷ []) 2 1 0
third = record { growth = other; is = refl; inside = omega arith; at = refl }

not_past_its_end : IsPlaceOf (one ∷ other ∷ []) 2 0 2 → ⊥
not_past_its_end at = let same : one ≡ at.growth = let is = at.is in cc in let inside = at.inside in let long = ap (λ (e : Growth ℕ). length e.records) same in omega arith

rest_of_second : (place number : ℕ) (e : Growth ℕ) (piece : List ℕ) → slice_get (one ∷ other ∷ []) number ≡ Some e
    → total (take number (one ∷ other ∷ [])) + place ≡ 1 → piece ≡ drop place e.records → piece ≡ 8 ∷ []
rest_of_second place zero e piece is at piece_is = let same : one ≡ e = cc in let here : place ≡ 1 = omega arith in piece_is ∙ (λ i. drop (here i) ((sym same i).records))
rest_of_second place (suc zero) e piece is at piece_is = absurd (omega arith)
rest_of_second place (suc (suc g)) e piece is at piece_is = absurd cc

the_rest : (piece : List ℕ) → IsRestAt (one ∷ other ∷ []) 1 piece → piece ≡ 8 ∷ []
the_rest piece rest = rest_of_second rest.place rest.number rest.found.growth piece rest.found.is rest.found.at rest.is

a_piece : IsPieceAt {R = ℕ} (7 ∷ 8 ∷ 9 ∷ []) 1 (8 ∷ 9 ∷ [])
a_piece = record { some = omega arith; is = refl }

no_empty_piece : IsPieceAt {R = ℕ} (7 ∷ 8 ∷ []) 1 [] → ⊥
no_empty_piece piece = let some = piece.some in omega arith

no_other_piece : IsPieceAt {R = ℕ} (7 ∷ 8 ∷ 9 ∷ []) 1 (9 ∷ []) → ⊥
no_other_piece piece = let is = piece.is in absurd cc

-- ---- which fault may come of a growth of two records, behind two growths of three

abbrev bounded : Name → ℕ → ℕ → Identity
bounded name room limit = record { name = name; room = room; limit = limit }

abbrev next : Growth ℕ
next = record { number = 2; start = 3; seat = 3; serial = 1; records = 1 ∷ 2 ∷ [] }

module _ (name : Name) where
  where_full : (fault : DirFault) → IsPublishRefusal (bounded name 2 5) (one ∷ other ∷ []) next fault → fault ≡ Full
  where_full Taken is = absurd (let room = is.0 in omega arith)
  where_full Full is = refl
  where_full (Strayed n) is = absurd (let room = is.0 in omega arith)
  where_full Memory is = absurd (let room = is.0 in omega arith)

  past_the_limit : (fault : DirFault) → IsPublishRefusal (bounded name 3 4) (one ∷ other ∷ []) next fault → fault ≡ Strayed 2
  past_the_limit Taken is = absurd (let limit = is.1 in omega arith)
  past_the_limit Full is = absurd (omega arith)
  past_the_limit (Strayed n) is = ap Strayed is.1
  past_the_limit Memory is = absurd (let limit = is.1 in omega arith)

  -- to the limit
  just_in_limit : DirectoryKeepsLimit (bounded name 3 5) (one ∷ other ∷ []) next
  just_in_limit = omega arith

fault_names : (dir_name Taken ≡ codes "taken") × (dir_name Full ≡ codes "full") × (dir_name (Strayed 3) ≡ codes "strayed 3") × (dir_name Memory ≡ codes "memory")
unfolding digits
fault_names = (refl, refl, refl, refl)

-- ---- what a look makes of what it finds behind the first growth

module _ (name : Name) (held : Held) where
  abbrev knows : List (Growth ℕ) → Bool → Bool → Known ℕ
  knows entries ended strayed = record { of = bounded name 2 5; entries = entries; ended = ended; strayed = strayed; held = held }

  abbrev end : Growth ℕ
  end = record { number = 536870904; start = 0; seat = 0; serial = 0; records = 0 ∷ [] }

  abbrev astray : Growth ℕ
  astray = record { number = 1; start = 3; seat = 1; serial = 0; records = 9 ∷ [] }

  -- what follows is known then
  follows : IsJudged 8 (knows (one ∷ []) false true) (knows (one ∷ other ∷ []) false false) other (Ok true)
  follows = (record { next = record { number = refl; start = refl }; len_is = refl; block = record { some = omega arith; fits = omega arith }; fits = omega arith }, refl, refl)

  -- what strays is neither passed over as nothing nor taken in
  not_passed_over : (new : Known ℕ) → IsJudged 8 (knows (one ∷ []) false false) new astray (Ok false) → ⊥
  not_passed_over new judged = let is = judged.0 in absurd (omega arith)

  not_taken_in : (new : Known ℕ) → IsJudged 8 (knows (one ∷ []) false false) new astray (Ok true) → ⊥
  not_taken_in new judged = let start = judged.0.next.start in absurd (omega arith)

  -- and what follows isn't said to stray, nor to end the list
  not_said_to_stray : (new : Known ℕ) (fault : DirFault) → IsJudged 8 (knows (one ∷ []) false false) new other (Err fault) → ⊥
  not_said_to_stray new fault judged = absurd (judged.0 (follows.0))

  not_said_to_end : (new : Known ℕ) → IsJudged 8 (knows (one ∷ []) false false) new other (Ok false) → ⊥
  not_said_to_end new judged = let is = judged.0 in absurd (omega arith)

  -- that it strayed is kept in mind, and the number named
  strays : (new : Known ℕ) (fault : DirFault) → IsJudged 8 (knows (one ∷ []) false false) new astray (Err fault) → (fault ≡ Strayed 1) × (new.strayed ≡ true) × (new.entries ≡ one ∷ [])
  strays new fault judged = (judged.1, judged.3, judged.2)

  -- and each leaves just this of the pass
  known_then : (new : Known ℕ) → IsJudged 8 (knows (one ∷ []) false true) new other (Ok true) → (new.entries ≡ one ∷ other ∷ []) × (new.strayed ≡ false)
  known_then new judged = (judged.1, judged.2)

  ended_then : (new : Known ℕ) → IsJudged 8 (knows (one ∷ []) false true) new end (Ok false) → (new.ended ≡ true) × (new.entries ≡ one ∷ []) × (new.strayed ≡ false)
  ended_then new judged = (judged.1, judged.2, judged.3)

  -- what passes the limit doesn't follow, nor does what has no record
  not_past_limit : (new : Known ℕ) → IsJudged 8 (record (knows (one ∷ []) false false) { of = bounded name 2 2 }) new other (Ok true) → ⊥
  not_past_limit new judged = let fits = judged.0.fits in absurd (omega arith)

  not_without_records : (new : Known ℕ) → IsJudged 8 (knows (one ∷ []) false false) new (record other { records = [] }) (Ok true) → ⊥
  not_without_records new judged = let some = judged.0.block.some in absurd (omega arith)

  the_end : IsJudged 8 (knows (one ∷ []) false false) (knows (one ∷ []) true false) end (Ok false)
  the_end = (refl, refl, refl, refl)

  not_forgotten : IsJudged 8 (knows (one ∷ []) false false) (knows (one ∷ []) false false) end (Ok false) → ⊥
  not_forgotten judged = let ended = judged.1 in absurd cc

  -- ---- who knows all

  some_may_come : KnowsAll (knows (one ∷ []) false false) → ⊥
  some_may_come all = elim all [ inl ended ↦ absurd cc | inr full ↦ absurd (omega arith) ]

  none_behind_the_end : KnowsAll (knows (one ∷ []) true false)
  none_behind_the_end = inl refl

  none_behind_the_room : KnowsAll (knows (one ∷ other ∷ []) false false)
  none_behind_the_room = inr (omega arith)

  -- ---- where a list ends

  -- the second growth has the second place of the first bucket: the end stands there, and neither elsewhere nor another growth
  module _ (stands : Note (Growth ℕ)) where
    ends_there : stands.cell ≡ 41 → stands.known ≡ Some end → EndsIn 1 (Some stands) (40 ∷ 41 ∷ [])
    ends_there cell known = rw (cell, known) (refl, refl)

    not_elsewhere : stands.cell ≡ 40 → EndsIn 1 (Some stands) (40 ∷ 41 ∷ []) → ⊥
    not_elsewhere cell ends = let at : 41 ≡ stands.cell = (let is = ends.0 in grind arith) in omega arith

    not_by_a_growth : stands.known ≡ Some other → EndsIn 1 (Some stands) (40 ∷ 41 ∷ []) → ⊥
    not_by_a_growth known ends = let is : IsEnd other = subst (λ (o : Option (Growth ℕ)). MatchOption o ⊥ IsEnd) known ends.1 in omega arith

    not_unseen : stands.known ≡ None → EndsIn 1 (Some stands) (40 ∷ 41 ∷ []) → ⊥
    not_unseen known ends = subst (λ (o : Option (Growth ℕ)). MatchOption o ⊥ IsEnd) known ends.1

    -- of a bucket that isn't known, nothing is
    unknown : (g : ℕ) → IsEndedAt [] g (Some stands) → ⊥
    unknown g ended = ended.ends

  -- where the bucket has no such place, none comes there; where it has one, some may
  no_place : EndsIn {R = ℕ} 0 None []
  no_place = omega arith

  a_place : EndsIn {R = ℕ} 1 None (40 ∷ 41 ∷ []) → ⊥
  a_place past = absurd (omega arith)
