-- What follows from what a pass keeps true of its list.
use Rattle.std.proofs.Common.{◌≡◌, ℕ, ◌+◌, ◌-◌, ◌<◌, ◌≤◌, List, [], ◌∷◌, ◌++◌, map, length, get_or, take, slice_get, Some, refl, ap, sym, subst, ◌∙◌, arith, MatchOption, lt_of_not-le, inl, inr}
use Rattle.std.proofs.lemmas.Bool.{cases_eq}
use Rattle.std.proofs.lemmas.List.{length-map, get_or-map, map-append, length_push, take_all, nil_from_length}
use Rattle.std.proofs.lemmas.List.Elements.{All-push, All-get_or}
use Rattle.std.proofs.lemmas.List.Sums.{sum_by_push}
use Rattle.std.proofs.lemmas.Option.{get_or_from_slice_get, slice_get_within, slice_get_cases}
use Rattle.block_core.specs.Length.{IsBlockLength}
use Rattle.block_core.specs.Growth.{Growth}
use Rattle.directory_core.specs.Chain.{total}
use Rattle.directory_core.specs.Finding.{IsPlaceOf}
use Rattle.directory_core.specs.Notes.{IsNextInLimit, ListHolds}
use Rattle.directory_core.proofs.Chains.{chained_at, chained_push}

module _ {R : Type 0} {width room limit : ℕ} {entries : List (Growth R)} {starts : List ℕ} {size : ℕ} (h : ListHolds width room limit entries starts size) where
  pub as_many_starts : length starts ≡ length entries
  as_many_starts = ap length h.starts_are ∙ length-map entries (λ (e : Growth R). e.start)

  -- where a growth starts
  pub start_at : (g : ℕ) (e : Growth R) → slice_get entries g ≡ Some e → get_or starts g 0 ≡ total (take g entries)
  start_at g e is =
      ap (λ (xs : List ℕ). get_or xs g 0) h.starts_are
      ∙ (get_or-map (λ (f : Growth R). f.start) entries g e 0 (slice_get_within entries g e is)
      ∙ (ap (λ (f : Growth R). f.start) (get_or_from_slice_get entries g e e is) ∙ (chained_at entries g e h.chained is).1))

  pub entry_at : (g : ℕ) → g < length entries → (e : Growth R) × (slice_get entries g ≡ Some e)
  entry_at g lt = elim ((slice_get_cases entries g).1) [ inl found ↦ (found.0, found.2) | inr past ↦ absurd (omega (arith, past.0)) ]

  -- a growth follows those before it
  pub follows_at : (g : ℕ) (e : Growth R) → slice_get entries g ≡ Some e → IsNextInLimit width limit (take g entries) (length e.records) e
  follows_at g e is =
      let inside = slice_get_within entries g e is in
      let in_total = (chained_at entries g e h.chained is).3 in
      let size_is = h.size_is in
      let in_limit = h.in_limit in
      record {
        next = h.chained g e is;
        len_is = refl;
        block = subst (λ (f : Growth R). IsBlockLength width (length f.records)) (get_or_from_slice_get entries g e e is)
            (All-get_or (λ (f : Growth R). IsBlockLength width (length f.records)) entries g e inside h.blocks);
        fits = omega arith;
      }

  pub follows_there : (g len : ℕ) → g < length entries → ((e : Growth R) → slice_get entries g ≡ Some e → len ≡ length e.records)
      → MatchOption (slice_get entries g) ⊥ (IsNextInLimit width limit (take g entries) len)
  follows_there g len lt is = let e = entry_at g lt in rw (e.1, is e.0 e.1) (follows_at g e.0 e.1)

  -- a growth ends where the next starts, and the last one at the end
  pub ends_at : (g : ℕ) (e : Growth R) → slice_get entries g ≡ Some e
      → (g + 1 < length starts → get_or starts (g + 1) 0 ≡ get_or starts g 0 + length e.records)
      × (length starts ≤ g + 1 → size ≡ get_or starts g 0 + length e.records)
  ends_at g e is =
      let many = as_many_starts in
      let here = start_at g e is in
      let more = (chained_at entries g e h.chained is).2 in
      let size_is = h.size_is in (
        (λ inside. let next = entry_at (g + 1) (omega arith) in let there = start_at (g + 1) next.0 next.1 in omega arith),
        (λ last. let whole : total (take (g + 1) entries) ≡ total entries = ap total (take_all (g + 1) entries (omega arith)) in omega arith),
      )

  pub first_start : (i : ℕ) → i < size → (0 < length starts) × (get_or starts 0 0 ≤ i)
  first_start i lt =
      let many = as_many_starts in
      let size_is = h.size_is in
      let some : 0 < length entries = lt_of_not-le (λ (le : length entries ≤ 0). let none : total entries ≡ 0 = ap total (nil_from_length entries (omega arith)) in omega arith) in
      let e = entry_at 0 some in
      let first = start_at 0 e.0 e.1 in
      (omega arith, omega arith)

  -- the growth of the last start at or before i has i
  pub finds : (low i : ℕ) → low < length starts → get_or starts low 0 ≤ i → (low + 1 < length starts → i < get_or starts (low + 1) 0) → i < size
      → IsPlaceOf entries i low (i - get_or starts low 0)
  finds low i inside from until lt =
      let many = as_many_starts in
      let e = entry_at low (omega arith) in
      let here = start_at low e.0 e.1 in
      let ends = ends_at low e.0 e.1 in
      let short : i < get_or starts low 0 + length e.0.records = elim (cases_eq (low + 1) (length starts)) [
        | inl last ↦ let end = ends.1 (omega arith) in omega arith
        | inr other ↦ let more : low + 1 < length starts = omega (arith, other) in let end = ends.0 more in let before = until more in omega arith
      ] in
      record { growth = e.0; is = e.1; inside = omega arith; at = omega arith }

  -- the list with the next growth
  pub list_added : (e : Growth R) (len : ℕ) → length entries < room → IsNextInLimit width limit entries len e
      → ListHolds width room limit (entries ++ e ∷ []) (starts ++ size ∷ []) (size + len)
  list_added e len lt follows =
      let start : size ≡ e.start = h.size_is ∙ sym follows.next.start in
      let more : total (entries ++ e ∷ []) ≡ total entries + length e.records = sum_by_push (λ (f : Growth R). length f.records) entries e in
      let size_is = h.size_is in
      let len_is = follows.len_is in
      let fits = follows.fits in
      record {
        chained = chained_push entries e h.chained follows.next;
        blocks = All-push (λ (f : Growth R). IsBlockLength width (length f.records)) entries e h.blocks (rw follows.len_is follows.block);
        starts_are = ap (λ (xs : List ℕ). xs ++ size ∷ []) h.starts_are
            ∙ (ap (λ (k : ℕ). map (λ (f : Growth R). f.start) entries ++ k ∷ []) start
            ∙ sym (map-append (λ (f : Growth R). f.start) entries (e ∷ [])));
        size_is = omega arith;
        in_limit = omega arith;
        in_room = omega (arith, length_push entries e);
        limits = h.limits;
      }
