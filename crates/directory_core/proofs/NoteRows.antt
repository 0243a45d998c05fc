-- What follows from what a pass keeps true of its notes.
use Rattle.std.proofs.Common.{◌≡◌, ℕ, zero, suc, ◌+◌, ◌<◌, ◌≤◌, List, [], ◌∷◌, ◌++◌, length, get_or, take, set, slice_get, Bool, true, false}
use Rattle.std.proofs.Common.{Some, None, Option, refl, ap, sym, subst, ◌∙◌, arith, IfSome, MatchOption, inl, inr, add-one, option_to_list}
use Rattle.std.proofs.lemmas.Bool.{cases_eq}
use Rattle.std.proofs.lemmas.Option.{slice_get_cases}
use Rattle.std.proofs.lemmas.List.{length-set, get_or_append_left, get_or_push, get_or-set_same, get_or-set_other, length_push}
use Rattle.once_cell.specs.declared.race.note.Note.{Note}
use Rattle.block_core.specs.Growth.{Growth}
use Rattle.directory_core.specs.Limits.{place_limit}
use Rattle.directory_core.specs.Chain.{IsChained}
use Rattle.directory_core.specs.Spot.{IsSpot}
use Rattle.record_core.specs.Limits.{record_limit}
use Rattle.directory_core.specs.Notes.{somes, cells_of, known_of, cell_in, StandsIn, HasCell, IsNextInLimit, IsEnd, EndsIn, IsEndedAt, NotesHold, PassHolds}
use Rattle.directory_core.proofs.Spots.{one_bucket, one_place}
use Rattle.directory_core.proofs.Somes.{as_many, known_push, somes-append}
use Rattle.directory_core.proofs.Lists.{list_added}
use Rattle.directory_core.proofs.Chains.{chained_at}
use Rattle.directory_core.proofs.Readings.{cell_inside, one_some}

-- a bucket that is known stays as it is
same_in : (before after : Option (List ℕ)) (place cell : ℕ) → IfSome before (λ names. after ≡ Some names) → cell_in before place ≡ Some cell → cell_in after place ≡ Some cell
same_in None after place cell keeps is = grind arith
same_in (Some names) after place cell keeps is = ap (λ (o : Option (List ℕ)). cell_in o place) keeps ∙ is

-- two notes that agree on a bucket agree on its cells
same_cell : (mine theirs : Option (List ℕ)) (place cell cell' : ℕ) → IfSome theirs (λ names. IfSome mine (λ names'. names' ≡ names))
    → cell_in mine place ≡ Some cell → cell_in theirs place ≡ Some cell' → cell ≡ cell'
same_cell None theirs place cell cell' agree mine theirs' = grind arith
same_cell (Some names) None place cell cell' agree mine theirs' = grind arith
same_cell (Some names) (Some names') place cell cell' agree mine theirs' = let s : slice_get names place ≡ slice_get names' place = ap (λ (ns : List ℕ). slice_get ns place) agree in grind arith

-- a pass that agrees with one that knows a bucket may take its note
pub keeps_from : (mine theirs : Option (List ℕ)) (place cell : ℕ) → cell_in theirs place ≡ Some cell
    → IfSome theirs (λ names. IfSome mine (λ names'. names' ≡ names)) → IfSome mine (λ names. theirs ≡ Some names)
keeps_from None theirs place cell is agree = tt
keeps_from (Some names) None place cell is agree = grind arith
keeps_from (Some names) (Some names') place cell is agree = ap Some (sym agree)

-- two lists that agree at a place which both have
pub agree_get : {X : Type 0} (xs ys : List X) (i : ℕ) → i < length xs → i < length ys
    → IfSome (slice_get ys i) (λ y. IfSome (slice_get xs i) (λ x. x ≡ y)) → slice_get xs i ≡ slice_get ys i
agree_get [] ys i a b h = absurd (omega arith)
agree_get (x ∷ xs) [] i a b h = absurd (omega arith)
agree_get (x ∷ xs) (y ∷ ys) zero a b h = ap Some h
agree_get (x ∷ xs) (y ∷ ys) (suc i) a b h = agree_get xs ys i (omega arith) (omega arith) h

pub take_more_get : {X : Type 0} (xs : List X) (i : ℕ) → take (suc i) xs ≡ take i xs ++ option_to_list (slice_get xs i)
take_more_get [] zero = refl
take_more_get [] (suc i) = refl
take_more_get (x ∷ xs) zero = refl
take_more_get (x ∷ xs) (suc i) = ap (λ (ys : List _). x ∷ ys) (take_more_get xs i)

pub same_take_more : {X : Type 0} (xs ys : List X) (i : ℕ) → take i xs ≡ take i ys → slice_get xs i ≡ slice_get ys i → take (i + 1) xs ≡ take (i + 1) ys
same_take_more xs ys i before here = rw (add-one, take_more_get xs i, take_more_get ys i, before, here) refl

-- where one note knows a bucket whose place has the end, and another that agrees knows a cell there, it is the end's
end_cell : {R : Type 0} (mine theirs : Option (List ℕ)) (place cell : ℕ) (end : Option (Note (Growth R))) → MatchOption mine ⊥ (EndsIn place end)
    → cell_in theirs place ≡ Some cell → IfSome theirs (λ names. IfSome mine (λ names'. names' ≡ names))
    → MatchOption end ⊥ (λ note. (note.cell ≡ cell) × MatchOption note.known ⊥ IsEnd)
end_cell None theirs place cell end ends is agree = absurd ends
end_cell (Some names) None place cell end ends is agree = grind arith
end_cell (Some names) (Some names') place cell None past is agree = absurd (cell_inside names place cell (ap (λ (ns : List ℕ). slice_get ns place) agree ∙ is) past)
end_cell (Some names) (Some names') place cell (Some note) ends is agree =
    (one_some (slice_get names place) note.cell cell ends.0 (ap (λ (ns : List ℕ). slice_get ns place) agree ∙ is), ends.1)

end_number : {R : Type 0} (e : Growth R) (end : Option (Growth R)) → MatchOption end ⊥ IsEnd → IfSome end (λ x. x ≡ e) → e.number ≡ place_limit
end_number e None ends is = absurd ends
end_number e (Some x) ends is = ap (λ (f : Growth _). f.number) (sym is) ∙ ends

-- the cell of a growth that is known doesn't hold the end
pub end_is_none : {R : Type 0} (es : List (Growth R)) (i : ℕ) (known end : Option (Growth R)) → IsChained es → i < length es → i < place_limit → known ≡ slice_get es i
    → MatchOption end ⊥ IsEnd → IfSome known (λ x. IfSome end (λ y. y ≡ x)) → ⊥
end_is_none es i known end chained lt few is ends agree = elim ((slice_get_cases es i).1) [
  | inl found ↦
      let number = (chained_at es i found.0 chained found.2).0 in
      let same = end_number found.0 end ends (subst (λ (o : Option (Growth _)). IfSome o (λ x. IfSome end (λ y. y ≡ x))) (is ∙ found.2) agree) in
      absurd (omega arith)
  | inr past ↦ absurd (omega (arith, past.0))
]

-- a note that knows the end in a cell of a bucket
pub ends_in : {R : Type 0} (known : Option (List ℕ)) (place : ℕ) (note : Note (Growth R)) → cell_in known place ≡ Some note.cell → MatchOption note.known ⊥ IsEnd
    → MatchOption known ⊥ (EndsIn place (Some note))
ends_in None place noted is end = grind arith
ends_in (Some names) place noted is end = (is, end)

module _ (g : ℕ) (at place : ℕ) (here : IsSpot g at place) where
  -- a growth that is filed is filed at its place
  pub filed_here : (buckets : List (Option (List ℕ))) (cell : ℕ) → HasCell buckets g cell → cell_in (get_or buckets at None) place ≡ Some cell
  filed_here buckets cell f =
      let b : f.bucket ≡ at = one_bucket g f.bucket f.place at place f.at.0 here in
      let p : f.place ≡ place = one_place g f.bucket f.place at place f.at.0 here in
      subst (λ (k : ℕ). cell_in (get_or buckets k None) place ≡ Some cell) b (subst (λ (j : ℕ). cell_in (get_or buckets f.bucket None) j ≡ Some cell) p f.at.1)

  -- two passes that agree on its bucket know it by one cell
  pub one_cell : (buckets buckets' : List (Option (List ℕ))) (cell cell' : ℕ) → HasCell buckets g cell → HasCell buckets' g cell'
      → IfSome (get_or buckets' at None) (λ names. IfSome (get_or buckets at None) (λ names'. names' ≡ names)) → cell ≡ cell'
  one_cell buckets buckets' cell cell' mine theirs agree =
      same_cell (get_or buckets at None) (get_or buckets' at None) place cell cell' agree (filed_here buckets cell mine)
      (filed_here buckets' cell' theirs)

  -- where the list ends, another pass that agrees knows no cell but the end's
  pub end_here : {R : Type 0} (buckets buckets' : List (Option (List ℕ))) (cell : ℕ) (end : Option (Note (Growth R))) → IsEndedAt buckets g end → HasCell buckets' g cell
      → IfSome (get_or buckets' at None) (λ names. IfSome (get_or buckets at None) (λ names'. names' ≡ names))
      → MatchOption end ⊥ (λ note. (note.cell ≡ cell) × MatchOption note.known ⊥ IsEnd)
  end_here buckets buckets' cell end ended theirs agree =
      let b : ended.bucket ≡ at = one_bucket g ended.bucket ended.place at place ended.spot here in
      let p : ended.place ≡ place = one_place g ended.bucket ended.place at place ended.spot here in
      let ends : MatchOption (get_or buckets at None) ⊥ (EndsIn place end) =
      subst (λ (k : ℕ). MatchOption (get_or buckets k None) ⊥ (EndsIn place end)) b
      (subst (λ (j : ℕ). MatchOption (get_or buckets ended.bucket None) ⊥ (EndsIn j end)) p ended.ends) in
      end_cell (get_or buckets at None) (get_or buckets' at None) place cell end ends (filed_here buckets' cell theirs) agree

module _ {R : Type 0} {buckets : List (Option (List ℕ))} {cells : List ℕ} {known : List (Option (Growth R))} (h : NotesHold buckets cells known) where
  -- the rows with another note of a bucket, which keeps what was known of it
  notes_kept : (at : ℕ) (bucket : Option (List ℕ)) → at < 26 → IfSome (get_or buckets at None) (λ names. bucket ≡ Some names)
      → NotesHold (set buckets at bucket) cells known
  notes_kept at bucket in_row keeps =
      let all = h.all_buckets in
      record {
        all_buckets = length-set buckets at bucket ∙ all;
        all_known = h.all_known;
        as_many = h.as_many;
        filed = λ g inside.
            let old = h.filed g inside in record {
              bucket = old.bucket;
              place = old.place;
              at = (
                old.at.0,
                elim (cases_eq old.bucket at) [
                  | inl here ↦ rw (ap (λ (k : ℕ). get_or (set buckets at bucket) k None) here, get_or-set_same buckets at bucket None (omega arith))
                      (same_in (get_or buckets at None) bucket old.place (get_or cells g 0) keeps
                      (rw (ap (λ (k : ℕ). get_or buckets k None) (sym here)) old.at.1))
                  | inr apart ↦ rw (get_or-set_other buckets at old.bucket bucket None apart) old.at.1
                ],
              );
            };
      }

  -- the rows with the note of the next growth
  notes_added : (at place : ℕ) (bucket : Option (List ℕ)) (cell : ℕ) (e : Growth R) → at < 26
      → IfSome (get_or buckets at None) (λ names. bucket ≡ Some names) → StandsIn (length (somes known)) at place bucket cell
      → NotesHold (set buckets at bucket) (cells ++ cell ∷ []) (known ++ Some e ∷ [])
  notes_added at place bucket cell e in_row keeps stands =
      let many = as_many known h.all_known in
      let same = h.as_many in
      let all = h.all_buckets in
      record {
        all_buckets = length-set buckets at bucket ∙ all;
        all_known = known_push known h.all_known e;
        as_many = omega (arith, length_push cells cell, length_push known (Some e));
        filed = λ g inside. elim (cases_eq g (length cells)) [
          | inl last ↦ record {
            bucket = at;
            place = place;
            at = (
              subst (λ (k : ℕ). IsSpot k at place) (omega arith) stands.0,
              rw (get_or-set_same buckets at bucket None (omega arith), get_or_push cells cell 0 g (sym last)) stands.1,
            );
          }
          | inr other ↦
              let old = h.filed g (omega (arith, length_push cells cell, inside, other)) in record {
                bucket = old.bucket;
                place = old.place;
                at = (
                  old.at.0,
                  rw (get_or_append_left cells (cell ∷ []) 0 g (omega (arith, length_push cells cell, inside, other))) (elim (cases_eq old.bucket at) [
                    | inl here ↦ rw (ap (λ (k : ℕ). get_or (set buckets at bucket) k None) here, get_or-set_same buckets at bucket None (omega arith))
                        (same_in (get_or buckets at None) bucket old.place (get_or cells g 0) keeps
                        (rw (ap (λ (k : ℕ). get_or buckets k None) (sym here)) old.at.1))
                    | inr apart ↦ rw (get_or-set_other buckets at old.bucket bucket None apart) old.at.1
                  ]),
                );
              }
        ];
      }

-- a pass that took in the growth which a note knows
module _ {R : Type 0} {width room limit : ℕ} {buckets : List (Option (List ℕ))} {cells : List ℕ} {known : List (Option (Growth R))} {starts : List ℕ}
    {size noted kept : ℕ} where
  pub added : {was : Bool} {end : Option (Note (Growth R))} → PassHolds width room limit buckets cells known starts size noted kept was end
      → (at place : ℕ) (bucket : Option (List ℕ)) (cell : ℕ) (note : Option (Growth R)) (len : ℕ) → at < 26
      → (length (somes known) < room) × IfSome (get_or buckets at None) (λ names. bucket ≡ Some names)
      × StandsIn (length (somes known)) at place bucket cell × MatchOption note ⊥ (IsNextInLimit width limit (somes known) len) × (was ≡ false)
      → PassHolds width room limit (set buckets at bucket) (cells ++ cell ∷ []) (known ++ note ∷ []) (starts ++ size ∷ []) (size + len) noted kept was end
  added h at place bucket cell None len in_row asked = absurd asked.3
  added h at place bucket cell (Some e) len in_row asked = record {
    notes = notes_added h.notes at place bucket cell e in_row asked.1 asked.2;
    list = rw (somes-append known (Some e ∷ [])) (list_added h.list e len asked.0 asked.3);
    reserved = h.reserved;
    ends = λ is. absurd (let not_ended = asked.4 in cc);
  }

  -- and one that found the end
  pub ended : {was : Bool} {end : Option (Note (Growth R))} → PassHolds width room limit buckets cells known starts size noted kept was end
      → (at place : ℕ) (bucket : Option (List ℕ)) (stands : Option (Note (Growth R))) → at < 26
      → IfSome (get_or buckets at None) (λ names. bucket ≡ Some names) × IsSpot (length (somes known)) at place × MatchOption bucket ⊥ (EndsIn place stands)
      → PassHolds width room limit (set buckets at bucket) cells known starts size noted kept true stands
  ended h at place bucket stands in_row asked = record {
    notes = notes_kept h.notes at bucket in_row asked.0;
    list = h.list;
    reserved = h.reserved;
    ends = λ _. record {
      bucket = at;
      place = place;
      spot = asked.1;
      ends = rw (get_or-set_same buckets at bucket None (let all = h.notes.all_buckets in omega arith)) asked.2;
    };
  }

-- a pass that knows nothing
pub knows_none : {R : Type 0} (width room limit : ℕ) (buckets : List (Option (List ℕ))) (notes : List (Note (Growth R))) (starts : List ℕ) (noted kept : ℕ)
    → length buckets ≡ 26 → length notes ≡ 0 → length starts ≡ 0 → (room ≤ noted) × (room ≤ kept) → (room ≤ place_limit) × (limit ≤ record_limit)
    → PassHolds width room limit buckets (cells_of notes) (known_of notes) starts 0 noted kept false None
knows_none width room limit buckets (n ∷ notes) starts noted kept all none empty reserved limits = absurd (omega arith)
knows_none width room limit buckets [] (s ∷ starts) noted kept all none empty reserved limits = absurd (omega arith)
knows_none width room limit buckets [] [] noted kept all none empty reserved limits = record {
  notes = record { all_buckets = all; all_known = refl; as_many = refl; filed = λ g lt. absurd (omega arith) };
  list = record {
    chained = λ g e is. absurd cc;
    blocks = λ k d lt. absurd (omega arith);
    starts_are = refl;
    size_is = refl;
    in_limit = omega arith;
    in_room = omega arith;
    limits = limits;
  };
  reserved = reserved;
  ends = λ is. absurd cc;
}
