-- Lines that are gathered into growths, one by one.
use Rattle.std.proofs.Common.{◌≡◌, ℕ, zero, suc, ◌+◌, ◌*◌, ◌<◌, min, List, [], ◌∷◌, ◌++◌, length, map, take, refl, sym, ap, subst, ◌∙◌, arith, Some}
use Rattle.std.specs.Prelude.{Option, None, IfNone, slice_get}
use Rattle.std.specs.List.{AllByRecursion}
use Rattle.std.proofs.lemmas.Grind.{flat_map-append}
use Rattle.std.proofs.Math.Nat.{add-mul}
use Rattle.std.proofs.lemmas.List.{append_assoc, append-nil, length-append, map-append, take_all}
use Rattle.segment_core.specs.Written.{joined}
use Rattle.lines_core.specs.LineBlocks.{AreLineBlocks, last_growth}

pub joined_push : {X : Type 0} (front : List (List X)) (last : List X) → joined (front ++ last ∷ []) ≡ joined front ++ last
joined_push front last = flat_map-append (λ growth. growth) front (last ∷ []) ∙ ap (λ rest. joined front ++ rest) (append-nil last)

push_all : {X : Type 0} (P : X → Type 0) (xs : List X) (x : X) → AllByRecursion P xs → P x → AllByRecursion P (xs ++ x ∷ [])
push_all P [] x all one = (one, tt)
push_all P (y ∷ xs) x all one = (all.0, push_all P xs x all.1 one)

take_next : {X : Type 0} (xs : List X) (k : ℕ) (x : X) → slice_get xs k ≡ Some x → take (suc k) xs ≡ take k xs ++ x ∷ []
take_next [] k x is = absurd cc
take_next (y ∷ xs) zero x is = let same : y ≡ x = cc in ap (λ z. z ∷ []) same
take_next (y ∷ xs) (suc k) x is = ap (λ zs. y ∷ zs) (take_next xs k x is)

pub take_one_more : {X : Type 0} (xs : List X) (k : ℕ) (x : X) → slice_get xs k ≡ Some x → take (k + 1) xs ≡ take k xs ++ x ∷ []
take_one_more xs k x is = let one : k + 1 ≡ suc k = omega arith in ap (λ n. take n xs) one ∙ take_next xs k x is

-- of the first lines some blocks are whole, and so many lines are held
pub record IsGathered {R : Type 0} (block : ℕ) (lines : List (List R)) (k : ℕ) (done : List (List R)) (part : List R) (held : ℕ) : Type 0 where
  pub whole : List (List (List R))
  pub left : List (List R)
  pub each : AllByRecursion (λ of. length of ≡ block) whole
  pub held_is : length left ≡ held
  pub fewer : held < block
  pub lines_are : take k lines ≡ joined whole ++ left
  pub done_is : done ≡ map joined whole
  pub part_is : part ≡ joined left

-- the same, by other names
pub gathered_as : {R : Type 0} (block : ℕ) (lines : List (List R)) (k : ℕ) (done : List (List R)) (part : List R) (held : ℕ)
    (growths : List (List R) × List R) (count : ℕ) → growths ≡ (done, part) → count ≡ held → IsGathered block lines k done part held
    → IsGathered block lines k growths.0 growths.1 count
gathered_as block lines k done part held growths count is held_is so =
    subst (λ gs. IsGathered block lines k gs.0 gs.1 count) (sym is) (subst (λ n. IsGathered block lines k done part n) (sym held_is) so)

pub gathered_nothing : {R : Type 0} (block : ℕ) (lines : List (List R)) → 0 < block → IsGathered block lines 0 [] [] 0
gathered_nothing block lines some = record { whole = []; left = []; each = tt; held_is = refl; fewer = some; lines_are = refl; done_is = refl; part_is = refl }

module _ {R : Type 0} (block : ℕ) (lines : List (List R)) (k : ℕ) (done : List (List R)) (part : List R) (held : ℕ)
    (so : IsGathered block lines k done part held) (line : List R) (at : slice_get lines k ≡ Some line) where
  more_lines : take (k + 1) lines ≡ joined so.whole ++ (so.left ++ line ∷ [])
  more_lines = take_one_more lines k line at ∙ ap (λ ls. ls ++ line ∷ []) so.lines_are ∙ append_assoc (joined so.whole) so.left (line ∷ [])

  more_part : part ++ line ≡ joined (so.left ++ line ∷ [])
  more_part = ap (λ rs. rs ++ line) so.part_is ∙ sym (joined_push so.left line)

  -- one line more is held
  pub gathered_line : held + 1 < block → IsGathered block lines (k + 1) done (part ++ line) (held + 1)
  gathered_line fewer = record {
    whole = so.whole;
    left = so.left ++ line ∷ [];
    each = so.each;
    held_is = omega (arith, length-append so.left (line ∷ []), so.held_is);
    fewer = fewer;
    lines_are = more_lines;
    done_is = so.done_is;
    part_is = more_part;
  }

  -- and the block is whole
  pub gathered_block : held + 1 ≡ block → IsGathered block lines (k + 1) (done ++ (part ++ line) ∷ []) [] 0
  gathered_block full = record {
    whole = so.whole ++ (so.left ++ line ∷ []) ∷ [];
    left = [];
    each = push_all (λ of. length of ≡ block) so.whole (so.left ++ line ∷ []) so.each (omega (arith, length-append so.left (line ∷ []), so.held_is, full));
    held_is = refl;
    fewer = omega (arith, full);
    lines_are = more_lines ∙ sym (joined_push so.whole (so.left ++ line ∷ [])) ∙ sym (append-nil (joined (so.whole ++ (so.left ++ line ∷ []) ∷ [])));
    done_is = ap (λ gs. gs ++ (part ++ line) ∷ []) so.done_is ∙ ap (λ rs. map joined so.whole ++ rs ∷ []) more_part ∙ sym (map-append joined so.whole ((so.left ++ line ∷ []) ∷ []));
    part_is = refl;
  }

last_is : {R : Type 0} (left : List (List R)) → 0 < length left → joined left ∷ [] ≡ last_growth left
last_is [] some = absurd (omega (arith, some))
last_is (line ∷ lines) some = refl

none_last : {R : Type 0} (left : List (List R)) → length left ≡ 0 → [] ≡ last_growth left
none_last [] none = refl
none_last (line ∷ lines) none = absurd (omega (arith, none))

module _ {R : Type 0} (block : ℕ) (lines : List (List R)) (done : List (List R)) (part : List R) (held : ℕ) (so : IsGathered block lines (length lines) done part held) where
  all_lines : lines ≡ joined so.whole ++ so.left
  all_lines = sym (take_all (length lines) lines (omega arith)) ∙ so.lines_are

  pub gathered_rest : 0 < held → AreLineBlocks block lines (done ++ part ∷ [])
  gathered_rest some = record {
    whole = so.whole;
    left = so.left;
    each = so.each;
    fewer = omega (arith, so.held_is, so.fewer);
    lines_are = all_lines;
    growths_are = ap (λ gs. gs ++ part ∷ []) so.done_is ∙ ap (λ rs. map joined so.whole ++ rs ∷ []) so.part_is
        ∙ ap (λ gs. map joined so.whole ++ gs) (last_is so.left (omega (arith, so.held_is, some)));
  }

  pub gathered_all : held ≡ 0 → AreLineBlocks block lines done
  gathered_all none = record {
    whole = so.whole;
    left = so.left;
    each = so.each;
    fewer = omega (arith, so.held_is, so.fewer);
    lines_are = all_lines;
    growths_are = so.done_is ∙ sym (append-nil (map joined so.whole)) ∙ ap (λ gs. map joined so.whole ++ gs) (none_last so.left (omega (arith, so.held_is, none)));
  }

-- ---- each line a block

alone_each : {R : Type 0} (lines : List (List R)) → AllByRecursion (λ (of : List (List R)). length of ≡ 1) (map (λ line. line ∷ []) lines)
alone_each [] = tt
alone_each (line ∷ lines) = (refl, alone_each lines)

alone_lines : {R : Type 0} (lines : List (List R)) → joined (map (λ line. line ∷ []) lines) ≡ lines
alone_lines [] = refl
alone_lines (line ∷ lines) = ap (λ ls. line ∷ ls) (alone_lines lines)

alone_growths : {R : Type 0} (lines : List (List R)) → map joined (map (λ line. line ∷ []) lines) ≡ lines
alone_growths [] = refl
alone_growths (line ∷ lines) = ap (λ g. g ∷ map joined (map (λ l. l ∷ []) lines)) (append-nil line) ∙ ap (λ ls. line ∷ ls) (alone_growths lines)

-- lines are blocks of one line each
pub blocks_of_one : {R : Type 0} (block : ℕ) (lines : List (List R)) → block ≡ 1 → AreLineBlocks block lines lines
blocks_of_one block lines one = subst (λ n. AreLineBlocks n lines lines) (sym one) (record {
  whole = map (λ line. line ∷ []) lines;
  left = [];
  each = alone_each lines;
  fewer = omega arith;
  lines_are = sym (append-nil (joined (map (λ line. line ∷ []) lines)) ∙ alone_lines lines);
  growths_are = sym (append-nil (map joined (map (λ line. line ∷ []) lines)) ∙ alone_growths lines);
})

-- ---- how many lines blocks have

-- so many, as far as that is told
pub counts_on : (most told n all : ℕ) → told ≡ min most n → min most (told + all) ≡ min most (n + all)
counts_on most told n all is = omega arith

pub each_long : {R : Type 0} (block : ℕ) (whole : List (List (List R))) → AllByRecursion (λ (of : List (List R)). length of ≡ block) whole → length (joined whole) ≡ length whole * block
each_long block [] each = omega arith
each_long block (first ∷ others) each =
    let long : length (joined (first ∷ others)) ≡ length first + length (joined others) = length-append first (joined others) in
    let rest : length (joined others) ≡ length others * block = each_long block others each.1 in
    let times : (length others + 1) * block ≡ length others * block + 1 * block = add-mul (length others) 1 block in
    let one : length (first ∷ others) ≡ length others + 1 = omega arith in
    let here : length first ≡ block = each.0 in
    let all : length (joined (first ∷ others)) ≡ (length others + 1) * block = omega (arith, long, rest, times, here) in
    all ∙ ap (λ n. n * block) (sym one)

-- where nothing is refused
pub where_none : {X P : Type 0} (refusal : Option X) → refusal ≡ None → IfNone refusal P → P
where_none None none holds = holds
where_none (Some x) none holds = cc none
