-- The lines of an input, one behind another.
use Rattle.std.proofs.Common.{◌≡◌, ◌≢◌, ℕ, ◌+◌, ◌<◌, List, [], ◌∷◌, ◌++◌, length, Option, Some, None, Bor, refl, sym, ap, ◌∙◌, subst, arith, inl, inr}
use Rattle.std.specs.Prelude.{MatchOption, unwrap_or}
use Rattle.std.specs.Option.{option_copied}
use Rattle.std.specs.List.{AllByRecursion}
use Rattle.std.proofs.lemmas.List.{append_assoc, length-append}
use Rattle.std.proofs.lemmas.List.Elements.{All-nil, All-cons}
use Rattle.std.proofs.lemmas.Bool.{cases_eq}
use Rattle.text_core.specs.Lines.{ended, HasNoLf, IsFirstLine, LacksLastLf, AreLines, IsFirstBadLine}

-- a line and its LF in front
lines_cons : (line rest : List ℕ) (lines : List (List ℕ)) → HasNoLf line → AreLines rest lines → AreLines (line ++ 10 ∷ rest) (line ∷ lines)
lines_cons line rest lines plain so = record {
  whole = (plain, so.whole);
  text = elim so.text [
    | inl all ↦ inl (ap (λ (t : List ℕ). line ++ 10 ∷ t) all ∙ sym (append_assoc line (10 ∷ []) (ended lines)))
    | inr lacks ↦ inr (record {
      front = line ∷ lacks.front;
      last = lacks.last;
      parts = ap (λ (ls : List (List ℕ)). line ∷ ls) lacks.parts;
      some = lacks.some;
      text = ap (λ (t : List ℕ). line ++ 10 ∷ t) lacks.text ∙ sym (append_assoc line (10 ∷ []) (ended lacks.front ++ lacks.last)) ∙ sym (append_assoc (line ++ 10 ∷ []) (ended lacks.front) lacks.last);
    })
  ];
}

-- one line that lacks its LF
line_alone : (line : List ℕ) → HasNoLf line → 0 < length line → AreLines line (line ∷ [])
line_alone line plain some = record {
  whole = (plain, tt);
  text = inr (record { front = []; last = line; parts = refl; some = some; text = refl });
}

pub no_lines : AreLines [] []
no_lines = record { whole = tt; text = inl refl }

long_line : (line : List ℕ) (lines : List (List ℕ)) → 0 < length (ended (line ∷ lines))
long_line line lines =
    let a = length-append (line ++ 10 ∷ []) (ended lines) in let b = length-append line (10 ∷ []) in omega (arith, a, b)

none_of_nothing : (lines : List (List ℕ)) → AreLines [] lines → lines ≡ []
none_of_nothing [] so = refl
none_of_nothing (line ∷ lines) so = elim so.text [
  | inl all ↦ (let some = long_line line lines in let none : 0 ≡ length (ended (line ∷ lines)) = ap length all in absurd (omega (arith, some, none)))
  | inr lacks ↦ (
      let some = lacks.some in
      let none : 0 ≡ length (ended lacks.front ++ lacks.last) = ap length lacks.text in
      let len = length-append (ended lacks.front) lacks.last in
      absurd (omega (arith, some, none, len)))
]

-- the lines of what follows complete those of the input
abbrev pub Continues : List ℕ → List (List ℕ) → List ℕ → Type 0
Continues input front rest = (more : List (List ℕ)) → AreLines rest more → AreLines input (front ++ more)

pub Continues_start : (input : List ℕ) → Continues input [] input
Continues_start input more so = so

lines_of_first : (text line rest : List ℕ) (more : List (List ℕ)) → IsFirstLine text line rest → AreLines rest more → AreLines text (line ∷ more)
lines_of_first text line rest more first so = elim first.whole [
  | inl ended ↦ rw ended (lines_cons line rest more first.plain so)
  | inr last ↦ (
      let none = none_of_nothing more (subst (λ (t : List ℕ). AreLines t more) last.1 so) in
      let len = ap length last.0 in
      let some = first.shorter in
      rw (last.0, none) (line_alone line first.plain (omega (arith, len, some))))
]

pub Continues_next : (input : List ℕ) (front : List (List ℕ)) (text line rest : List ℕ)
    → IsFirstLine text line rest → Continues input front text → Continues input (front ++ line ∷ []) rest
Continues_next input front text line rest first before more so =
    rw (append_assoc front (line ∷ []) more) (before (line ∷ more) (lines_of_first text line rest more first so))

-- ---- every text has lines

first_is : (x y : List ℕ) (xs ys : List (List ℕ)) → x ∷ xs ≡ y ∷ ys → x ≡ y
first_is x y xs ys is = cc

rest_is : (x y : List ℕ) (xs ys : List (List ℕ)) → x ∷ xs ≡ y ∷ ys → xs ≡ ys
rest_is x y xs ys is = cc

longer_by_a_byte : (b : ℕ) (rest line : List ℕ) (lines front : List (List ℕ)) (last : List ℕ) → line ∷ lines ≡ front ++ last ∷ [] → 0 < length last
    → rest ≡ ended front ++ last → LacksLastLf (b ∷ rest) ((b ∷ line) ∷ lines)
longer_by_a_byte b rest line lines [] last parts some text = record {
  front = [];
  last = b ∷ last;
  parts = ap (λ (l : List ℕ). (b ∷ l) ∷ lines) (first_is line last lines [] parts) ∙ ap (λ (ls : List (List ℕ)). (b ∷ last) ∷ ls) (rest_is line last lines [] parts);
  some = omega arith;
  text = ap (λ (t : List ℕ). b ∷ t) text;
}
longer_by_a_byte b rest line lines (first ∷ front) last parts some text = record {
  front = (b ∷ first) ∷ front;
  last = last;
  parts =
      ap (λ (l : List ℕ). (b ∷ l) ∷ lines) (first_is line first lines (front ++ last ∷ []) parts)
      ∙ ap (λ (ls : List (List ℕ)). (b ∷ first) ∷ ls) (rest_is line first lines (front ++ last ∷ []) parts);
  some = some;
  text = ap (λ (t : List ℕ). b ∷ t) text;
}

nothing_of_none : (front : List (List ℕ)) (last : List ℕ) → [] ≡ front ++ last ∷ [] → ⊥
nothing_of_none [] last is = cc is
nothing_of_none (first ∷ front) last is = cc is

starts_with_byte : (b : ℕ) (rest : List ℕ) (lines : List (List ℕ)) → b ≢ 10 → AreLines rest lines → (more : List (List ℕ)) × AreLines (b ∷ rest) more
starts_with_byte b rest [] other so = elim so.text [
  | inl all ↦ ((b ∷ []) ∷ [], rw all (line_alone (b ∷ []) (All-cons (λ x. x ≢ 10) b [] other (All-nil (λ x. x ≢ 10))) (omega arith)))
  | inr lacks ↦ absurd (nothing_of_none lacks.front lacks.last lacks.parts)
]
starts_with_byte b rest (line ∷ lines) other so = (
  (b ∷ line) ∷ lines,
  record {
    whole = (All-cons (λ x. x ≢ 10) b line other so.whole.0, so.whole.1);
    text = elim so.text [
      | inl all ↦ inl (ap (λ (t : List ℕ). b ∷ t) all)
      | inr lacks ↦ inr (longer_by_a_byte b rest line lines lacks.front lacks.last lacks.parts lacks.some lacks.text)
    ];
  },
)

pub lines_in : (text : List ℕ) → (lines : List (List ℕ)) × AreLines text lines
lines_in [] = ([], no_lines)
lines_in (b ∷ rest) =
    let so = lines_in rest in
    elim (cases_eq b 10) [
      | inl lf ↦ ([] ∷ so.0, rw lf (lines_cons [] rest so.0 (All-nil (λ b. b ≢ 10)) so.1))
      | inr other ↦ starts_with_byte b rest so.0 other so.1
    ]

-- ---- the first bad line

pub first_bad_line : (IsGood : List ℕ → Type 0) (input : List ℕ) (front : List (List ℕ)) (text line rest : List ℕ) (n : ℕ)
    → IsFirstLine text line rest → (IsGood line → ⊥) → n ≡ length front + 1 → AllByRecursion IsGood front → Continues input front text
    → IsFirstBadLine IsGood input n
first_bad_line IsGood input front text line rest n first bad place good so =
    let left = lines_in rest in
    let lines = Continues_next input front text line rest first so left.0 left.1 in
    record {
      front = front;
      line = line;
      more = left.0;
      lines = subst (AreLines input) (append_assoc front (line ∷ []) left.0) lines;
      place = place;
      before = good;
      bad = bad;
    }

-- ---- what a cut leaves

abbrev pub after_cut : Option (List ℕ) → List ℕ
after_cut rest = unwrap_or rest []

pub lent_whole : (rest : Option (Bor (List ℕ))) (text line : List ℕ) → MatchOption rest (text ≡ line) (λ after. text ≡ line ++ 10 ∷ after.now)
    → MatchOption (option_copied rest) (text ≡ line) (λ after. text ≡ line ++ 10 ∷ after)
lent_whole None text line whole = whole
lent_whole (Some after) text line whole = whole

pub lent_rest : (rest : Option (Bor (List ℕ))) (empty : Bor (List ℕ)) → empty.now ≡ [] → (unwrap_or rest empty).now ≡ after_cut (option_copied rest)
lent_rest None empty none = none
lent_rest (Some after) empty none = refl

pub shorter_rest : (rest : Option (List ℕ)) (text line : List ℕ) → 0 < length text
    → MatchOption rest (text ≡ line) (λ after. text ≡ line ++ 10 ∷ after) → length (after_cut rest) < length text
shorter_rest None text line some whole = some
shorter_rest (Some after) text line some whole =
    let len = ap length whole in let parts = length-append line (10 ∷ after) in omega (arith, len, parts)

pub first_of_cut : (rest : Option (List ℕ)) (text line : List ℕ) → 0 < length text
    → MatchOption rest (text ≡ line) (λ after. text ≡ line ++ 10 ∷ after) → HasNoLf line → IsFirstLine text line (after_cut rest)
first_of_cut None text line some whole plain = record { whole = inr (whole, refl); plain = plain; shorter = shorter_rest None text line some whole }
first_of_cut (Some after) text line some whole plain = record { whole = inl whole; plain = plain; shorter = shorter_rest (Some after) text line some whole }

pub first_bad : (IsGood : List ℕ → Type 0) (input : List ℕ) (front : List (List ℕ)) (text line : List ℕ) (rest : Option (List ℕ)) (n : ℕ)
    → 0 < length text → MatchOption rest (text ≡ line) (λ after. text ≡ line ++ 10 ∷ after) → HasNoLf line
    → (IsGood line → ⊥) → n ≡ length front + 1 → AllByRecursion IsGood front → Continues input front text → IsFirstBadLine IsGood input n
first_bad IsGood input front text line rest n some whole plain =
    first_bad_line IsGood input front text line (after_cut rest) n (first_of_cut rest text line some whole plain)
