-- Words of numbers with a colon between each two.
use Rattle.std.proofs.Common.{◌≡◌, ◌≢◌, ℕ, ◌<◌, ◌^◌, List, [], sym, ap, subst, ◌∙◌, lit≤}
use Rattle.std.specs.Prelude.{decimal}
use Rattle.text_core.specs.Numbers.{one_decimal}
use Rattle.text_core.specs.Halves.{halves_text, HasNoColon, HasNoColon-decimal, first_half, second_half, some_colon}
use Rattle.segment_core.specs.declared.format.Shape.{Shape}
use Rattle.segment_core.specs.declared.tally.Tally.{Tally}
use Rattle.segment_core.specs.Frame.{Frame}
use Rattle.segment_core.specs.Tally.{tally_of}
use Rattle.beside_core.specs.declared.bookmark.Bookmark.{Bookmark}
use Rattle.beside_core.specs.Bookmark.{LiesBehind}
use Rattle.follow_core.specs.declared.place.Place.{Place}
use Rattle.follow_core.specs.Place.{IsPlace, IsPlaceOf, IsPlaceBehind, place_text}

no_colon_in : (n : ℕ) → n < 2 ^ 64 → HasNoColon (decimal n)
no_colon_in = HasNoColon-decimal 64 (lit≤ tt)

pub no_colon : (text : List ℕ) → HasNoColon text → (n : ℕ) → n < 2 ^ 64 → (rest : List ℕ) → text ≢ halves_text (decimal n) rest
no_colon text plain n small rest is = some_colon (decimal n) rest (subst HasNoColon is plain)

pub no_number : (text first second : List ℕ) → text ≡ halves_text first second → HasNoColon first → ((n : ℕ) → n < 2 ^ 64 → decimal n ≢ first) → (n : ℕ) → n < 2 ^ 64 → (rest : List ℕ)
    → text ≢ halves_text (decimal n) rest
no_number text first second cut plain none n small rest is = none n small (first_half (decimal n) rest first second (no_colon_in n small) plain (sym is ∙ cut))

-- a text has one number before its first colon, and one rest
same_number : (text : List ℕ) (n m : ℕ) (a b : List ℕ) → n < 2 ^ 64 → m < 2 ^ 64 → halves_text (decimal n) a ≡ text → text ≡ halves_text (decimal m) b → n ≡ m
same_number text n m a b small less is same =
    one_decimal 64 (lit≤ tt) n m small less (first_half (decimal n) a (decimal m) b (no_colon_in n small) (no_colon_in m less) (is ∙ same))

same_rest : (text : List ℕ) (n m : ℕ) (a b : List ℕ) → n < 2 ^ 64 → m < 2 ^ 64 → halves_text (decimal n) a ≡ text → text ≡ halves_text (decimal m) b → a ≡ b
same_rest text n m a b small less is same = second_half (decimal n) a (decimal m) b (no_colon_in n small) (no_colon_in m less) (is ∙ same)

-- ---- the four numbers, where the first ones of a word were read

module _ (word : List ℕ) where
  pub no_place : ((n : ℕ) → n < 2 ^ 64 → (rest : List ℕ) → word ≢ halves_text (decimal n) rest) → (place : Place) → IsPlace place → place_text place ≢ word
  no_place none place so is = none place.gate so.gate (halves_text (decimal place.size) (halves_text (decimal place.changes) (decimal place.folded))) (sym is)

  module _ (gate : ℕ) (behind : List ℕ) (gate_fits : gate < 2 ^ 64) (first : word ≡ halves_text (decimal gate) behind) where
    behind_gate : (place : Place) → IsPlace place → place_text place ≡ word
        → halves_text (decimal place.size) (halves_text (decimal place.changes) (decimal place.folded)) ≡ behind
    behind_gate place so is =
        same_rest word place.gate gate (halves_text (decimal place.size) (halves_text (decimal place.changes) (decimal place.folded))) behind so.gate gate_fits is first

    pub no_size : ((n : ℕ) → n < 2 ^ 64 → (rest : List ℕ) → behind ≢ halves_text (decimal n) rest) → (place : Place) → IsPlace place → place_text place ≢ word
    no_size none place so is = none place.size so.size (halves_text (decimal place.changes) (decimal place.folded)) (sym (behind_gate place so is))

    module _ (size : ℕ) (next : List ℕ) (size_fits : size < 2 ^ 64) (second : behind ≡ halves_text (decimal size) next) where
      behind_size : (place : Place) → IsPlace place → place_text place ≡ word → halves_text (decimal place.changes) (decimal place.folded) ≡ next
      behind_size place so is =
          same_rest behind place.size size (halves_text (decimal place.changes) (decimal place.folded)) next so.size size_fits (behind_gate place so is) second

      pub no_changes : ((n : ℕ) → n < 2 ^ 64 → (rest : List ℕ) → next ≢ halves_text (decimal n) rest) → (place : Place) → IsPlace place → place_text place ≢ word
      no_changes none place so is = none place.changes so.changes (decimal place.folded) (sym (behind_size place so is))

      module _ (changes : ℕ) (last : List ℕ) (changes_fit : changes < 2 ^ 64) (third : next ≡ halves_text (decimal changes) last) where
        behind_changes : (place : Place) → IsPlace place → place_text place ≡ word → decimal place.folded ≡ last
        behind_changes place so is = same_rest next place.changes changes (decimal place.folded) last so.changes changes_fit (behind_size place so is) third

        pub no_folded : ((n : ℕ) → n < 2 ^ 64 → decimal n ≢ last) → (place : Place) → IsPlace place → place_text place ≢ word
        no_folded none place so is = none place.folded so.folded (behind_changes place so is)

        module _ (folded : ℕ) (folded_fits : folded < 2 ^ 64) (fourth : decimal folded ≡ last) where
          pub is_place : place_text (record { gate = gate; size = size; changes = changes; folded = folded }) ≡ word
          is_place =
              ap (λ (t : List ℕ). halves_text (decimal gate) (halves_text (decimal size) (halves_text (decimal changes) t))) fourth
              ∙ ap (λ (t : List ℕ). halves_text (decimal gate) (halves_text (decimal size) t)) (sym third)
              ∙ ap (λ (t : List ℕ). halves_text (decimal gate) t) (sym second) ∙ sym first

          pub one_place : (place : Place) → IsPlace place → place_text place ≡ word → place ≡ record { gate = gate; size = size; changes = changes; folded = folded }
          one_place place so is =
              let g = same_number word place.gate gate (halves_text (decimal place.size) (halves_text (decimal place.changes) (decimal place.folded))) behind so.gate gate_fits is first in
              let s = same_number behind place.size size (halves_text (decimal place.changes) (decimal place.folded)) next so.size size_fits (behind_gate place so is) second in
              let c = same_number next place.changes changes (decimal place.folded) last so.changes changes_fit (behind_size place so is) third in
              let f = one_decimal 64 (lit≤ tt) place.folded folded so.folded folded_fits (behind_changes place so is ∙ sym fourth) in
              ap (λ n. record { gate = n; size = place.size; changes = place.changes; folded = place.folded }) g
              ∙ ap (λ n. record { gate = gate; size = n; changes = place.changes; folded = place.folded }) s
              ∙ ap (λ n. record { gate = gate; size = size; changes = n; folded = place.folded }) c
              ∙ ap (λ n. record { gate = gate; size = size; changes = changes; folded = n }) f

-- ---- places of bookmarks

pub lies_at : (shape : Shape) (known : List Frame) (mark : Bookmark) (place : Place) → LiesBehind shape known mark → IsPlaceOf mark place → IsPlaceBehind shape known place
lies_at shape known mark place lies of_mark = record {
  gate_is = of_mark.gate_is ∙ lies.gate_is;
  size_is = of_mark.size_is ∙ ap (λ t. t.size) lies.tally_is;
  changes_are = of_mark.changes_are ∙ ap (λ t. t.changes) lies.tally_is;
  folded_is = of_mark.folded_is ∙ ap (λ t. t.folded) lies.tally_is;
}

same_tally : (a b : Tally) → a.size ≡ b.size → a.changes ≡ b.changes → a.folded ≡ b.folded → a ≡ b
same_tally a b size changes folded =
    ap (λ n. record { size = n; changes = a.changes; folded = a.folded }) size
    ∙ ap (λ n. record { size = b.size; changes = n; folded = a.folded }) changes
    ∙ ap (λ n. record { size = b.size; changes = b.changes; folded = n }) folded

-- a bookmark that was laid at the place of known frames lies behind them
pub lies_behind : (shape : Shape) (known : List Frame) (first mark : Bookmark) (place : Place) (tally : Tally) → LiesBehind shape [] first → IsPlaceBehind shape known place
    → tally.size ≡ place.size → tally.changes ≡ place.changes → tally.folded ≡ place.folded → mark.shape ≡ first.shape → mark.gate ≡ place.gate → mark.tally ≡ tally → LiesBehind shape known mark
lies_behind shape known first mark place tally lies at size changes folded shape_is gate_is tally_is = record {
  shape_is = shape_is ∙ lies.shape_is;
  gate_is = gate_is ∙ at.gate_is;
  tally_is = tally_is ∙ same_tally tally (tally_of known) (size ∙ at.size_is) (changes ∙ at.changes_are) (folded ∙ at.folded_is);
}
