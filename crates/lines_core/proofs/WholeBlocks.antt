-- Whole lines of a buffer, and the batches that they are.
use Rattle.std.proofs.Common.{◌≡◌, ◌≢◌, inl, inr, ℕ, zero, suc, ◌+◌, ◌-◌, ◌*◌, ◌<◌, ◌≤◌, Bool, true, false, List, []}
use Rattle.std.proofs.Common.{◌∷◌, ◌++◌, length, get_or, map, take, drop, Option, Some, None, refl, sym, ap, subst, ◌∙◌, zero-add, arith}
use Rattle.std.specs.Prelude.{cond, IfSome, MatchOption, count_by}
use Rattle.std.specs.List.{AllByRecursion}
use Rattle.std.specs.Io.KnownBytes.{Consumes, IsAtEnd, prepend_known}
use Rattle.std.proofs.KnownBytes.{Consumes-all, Consumes-trans}
use Rattle.std.proofs.Math.Nat.{add-mul}
use Rattle.std.proofs.lemmas.Bool.{ne_eqb}
use Rattle.std.proofs.lemmas.List.{append_assoc, append-nil, length-append, length-map, length-take, nil_from_length, same_from_push, get_or_push, take-append-drop, take-take, take_all, take_more}
use Rattle.std.proofs.lemmas.List.Elements.{All-head, All-tail}
use Rattle.std.proofs.lemmas.List.Sums.{sum_by-cons, sum_by-append, sum_by_push, count_by_more_yes, count_by_more_no}
use Rattle.segment_core.specs.Written.{joined}
use Rattle.text_core.specs.Text.{Spelling}
use Rattle.text_core.specs.Lines.{ended, AreLines, HasNoLf}
use Rattle.text_core.specs.GroupLine.{group_line}
use Rattle.text_core.specs.declared.refusal.Refusal.{Refusal}
use Rattle.lines_core.specs.declared.batches.Rest.{Rest}
use Rattle.lines_core.specs.declared.batches.Rest.TheVariants.{More, Nothing, Refused, Unread}
use Rattle.lines_core.specs.Batches.{EndsWithLf, HasWholeBlocks, IsBatch, IsFilled, IsWholeLen, ReadsOn, is_lf}
use Rattle.lines_core.specs.GrowthLines.{AreGrowthLines, lone_group}
use Rattle.lines_core.specs.InputBlocks.{AreFirstBlocks, AreInputBlocks, AreOfFirstLines, growth_lines_text}
use Rattle.lines_core.specs.LineBlocks.{last_growth}
use Rattle.lines_core.proofs.Blocks.{each_long}
use Rattle.lines_core.proofs.FirstBlocks.{all_back, texts}

-- ---- LFs

abbrev pub one_if_lf : ℕ → ℕ
one_if_lf b = cond (is_lf b) 1 0

no_lf : (line : List ℕ) → HasNoLf line → count_by is_lf line ≡ 0
no_lf [] plain = refl
no_lf (b ∷ line) plain =
    let other : is_lf b ≡ false = ne_eqb b 10 (All-head (λ x. x ≢ 10) b line plain) in
    sum_by-cons one_if_lf b line ∙ ap (λ t. cond t 1 0 + count_by is_lf line) other ∙ zero-add (count_by is_lf line)
    ∙ no_lf line (All-tail (λ x. x ≢ 10) b line plain)

pub lf_counted : (lines : List (List ℕ)) → AllByRecursion HasNoLf lines → count_by is_lf (ended lines) ≡ length lines
lf_counted [] plain = refl
lf_counted (line ∷ lines) plain =
    let here : count_by is_lf (line ++ 10 ∷ []) ≡ count_by is_lf line + 1 = sum_by_push one_if_lf line 10 in
    let all : count_by is_lf (ended (line ∷ lines)) ≡ count_by is_lf (line ++ 10 ∷ []) + count_by is_lf (ended lines) = sum_by-append one_if_lf (line ++ 10 ∷ []) (ended lines) in
    omega (arith, all, here, no_lf line plain.0, lf_counted lines plain.1)

-- a list with an element, its last one apart
last_apart : {X : Type 0} (xs : List X) → 0 < length xs → (front : List X) × (last : X) × (xs ≡ front ++ last ∷ [])
last_apart [] some = absurd (omega (arith, some))
last_apart (x ∷ []) some = ([], x, refl)
last_apart (x ∷ y ∷ xs) some = let rest = last_apart (y ∷ xs) (omega arith) in (x ∷ rest.0, rest.1, ap (λ zs. x ∷ zs) rest.2)

ends_without : (front last text : List ℕ) → 0 < length last → HasNoLf last → text ≡ front ++ last → EndsWithLf text → ⊥
ends_without front last text some plain is (inl none) =
    let long : 0 ≡ length (front ++ last) = ap length (sym none ∙ is) in
    omega (arith, long, length-append front last, some)
ends_without front last text some plain is (inr ends) =
    let apart = last_apart last some in
    let both : (front ++ apart.0) ++ apart.1 ∷ [] ≡ ends.0 ++ 10 ∷ [] =
    append_assoc front apart.0 (apart.1 ∷ []) ∙ ap (λ l. front ++ l) (sym apart.2) ∙ sym is ∙ ends.1 in
    let here : get_or last (length apart.0) 0 ≡ apart.1 = ap (λ l. get_or l (length apart.0) 0) apart.2 ∙ get_or_push apart.0 apart.1 0 (length apart.0) refl in
    let inside : length apart.0 < length last = omega (arith, ap length apart.2, length-append apart.0 (apart.1 ∷ [])) in
    plain (length apart.0) 0 inside (here ∙ (same_from_push (front ++ apart.0) ends.0 apart.1 10 both).1)

whole_text : (text : List ℕ) (lines : List (List ℕ)) → AreLines text lines → EndsWithLf text → text ≡ ended lines
whole_text text lines so ends = elim so.text [
  | inl all ↦ all
  | inr lacks ↦ absurd (ends_without (ended lacks.front) lacks.last text lacks.some
      (all_back HasNoLf lacks.front (lacks.last ∷ []) (subst (λ ls. AllByRecursion HasNoLf ls) lacks.parts so.whole)).0 lacks.text ends)
]

none_left : (whole left block count : ℕ) → left < block → whole * block + left ≡ count * block → left ≡ 0
none_left zero left block zero fewer is = omega (arith, is)
none_left zero left block (suc count) fewer is =
    let one : suc count ≡ count + 1 = omega arith in
    let more : suc count * block ≡ count * block + 1 * block = ap (λ n. n * block) one ∙ add-mul count 1 block in
    absurd (omega (arith, is, more, fewer))
none_left (suc whole) left block zero fewer is =
    let one : suc whole ≡ whole + 1 = omega arith in
    let more : suc whole * block ≡ whole * block + 1 * block = ap (λ n. n * block) one ∙ add-mul whole 1 block in
    absurd (omega (arith, is, more, fewer))
none_left (suc whole) left block (suc count) fewer is =
    let a : suc whole ≡ whole + 1 = omega arith in
    let b : suc count ≡ count + 1 = omega arith in
    let more : suc whole * block ≡ whole * block + 1 * block = ap (λ n. n * block) a ∙ add-mul whole 1 block in
    let all : suc count * block ≡ count * block + 1 * block = ap (λ n. n * block) b ∙ add-mul count 1 block in
    none_left whole left block count fewer (omega (arith, is, more, all))

-- ---- the front of a buffer

-- so many bytes were seen, of which so many are whole blocks, and so many lines are held behind these
pub record HasCut (block : ℕ) (buffer : List ℕ) (k whole held : ℕ) : Type 0 where
  pub count : ℕ
  pub seen : count_by is_lf (take k buffer) ≡ count * block + held
  pub lines_are : count_by is_lf (take whole buffer) ≡ count * block
  pub ends : EndsWithLf (take whole buffer)

pub none_cut : (block : ℕ) (buffer : List ℕ) → HasCut block buffer 0 0 0
none_cut block buffer = record { count = 0; seen = omega arith; lines_are = omega arith; ends = inl refl }

module _ (block : ℕ) (buffer : List ℕ) (k whole held : ℕ) (so : HasCut block buffer k whole held) (inside : k < length buffer) where
  pub cut_other : (get_or buffer k 0 ≡ 10 → ⊥) → HasCut block buffer (k + 1) whole held
  cut_other other = record {
    count = so.count;
    seen = count_by_more_no is_lf buffer k 0 inside (ne_eqb (get_or buffer k 0) 10 other) ∙ so.seen;
    lines_are = so.lines_are;
    ends = so.ends;
  }

  one_seen : get_or buffer k 0 ≡ 10 → count_by is_lf (take (k + 1) buffer) ≡ count_by is_lf (take k buffer) + 1
  one_seen is = count_by_more_yes is_lf buffer k 0 inside (ap is_lf is)

  pub cut_line : get_or buffer k 0 ≡ 10 → HasCut block buffer (k + 1) whole (held + 1)
  cut_line is = record {
    count = so.count;
    seen = omega (arith, one_seen is, so.seen);
    lines_are = so.lines_are;
    ends = so.ends;
  }

  pub cut_block : get_or buffer k 0 ≡ 10 → held + 1 ≡ block → HasCut block buffer (k + 1) (k + 1) 0
  cut_block is full =
      let more : (so.count + 1) * block ≡ so.count * block + 1 * block = add-mul so.count 1 block in
      let lines : count_by is_lf (take (k + 1) buffer) ≡ (so.count + 1) * block = omega (arith, one_seen is, so.seen, more, full) in
      record {
        count = so.count + 1;
        seen = omega (arith, lines);
        lines_are = lines;
        ends = inr (take k buffer, take_more buffer k 0 inside ∙ ap (λ b. take k buffer ++ b ∷ []) is);
      }

-- the same, by other names
pub cut_as : (block : ℕ) (buffer : List ℕ) (k whole held cut left : ℕ) → cut ≡ whole → left ≡ held → HasCut block buffer k whole held → HasCut block buffer k cut left
cut_as block buffer k whole held cut left whole_is held_is so =
    subst (λ n. HasCut block buffer k n left) (sym whole_is) (subst (λ n. HasCut block buffer k whole n) (sym held_is) so)

pub cut_whole : (block : ℕ) (buffer : List ℕ) (k whole held : ℕ) → HasCut block buffer k whole held → HasWholeBlocks block (take whole buffer)
cut_whole block buffer k whole held so = record { count = so.count; lines_are = so.lines_are; ends = so.ends }

-- each line is a block
pub lone_lines : (block : ℕ) (text : List ℕ) → block ≡ 1 → EndsWithLf text → HasWholeBlocks block text
lone_lines block text one ends = record {
  count = count_by is_lf text;
  lines_are = alone (count_by is_lf text) ∙ ap (λ n. count_by is_lf text * n) (sym one);
  ends = ends;
}
  where
    alone : (n : ℕ) → n ≡ n * 1
    alone n = omega arith

-- a text that ends in LF
pub ends_at : (buffer : List ℕ) (len : ℕ) → 0 < len → len ≤ length buffer → get_or buffer (len - 1) 0 ≡ 10 → EndsWithLf (take len buffer)
ends_at buffer len some within is =
    let one : len ≡ (len - 1) + 1 = omega (arith, some) in
    let inside : len - 1 < length buffer = omega (arith, some, within) in
    inr (take (len - 1) buffer, ap (λ n. take n buffer) one ∙ take_more buffer (len - 1) 0 inside ∙ ap (λ b. take (len - 1) buffer ++ b ∷ []) is)

-- ---- the growths of the front

module _ {R : Type 0} (spelling : Spelling R) (block : ℕ) where
  -- lines that are whole blocks
  first_of_text : (text behind : List ℕ) (growths : List (List R)) (count : ℕ) → AreInputBlocks spelling block text growths count → HasWholeBlocks block text
      → AreFirstBlocks spelling block (Some (text ++ behind)) (Some behind) growths
  first_of_text text behind growths count so whole =
      let gathered = so.gathered in
      let text_is : text ≡ growth_lines_text spelling so.lines = whole_text text (texts spelling so.lines) so.spelled.lines whole.ends in
      let counted : length so.lines ≡ whole.count * block =
      sym (length-map (map lone_group so.lines) (group_line spelling.text_of) ∙ length-map so.lines lone_group)
      ∙ sym (lf_counted (texts spelling so.lines) so.spelled.lines.whole) ∙ ap (count_by is_lf) (sym text_is) ∙ whole.lines_are in
      let long : length so.lines ≡ length gathered.whole * block + length gathered.left =
      ap length gathered.lines_are ∙ length-append (joined gathered.whole) gathered.left ∙ ap (λ n. n + length gathered.left) (each_long block gathered.whole gathered.each) in
      let none : gathered.left ≡ [] =
      nil_from_length gathered.left (none_left (length gathered.whole) (length gathered.left) block whole.count gathered.fewer (sym long ∙ counted)) in
      let lines : so.lines ≡ joined gathered.whole = gathered.lines_are ∙ ap (λ ls. joined gathered.whole ++ ls) none ∙ append-nil (joined gathered.whole) in
      record {
        blocks = gathered.whole;
        each = gathered.each;
        spelled = subst (λ (ls : List (List R)). AreGrowthLines spelling (growth_lines_text spelling ls) ls) lines (subst (λ t. AreGrowthLines spelling t so.lines) text_is so.spelled);
        taken = ap (λ t. t ++ behind) (text_is ∙ ap (growth_lines_text spelling) lines);
        growths_are = gathered.growths_are ∙ ap (λ ls. map joined gathered.whole ++ last_growth ls) none ∙ append-nil (map joined gathered.whole);
      }

  pub of_front : (buffer : List ℕ) (len : ℕ) (growths : List (List R)) (count : ℕ) → AreInputBlocks spelling block (take len buffer) growths count
      → HasWholeBlocks block (take len buffer) → AreFirstBlocks spelling block (Some buffer) (Some (drop len buffer)) growths
  of_front buffer len growths count so whole =
      subst (λ t. AreFirstBlocks spelling block (Some t) (Some (drop len buffer)) growths) (take-append-drop len buffer)
      (first_of_text (take len buffer) (drop len buffer) growths count so whole)

  -- they are of a longer text too
  of_longer : (text behind : List ℕ) (growths : List (List R)) (left : Option (List ℕ)) → AreFirstBlocks spelling block (Some text) left growths
      → AreOfFirstLines spelling block (Some (text ++ behind)) growths
  of_longer text behind growths None first = absurd first.taken
  of_longer text behind growths (Some rest) first = (
    Some (rest ++ behind),
    record {
      blocks = first.blocks;
      each = first.each;
      spelled = first.spelled;
      taken = ap (λ t. t ++ behind) first.taken ∙ append_assoc (growth_lines_text spelling (joined first.blocks)) rest behind;
      growths_are = first.growths_are;
    },
  )

  pub of_part : (buffer : List ℕ) (len : ℕ) (growths : List (List R)) → AreOfFirstLines spelling block (Some (take len buffer)) growths
      → AreOfFirstLines spelling block (Some buffer) growths
  of_part buffer len growths first =
      subst (λ t. AreOfFirstLines spelling block (Some t) growths) (take-append-drop len buffer)
      (of_longer (take len buffer) (drop len buffer) growths first.0 first.1)

  -- of the front of a front
  pub of_shorter : (input text held : List ℕ) (len most : ℕ) (growths : List (List R)) (count : ℕ) → AreInputBlocks spelling block text growths count
      → HasWholeBlocks block (take len held) → text ≡ take len held → held ≡ take most input → len ≤ length held → AreOfFirstLines spelling block (Some input) growths
  of_shorter input text held len most growths count so whole text_is held_is within =
      let inside : len ≤ most = omega (arith, within, ap length held_is, length-take most input) in
      let same : take len held ≡ take len input = ap (take len) held_is ∙ take-take len most input inside in (
        Some (drop len input),
        of_front input len growths count (subst (λ t. AreInputBlocks spelling block t growths count) (text_is ∙ same) so) (subst (HasWholeBlocks block) same whole),
      )

  -- ---- what is to come

  pub taken_of : (known left : Option (List ℕ)) (held holds front rest : List ℕ) → holds ≡ front ++ rest → ReadsOn known left held holds
      → Consumes (prepend_known held known) (prepend_known rest left) front
  taken_of None left held holds front rest is reads = tt
  taken_of (Some xs) None held holds front rest is reads = absurd reads.consumed
  taken_of (Some xs) (Some ys) held holds front rest is reads =
      ap (λ l. held ++ l) reads.consumed ∙ sym (append_assoc held reads.fresh ys) ∙ ap (λ l. l ++ ys) (sym reads.behind ∙ is) ∙ append_assoc front rest ys

  of_held : (known left : Option (List ℕ)) (held holds rest : List ℕ) (growths : List (List R)) → ReadsOn known left held holds
      → AreFirstBlocks spelling block (Some holds) (Some rest) growths → AreFirstBlocks spelling block (prepend_known held known) (prepend_known rest left) growths
  of_held known left held holds rest growths reads first = record {
    blocks = first.blocks;
    each = first.each;
    spelled = first.spelled;
    taken = taken_of known left held holds (growth_lines_text spelling (joined first.blocks)) rest first.taken reads;
    growths_are = first.growths_are;
  }

  some_of_held : (known left : Option (List ℕ)) (held holds : List ℕ) (growths : List (List R)) (more : Option (List ℕ)) → ReadsOn known left held holds
      → AreFirstBlocks spelling block (Some holds) more growths → AreOfFirstLines spelling block (prepend_known held known) growths
  some_of_held known left held holds growths None reads first = absurd first.taken
  some_of_held known left held holds growths (Some rest) reads first = (prepend_known rest left, of_held known left held holds rest growths reads first)

  all_of_held : (known left : Option (List ℕ)) (held holds : List ℕ) → ReadsOn known left held holds → IsAtEnd left → IfSome (prepend_known held known) (λ whole. whole ≡ holds)
  all_of_held None left held holds reads at_end = tt
  all_of_held (Some xs) left held holds reads at_end = sym (Consumes-all (Some xs) left reads.fresh held holds reads.consumed at_end reads.behind)

  -- what was read, whatever came
  pub some_filled : (known new : Option (List ℕ)) (held holds : List ℕ) (rest : Rest) → IsFilled known new held holds rest → (left : Option (List ℕ)) × ReadsOn known left held holds
  some_filled known new held holds More filled = (new, filled)
  some_filled known new held holds Nothing filled = (new, filled.0)
  some_filled known new held holds (Refused refusal) filled = absurd filled
  some_filled known new held holds (Unread refusal) filled = (filled.0, filled.1)

  read_whole : (known new : Option (List ℕ)) (held holds : List ℕ) (len : ℕ) (growths : List (List R)) (lines : ℕ) (rest : Rest) → IsFilled known new held holds rest
      → IsWholeLen block holds len rest → AreInputBlocks spelling block (take len holds) growths lines
      → IsBatch spelling block (prepend_known held known) (prepend_known (drop len holds) new) growths lines rest
  read_whole known new held holds len growths lines More filled whole so = of_held known new held holds (drop len holds) growths filled (of_front holds len growths lines so whole)
  read_whole known new held holds len growths lines Nothing filled whole so = record {
    bytes = holds;
    known = all_of_held known new held holds filled.0 filled.1;
    of = subst (λ t. AreInputBlocks spelling block t growths lines) (take_all len holds (omega (arith, whole))) so;
  }
  read_whole known new held holds len growths lines (Refused refusal) filled whole so = absurd filled
  read_whole known new held holds len growths lines (Unread refusal) filled whole so =
      some_of_held known filled.0 held holds growths (Some (drop len holds)) filled.1 (of_front holds len growths lines so whole)

  -- a batch: what was read, up to a line that is refused
  pub batch_read : (known new : Option (List ℕ)) (held holds behind text : List ℕ) (len : ℕ) (growths : List (List R)) (lines : ℕ) (rest given : Rest) (refusal : Option Refusal)
      → IsFilled known new held holds rest → IsWholeLen block holds len rest
      → MatchOption refusal (AreInputBlocks spelling block text growths lines) (λ r. AreOfFirstLines spelling block (Some text) growths)
      → MatchOption refusal (given ≡ rest) (λ r. given ≡ Refused r) → text ≡ take len holds → behind ≡ drop len holds
      → IsBatch spelling block (prepend_known held known) (prepend_known behind new) growths lines given
  batch_read known new held holds behind text len growths lines rest given None filled whole so is front left =
      subst (λ r. IsBatch spelling block (prepend_known held known) (prepend_known behind new) growths lines r) (sym is)
      (subst (λ bs. IsBatch spelling block (prepend_known held known) (prepend_known bs new) growths lines rest) (sym left)
      (read_whole known new held holds len growths lines rest filled whole (subst (λ t. AreInputBlocks spelling block t growths lines) front so)))
  batch_read known new held holds behind text len growths lines rest given (Some refusal) filled whole so is front left =
      let reads = some_filled known new held holds rest filled in
      let first = of_part holds len growths (subst (λ t. AreOfFirstLines spelling block (Some t) growths) front so) in
      subst (λ r. IsBatch spelling block (prepend_known held known) (prepend_known behind new) growths lines r) (sym is)
      (some_of_held known reads.0 held holds growths first.0 reads.1 first.1)

-- ---- so many reads

pub record HasFilled (known left : Option (List ℕ)) (held holds : List ℕ) (reads : ℕ) : Type 0 where
  pub so_far : ReadsOn known left held holds
  pub progress : length held + reads ≤ length holds

-- one read more
module _ (known mid new : Option (List ℕ)) (held holds part after : List ℕ) (ok : Bool) (takes : Consumes mid new part) (is : after ≡ cond ok (holds ++ part) holds) (done : ok ≡ true) where
  after_is : after ≡ holds ++ part
  after_is = is ∙ ap (λ b. cond b (holds ++ part) holds) done

  pub held_more : ReadsOn known mid held holds → ReadsOn known new held after
  held_more so = record {
    fresh = so.fresh ++ part;
    consumed = Consumes-trans known mid new so.fresh part so.consumed takes;
    behind = after_is ∙ ap (λ l. l ++ part) so.behind ∙ append_assoc held so.fresh part;
  }

  pub filled_more : (n counter : ℕ) → length part ≡ n → (n ≡ 0 → ⊥) → HasFilled known mid held holds counter → HasFilled known new held after (counter + 1)
  filled_more n counter long some so = record {
    so_far = held_more so.so_far;
    progress = omega (arith, so.progress, ap length after_is, length-append holds part, long, some);
  }

pub nothing_held : (known : Option (List ℕ)) (held : List ℕ) → held ≡ [] → prepend_known held known ≡ known
nothing_held known held none = ap (λ bs. prepend_known bs known) none ∙ alone known
  where
    alone : (some : Option (List ℕ)) → prepend_known [] some ≡ some
    alone None = refl
    alone (Some bytes) = refl
