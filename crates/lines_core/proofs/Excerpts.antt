-- What is kept of a line that is refused.
use Rattle.std.proofs.Common.{◌≡◌, ℕ, ◌+◌, ◌-◌, ◌<◌, ◌≤◌, List, [], ◌∷◌, ◌++◌, length, map, take, drop, Option, Some, None, Result, Err, sym, ap, subst, ◌∙◌, arith}
use Rattle.std.specs.Prelude.{min, IfSome, MatchOption}
use Rattle.std.specs.Io.KnownBytes.{Consumes, prepend_known}
use Rattle.std.proofs.lemmas.List.{append_assoc, take-append-drop, length-drop, length-map, length-take, length-take-le, take_at, take_min}
use Rattle.text_core.specs.Text.{Spelling}
use Rattle.text_core.specs.Lines.{AreLines, HasNoLf}
use Rattle.text_core.specs.GroupLine.{group_line}
use Rattle.text_core.proofs.LineLemmas.{Continues_next, after_cut, first_of_cut, lines_in}
use Rattle.text_core.proofs.LineGroups.{HasGroups}
use Rattle.text_core.specs.declared.refusal.Refusal.{Refusal}
use Rattle.text_core.specs.declared.refusal.Refusal.TheVariants as refusals
use Rattle.lines_core.specs.declared.batches.Rest.{Rest}
use Rattle.lines_core.specs.declared.batches.Rest.TheVariants.{More, Nothing, Refused, Unread}
use Rattle.lines_core.specs.declared.excerpt.Excerpt.{Excerpt}
use Rattle.lines_core.specs.Batches.{IsFilled}
use Rattle.lines_core.specs.Excerpts.{IsBadLineShown, IsExcerptOf, IsFrontShown, IsRefusedShown, IsRestShown}
use Rattle.lines_core.specs.GrowthLines.{IsGrowthLine, lone_group}
use Rattle.lines_core.proofs.GrowthLines.{are_growth_lines}
use Rattle.lines_core.proofs.WholeBlocks.{some_filled, taken_of}

pub excerpt_is : (line copied blank : List ℕ) (before behind len : ℕ) → before ≤ length line → len ≡ min 48 (length (drop before line))
    → copied ≡ take len (drop before line) → behind ≡ length (drop before line) - len
    → IsExcerptOf line (record { before = before; behind = behind; bytes = copied ++ blank; len = len })
excerpt_is line copied blank before behind len within len_is copied_is behind_is =
    let rest = drop before line in
    let long : length rest ≡ length line - before = length-drop before line in
    let kept : length copied ≡ len = ap length copied_is ∙ length-take-le len rest (omega (arith, len_is)) in
    let same : min len 48 ≡ len = omega (arith, len_is) in
    let text : take (min len 48) (copied ++ blank) ≡ take 48 rest =
    ap (λ n. take n (copied ++ blank)) same ∙ take_at copied blank len kept ∙ copied_is ∙ ap (λ n. take n rest) len_is ∙ take_min 48 rest in
    let shown : length (take (min len 48) (copied ++ blank)) ≡ min 48 (length rest) = ap length text ∙ length-take 48 rest in
    record {
      within = within;
      text_is = text;
      behind_is = omega (arith, shown, long, behind_is, len_is, within);
    }

-- a line behind those of growths that is none, and of which this is kept
pub bad_line_shown : {R : Type 0} (spelling : Spelling R) (input : List ℕ) (growths : List (List R)) (text line : List ℕ) (rest : Option (List ℕ))
    (n : ℕ) (excerpt : Excerpt) → 0 < length text → MatchOption rest (text ≡ line) (λ after. text ≡ line ++ 10 ∷ after) → HasNoLf line
    → (IsGrowthLine spelling line → ⊥) → n ≡ length growths + 1 → HasGroups spelling input (map lone_group growths) text → IsExcerptOf line excerpt
    → IsBadLineShown spelling input n excerpt
bad_line_shown spelling input growths text line rest n excerpt some whole plain bad place so of =
    let front = map (group_line spelling.text_of) (map lone_group growths) in
    let left = lines_in (after_cut rest) in
    let lines = Continues_next input front text line (after_cut rest) (first_of_cut rest text line some whole plain) so.lines left.0 left.1 in
    record {
      bad = record {
        front = front;
        line = line;
        more = left.0;
        lines = subst (AreLines input) (append_assoc front (line ∷ []) left.0) lines;
        place = place ∙ ap (λ n. n + 1) (sym (length-map (map lone_group growths) (group_line spelling.text_of) ∙ length-map growths lone_group));
        before = are_growth_lines spelling growths so.each;
        bad = bad;
      };
      of = of;
    }

same_refusal : (X : Type 0) (a b : Refusal) → ◌≡◌ {A = Result X Refusal} (Err a) (Err b) → a ≡ b
same_refusal X a b is = cc is

-- what was refused is the front of an input
pub front_shown : {R : Type 0} (X : Type 0) (spelling : Spelling R) (input text behind : List ℕ) (refusal : Refusal) (shown : Option Excerpt)
    → input ≡ text ++ behind → IfSome shown (IsRefusedShown {X = X} spelling text (Err refusal)) → IfSome shown (IsFrontShown spelling (Some input) refusal)
front_shown X spelling input text behind refusal None is so = tt
front_shown X spelling input text behind refusal (Some excerpt) is so = record {
  text = text;
  first = (behind, is);
  n = so.0;
  is = same_refusal X refusal (refusals.Line so.0) so.1;
  shown = so.2;
}

first_of : (known left : Option (List ℕ)) (front : List ℕ) → Consumes known left front → IfSome known (λ bytes. (behind : List ℕ) × (bytes ≡ front ++ behind))
first_of None left front takes = tt
first_of (Some bytes) None front takes = absurd takes
first_of (Some bytes) (Some behind) front takes = (behind, takes)

-- a front of what a buffer holds is one of what was to come
coming_shown : {R : Type 0} (spelling : Spelling R) (block : ℕ) (known new : Option (List ℕ)) (held holds : List ℕ) (len : ℕ) (rest : Rest) (refusal : Refusal)
    (shown : Option Excerpt) → IsFilled known new held holds rest → IfSome shown (IsFrontShown spelling (Some (take len holds)) refusal)
    → IfSome shown (IsFrontShown spelling (prepend_known held known) refusal)
coming_shown spelling block known new held holds len rest refusal None filled so = tt
coming_shown spelling block known new held holds len rest refusal (Some excerpt) filled so =
    let reads = some_filled spelling block known new held holds rest filled in
    let holds_are : holds ≡ so.text ++ (so.first.0 ++ drop len holds) =
    sym (take-append-drop len holds) ∙ ap (λ t. t ++ drop len holds) so.first.1 ∙ append_assoc so.text so.first.0 (drop len holds) in
    record {
      text = so.text;
      first = first_of (prepend_known held known) _ so.text (taken_of spelling block known reads.0 held holds so.text _ holds_are reads.1);
      n = so.n;
      is = so.is;
      shown = so.shown;
    }

-- where no line was refused none is shown
none_shown : {R : Type 0} (spelling : Spelling R) (coming known new : Option (List ℕ)) (held holds : List ℕ) (rest : Rest) (shown : Option Excerpt)
    → IsFilled known new held holds rest → shown ≡ None → IsRestShown spelling coming rest shown
none_shown spelling coming known new held holds More shown filled none = none
none_shown spelling coming known new held holds Nothing shown filled none = none
none_shown spelling coming known new held holds (Refused refusal) shown filled none = absurd filled
none_shown spelling coming known new held holds (Unread refusal) shown filled none = none

-- a line of a batch is shown where that is refused for it
pub batch_shown : {R : Type 0} (spelling : Spelling R) (block : ℕ) (known new : Option (List ℕ)) (held holds text : List ℕ) (len : ℕ) (rest given : Rest)
    (refusal : Option Refusal) (shown : Option Excerpt) → IsFilled known new held holds rest
    → MatchOption refusal (shown ≡ None) (λ r. IfSome shown (IsFrontShown spelling (Some text) r))
    → MatchOption refusal (given ≡ rest) (λ r. given ≡ Refused r) → text ≡ take len holds → IsRestShown spelling (prepend_known held known) given shown
batch_shown spelling block known new held holds text len rest given None shown filled so is text_is =
    subst (λ r. IsRestShown spelling (prepend_known held known) r shown) (sym is) (none_shown spelling (prepend_known held known) known new held holds rest shown filled so)
batch_shown spelling block known new held holds text len rest given (Some refusal) shown filled so is text_is =
    subst (λ r. IsRestShown spelling (prepend_known held known) r shown) (sym is)
    (coming_shown spelling block known new held holds len rest refusal shown filled (subst (λ t. IfSome shown (IsFrontShown spelling (Some t) refusal)) text_is so))
