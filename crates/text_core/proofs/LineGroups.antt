-- Reading the lines of an input as groups.
use Rattle.std.proofs.Common.{◌≡◌, ℕ, ◌+◌, ◌<◌, ◌≤◌, List, [], ◌∷◌, ◌++◌, length, map, Option, refl, sym, ap, ◌∙◌, subst, arith}
use Rattle.std.specs.Prelude.{MatchOption}
use Rattle.std.specs.List.{AllByRecursion}
use Rattle.std.proofs.lemmas.List.{append-nil, length-append, map-append, length-map}
use Rattle.text_core.specs.Text.{Spelling}
use Rattle.text_core.specs.Lines.{HasNoLf, IsFirstLine, AreLines, IsFirstBadLine}
use Rattle.text_core.specs.GroupLine.{group_line, IsGroup, IsGroupLineOf, IsGroupLine, AreGroupLines}
use Rattle.text_core.proofs.Small.{push_all}
use Rattle.text_core.proofs.LineLemmas.{Continues, Continues_start, Continues_next, after_cut, first_of_cut, no_lines, first_bad_line}

-- these groups are read, and the rest is left
pub record HasGroups {R : Type 0} (spelling : Spelling R) (input : List ℕ) (groups : List (List (List R))) (rest : List ℕ) : Type 0 where
  pub each : AllByRecursion (IsGroup spelling.is_value) groups
  pub lines : Continues input (map (group_line spelling.text_of) groups) rest
  pub shorter : length groups + length rest ≤ length input

pub HasGroups_start : {R : Type 0} (spelling : Spelling R) (input : List ℕ) → HasGroups spelling input [] input
HasGroups_start spelling input = record { each = tt; lines = Continues_start input; shorter = omega arith }

pub HasGroups_next : {R : Type 0} (spelling : Spelling R) (input : List ℕ) (groups : List (List (List R))) (group : List (List R)) (text line rest : List ℕ)
    → IsFirstLine text line rest → IsGroupLineOf spelling line group → HasGroups spelling input groups text → HasGroups spelling input (groups ++ group ∷ []) rest
HasGroups_next spelling input groups group text line rest first read before =
    let line_of = group_line spelling.text_of in
    let lines : map line_of groups ++ line ∷ [] ≡ map line_of (groups ++ group ∷ []) =
    ap (λ (l : List ℕ). map line_of groups ++ l ∷ []) read.text ∙ sym (map-append line_of groups (group ∷ [])) in
    record {
      each = push_all (IsGroup spelling.is_value) groups group before.each read.group;
      lines = subst (λ (ls : List (List ℕ)). Continues input ls rest) lines (Continues_next input (map line_of groups) text line rest first before.lines);
      shorter =
          let len = length-append groups (group ∷ []) in
          let past = before.shorter in
          let less = first.shorter in
          omega (arith, len, past, less);
    }

pub HasGroups_more : {R : Type 0} (spelling : Spelling R) (input : List ℕ) (groups : List (List (List R))) (group : List (List R)) (text line : List ℕ)
    (rest : Option (List ℕ)) → 0 < length text → MatchOption rest (text ≡ line) (λ after. text ≡ line ++ 10 ∷ after) → HasNoLf line
    → length (after_cut rest) < length text → IsGroupLineOf spelling line group → HasGroups spelling input groups text
    → HasGroups spelling input (groups ++ group ∷ []) (after_cut rest)
HasGroups_more spelling input groups group text line rest some whole plain less =
    HasGroups_next spelling input groups group text line (after_cut rest) (first_of_cut rest text line some whole plain)

pub HasGroups_all : {R : Type 0} (spelling : Spelling R) (input : List ℕ) (groups : List (List (List R))) (rest : List ℕ) → rest ≡ []
    → HasGroups spelling input groups rest → AreGroupLines spelling input groups
HasGroups_all spelling input groups rest none so = record {
  each = so.each;
  lines = subst (AreLines input) (append-nil (map (group_line spelling.text_of) groups)) (so.lines [] (rw none no_lines));
}

are_group_lines : {R : Type 0} (spelling : Spelling R) (groups : List (List (List R))) → AllByRecursion (IsGroup spelling.is_value) groups
    → AllByRecursion (IsGroupLine spelling) (map (group_line spelling.text_of) groups)
are_group_lines spelling [] all = tt
are_group_lines spelling (group ∷ groups) all = ((group, record { group = all.0; text = refl }), are_group_lines spelling groups all.1)

pub first_bad_group : {R : Type 0} (spelling : Spelling R) (input : List ℕ) (groups : List (List (List R))) (text line rest : List ℕ) (n : ℕ)
    → IsFirstLine text line rest → (IsGroupLine spelling line → ⊥) → n ≡ length groups + 1 → HasGroups spelling input groups text
    → IsFirstBadLine (IsGroupLine spelling) input n
first_bad_group spelling input groups text line rest n first bad place so =
    let line_of = group_line spelling.text_of in
    let counted = place ∙ ap (λ n. n + 1) (sym (length-map groups line_of)) in
    first_bad_line (IsGroupLine spelling) input (map line_of groups) text line rest n first bad counted (are_group_lines spelling groups so.each) so.lines
