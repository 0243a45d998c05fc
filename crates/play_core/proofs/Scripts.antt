-- Reading the lines of an input as a script.
use Rattle.std.proofs.Common.{◌≡◌, ℕ, ◌+◌, ◌≤◌, List, [], ◌∷◌, ◌++◌, length, map, refl, sym, ap, subst, ◌∙◌, arith}
use Rattle.std.specs.List.{AllByRecursion, flat_map}
use Rattle.std.proofs.lemmas.List.{append_assoc, append-nil, length-append, map-append}
use Rattle.std.proofs.lemmas.List.Concat.{flat_map-append}
use Rattle.disk_core.specs.declared.choice.Choice.{Choice}
use Rattle.drive_core.specs.Step.{Step}
use Rattle.text_core.specs.Text.{Spelling}
use Rattle.text_core.specs.Lines.{IsFirstLine, AreLines, IsFirstBadLine}
use Rattle.play_core.specs.StepLine.{Asked, Does, Crashes, IsStepLineOf, IsStepLine}
use Rattle.play_core.specs.Script.{PartOf, part_asks, script_asks, AreAsked}
use Rattle.text_core.proofs.LineLemmas.{Continues, Continues_start, Continues_next, no_lines, first_bad_line}

-- so many lines are read, which ask for these, and the rest is left
pub record HasAsked {R : Type 0} (spelling : Spelling R) (input : List ℕ) (asked : List (Asked R)) (count : ℕ) (rest : List ℕ) : Type 0 where
  pub read : List (List ℕ)
  pub each : AreAsked spelling read asked
  pub counted : count ≡ length read
  pub lines : Continues input read rest
  pub shorter : length read + length rest ≤ length input

pub HasAsked_start : {R : Type 0} (spelling : Spelling R) (input : List ℕ) → HasAsked {R = R} spelling input [] 0 input
HasAsked_start spelling input = record { read = []; each = tt; counted = refl; lines = Continues_start input; shorter = omega arith }

asked_more : {R : Type 0} (spelling : Spelling R) (lines : List (List ℕ)) (asked : List (Asked R)) (line : List ℕ) (more : Asked R)
    → AreAsked spelling lines asked → IsStepLineOf spelling line more → AreAsked spelling (lines ++ line ∷ []) (asked ++ more ∷ [])
asked_more spelling [] [] line more each one = (one, tt)
asked_more spelling [] (asked ∷ others) line more each one = absurd each
asked_more spelling (first ∷ lines) [] line more each one = absurd each
asked_more spelling (first ∷ lines) (asked ∷ others) line more each one = (each.0, asked_more spelling lines others line more each.1 one)

pub HasAsked_next : {R : Type 0} (spelling : Spelling R) (input : List ℕ) (asked after : List (Asked R)) (more : Asked R) (count : ℕ) (text line rest : List ℕ)
    → IsFirstLine text line rest → IsStepLineOf spelling line more → after ≡ asked ++ more ∷ [] → HasAsked spelling input asked count text
    → HasAsked spelling input after (count + 1) rest
HasAsked_next spelling input asked after more count text line rest first one pushed before =
    let len = length-append before.read (line ∷ []) in
    record {
      read = before.read ++ line ∷ [];
      each = subst (AreAsked spelling (before.read ++ line ∷ [])) (sym pushed) (asked_more spelling before.read asked line more before.each one);
      counted = let was = before.counted in omega (arith, len, was);
      lines = Continues_next input before.read text line rest first before.lines;
      shorter = let past = before.shorter in let less = first.shorter in omega (arith, len, past, less);
    }

pub HasAsked_all : {R : Type 0} (spelling : Spelling R) (input : List ℕ) (asked : List (Asked R)) (count : ℕ) (rest : List ℕ)
    → rest ≡ [] → HasAsked spelling input asked count rest → (lines : List (List ℕ)) × AreLines input lines × AreAsked spelling lines asked
HasAsked_all spelling input asked count rest none so =
    let ends = so.lines [] (subst (λ (t : List ℕ). AreLines t []) (sym none) no_lines) in
    (so.read, subst (AreLines input) (append-nil so.read) ends, so.each)

are_step_lines : {R : Type 0} (spelling : Spelling R) (lines : List (List ℕ)) (asked : List (Asked R)) → AreAsked spelling lines asked
    → AllByRecursion (IsStepLine spelling) lines
are_step_lines spelling [] asked each = tt
are_step_lines spelling (line ∷ lines) [] each = absurd each
are_step_lines spelling (line ∷ lines) (asked ∷ others) each = ((asked, each.0), are_step_lines spelling lines others each.1)

pub first_bad_step : {R : Type 0} (spelling : Spelling R) (input : List ℕ) (asked : List (Asked R)) (count : ℕ) (text line rest : List ℕ)
    → IsFirstLine text line rest → (IsStepLine spelling line → ⊥) → HasAsked spelling input asked count text
    → IsFirstBadLine (IsStepLine spelling) input (count + 1)
first_bad_step spelling input asked count text line rest first bad so =
    let counted = ap (λ n. n + 1) so.counted in
    first_bad_line (IsStepLine spelling) input so.read text line rest (count + 1) first bad counted (are_step_lines spelling so.read asked so.each) so.lines

-- ---- one more is asked

pub step_pushed : {R : Type 0} (parts : List (PartOf R)) (last : List (Step R)) (step : Step R)
    → script_asks (record { parts = parts; last = last ++ step ∷ [] }) ≡ script_asks (record { parts = parts; last = last }) ++ Does step ∷ []
step_pushed parts last step =
    let before = flat_map part_asks parts in
    ap (λ asks. before ++ asks) (map-append Does last (step ∷ [])) ∙ sym (append_assoc before (map Does last) (Does step ∷ []))

pub crash_pushed : {R : Type 0} (parts : List (PartOf R)) (last : List (Step R)) (crash : Choice)
    → script_asks (record { parts = parts ++ record { steps = last; crash = crash } ∷ []; last = [] }) ≡ script_asks (record { parts = parts; last = last }) ++ Crashes crash ∷ []
crash_pushed {R} parts last crash =
    let part : PartOf R = record { steps = last; crash = crash } in
    let before = flat_map part_asks parts in
    append-nil (flat_map part_asks (parts ++ part ∷ [])) ∙ flat_map-append part_asks parts (part ∷ []) ∙ ap (λ asks. before ++ asks) (append-nil (part_asks part))
    ∙ sym (append_assoc before (map Does last) (Crashes crash ∷ []))
