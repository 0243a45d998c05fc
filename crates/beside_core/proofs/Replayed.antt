-- What is read of frames beside folds replays to the vector that was written.
use Rattle.std.proofs.Common.{◌≡◌, ◌⊎◌, ℕ, ◌+◌, ◌-◌, ◌≤◌, ◌<◌, true, List, [], ◌∷◌, ◌++◌, length, take, sum, Option, Some, None, refl, sym, ap, subst, ◌∙◌, arith, inl, inr}
use Rattle.std.specs.Prelude.{slice_get, IsSome}
use Rattle.std.proofs.lemmas.List.{length-append, length-take-le}
use Rattle.std.proofs.lemmas.Bool.{cases_lt, ltb-false, not-false}
use Rattle.record_core.proofs.Cells.{slice_get-append_left}
use Rattle.segment_core.specs.declared.format.Shape.{Shape}
use Rattle.segment_core.specs.declared.tally.Tally.{Tally}
use Rattle.segment_core.specs.Frame.{Run, Frame, Group, Change, Shrink, Fold, records_of_runs}
use Rattle.segment_core.specs.Tally.{after, are_inside, AreLegalFrom}
use Rattle.segment_core.specs.Vector.{place_in_runs}
use Rattle.segment_core.specs.Command.{replaced}
use Rattle.segment_core.specs.Raw.{cells_in, after_frame}
use Rattle.segment_core.proofs.Replaced.{slice_get-append_right, slice_get-take, length-replaced, replaced_kept, replaced_told}
use Rattle.segment_core.proofs.Raw.{length-cells_in}
use Rattle.segment_core.proofs.OneVector.{same_items}
use Rattle.beside_core.specs.MayDiffer.{WillChange}
use Rattle.beside_core.specs.Replay.{replayed}
use Rattle.beside_core.proofs.Read.{AreRead, AgreeUntilChanged}

-- ---- one frame

module _ (shape : Shape) (tally : Tally) (cells read : List (List ℕ)) (size_is : tally.size ≡ length cells) where
  abbrev width : ℕ
  width = shape.width

  agrees_group : (lengths bytes read_bytes : List ℕ) (later : List Frame) → AgreeUntilChanged (Group lengths bytes ∷ later) cells read
      → ((i : ℕ) → i < sum lengths → (slice_get (cells_in width (sum lengths) read_bytes) i ≡ slice_get (cells_in width (sum lengths) bytes) i) ⊎ WillChange (length cells + i) later)
      → AgreeUntilChanged later (after_frame width cells (Group lengths bytes)) (after_frame width read (Group lengths read_bytes))
  agrees_group lengths bytes read_bytes later agrees each = record {
    long = omega (arith, length-append cells new, length-append read new', agrees.long, length-cells_in width (sum lengths) bytes, length-cells_in width (sum lengths) read_bytes);
    each = λ i lt. elim (cases_lt i (length cells)) [
      | inl below ↦ elim (agrees.each i below) [
        | inl same ↦ inl (slice_get-append_left read new' i (omega (arith, agrees.long)) ∙ same ∙ sym (slice_get-append_left cells new i below))
        | inr said ↦ inr said
      ]
      | inr past ↦ (
          let j : ℕ = i - length cells in
          let is : length cells + j ≡ i = omega arith in
          let small : j < sum lengths = omega (arith, lt, length-append cells new, length-cells_in width (sum lengths) bytes) in
          elim (each j small) [
            | inl same ↦ inl (slice_get-append_right read new' i (omega (arith, agrees.long)) ∙ ap (λ n. slice_get new' (i - n)) agrees.long ∙ same ∙ sym (slice_get-append_right cells new i past))
            | inr said ↦ inr (subst (λ n. WillChange n later) is said)
          ])
    ];
  }
    where
      new : List (List ℕ)
      new = cells_in width (sum lengths) bytes

      new' : List (List ℕ)
      new' = cells_in width (sum lengths) read_bytes

  agrees_change : (runs : List Run) (bytes : List ℕ) (later : List Frame) → are_inside (length cells) runs ≡ true → AgreeUntilChanged (Change runs bytes ∷ later) cells read
      → AgreeUntilChanged later (after_frame width cells (Change runs bytes)) (after_frame width read (Change runs bytes))
  agrees_change runs bytes later inside agrees = record {
    long = long' ∙ agrees.long ∙ sym long;
    each = λ i lt. at i (omega (arith, lt, long)) (place_in_runs 1 i 0 runs) refl;
  }
    where
      new : List (List ℕ)
      new = cells_in width (records_of_runs runs) bytes

      many : length (cells_in width (records_of_runs runs) bytes) ≡ records_of_runs runs
      many = length-cells_in width (records_of_runs runs) bytes

      inside' : are_inside (length read) runs ≡ true
      inside' = ap (λ n. are_inside n runs) agrees.long ∙ inside

      long : length (replaced cells runs (cells_in width (records_of_runs runs) bytes)) ≡ length cells
      long = length-replaced cells runs (cells_in width (records_of_runs runs) bytes) inside many

      long' : length (replaced read runs (cells_in width (records_of_runs runs) bytes)) ≡ length read
      long' = length-replaced read runs (cells_in width (records_of_runs runs) bytes) inside' many

      at : (i : ℕ) → i < length cells → (o : Option ℕ) → place_in_runs 1 i 0 runs ≡ o
          → (slice_get (replaced read runs (cells_in width (records_of_runs runs) bytes)) i ≡ slice_get (replaced cells runs (cells_in width (records_of_runs runs) bytes)) i) ⊎ WillChange i later
      at i lt None is = elim (agrees.each i lt) [
        | inl same ↦ inl (replaced_kept 1 i 0 read runs (cells_in width (records_of_runs runs) bytes) inside' many is ∙ same
            ∙ sym (replaced_kept 1 i 0 cells runs (cells_in width (records_of_runs runs) bytes) inside many is))
        | inr said ↦ elim said [
          | inl here ↦ (absurd (none_some (place_in_runs 1 i 0 runs) is here))
          | inr there ↦ inr there
        ]
      ]
        where
          none_some : (o : Option ℕ) → o ≡ None → IsSome o → ⊥
          none_some None is some = absurd cc
          none_some (Some x) is some = absurd cc
      at i lt (Some place) is =
          let a = replaced_told 1 i 0 read runs (cells_in width (records_of_runs runs) bytes) place inside' many is in
          let b = replaced_told 1 i 0 cells runs (cells_in width (records_of_runs runs) bytes) place inside many is in
          let same : a.index ≡ b.index = omega (arith, a.at, b.at) in
          inl (a.same ∙ ap (slice_get (cells_in width (records_of_runs runs) bytes)) same ∙ sym b.same)

  agrees_shrink : (n : ℕ) (later : List Frame) → n ≤ length cells → AgreeUntilChanged (Shrink n ∷ later) cells read → AgreeUntilChanged later (take n cells) (take n read)
  agrees_shrink n later le agrees = record {
    long = length-take-le n read (omega (arith, agrees.long)) ∙ sym (length-take-le n cells le);
    each = λ i lt. (
        let small : i < n = omega (arith, lt, length-take-le n cells le) in
        elim (agrees.each i (omega (arith, small))) [
          | inl same ↦ inl (slice_get-take n read i small ∙ same ∙ sym (slice_get-take n cells i small))
          | inr said ↦ inr said.1
        ]);
  }

-- ---- all frames

-- The frames as they were read replay to the vector of the frames as they were written.
pub replays : (shape : Shape) (tally : Tally) (frames reads : List Frame) (cells read : List (List ℕ)) → tally.size ≡ length cells → AreLegalFrom shape tally frames
    → AreRead shape.width (length cells) frames reads → AgreeUntilChanged frames cells read
    → replayed shape.width read reads ≡ replayed shape.width cells frames
replays shape tally [] reads cells read size legal are agrees =
    ap (replayed shape.width read) are ∙ same_items read cells agrees.long (λ i lt. elim (agrees.each i (omega (arith, lt, agrees.long))) [ inl same ↦ same | inr said ↦ absurd said ])
replays shape tally (Group lengths bytes ∷ frames) reads cells read size legal are agrees =
    let width = shape.width in
    let one = are.3.1 in
    let long : length (cells ++ cells_in width (sum lengths) bytes) ≡ length cells + sum lengths = omega (
      arith,
      length-append cells (cells_in width
          (sum lengths) bytes),
      length-cells_in width (sum lengths) bytes,
    ) in
    let next = agrees_group shape tally cells read size lengths bytes are.3.0 frames agrees are.3.2 in
    ap (replayed width read) are.2
    ∙ ap (λ f. replayed width (after_frame width read f) are.1) one
    ∙ replays shape (after tally (Group lengths bytes)) frames are.1 (cells ++ cells_in width (sum lengths) bytes) (read
    ++ cells_in width (sum lengths) are.3.0) (omega (arith, long)) legal.2 (subst (λ n. AreRead width n frames are.1) (sym long) are.4) next
replays shape tally (Change runs bytes ∷ frames) reads cells read size legal are agrees =
    let width = shape.width in
    let inside : are_inside (length cells) runs ≡ true = ap (λ n. are_inside n runs) (sym size) ∙ not-false (are_inside tally.size runs) (legal.1.inside) in
    let long = length-replaced cells runs (cells_in width (records_of_runs runs) bytes) inside (length-cells_in width (records_of_runs runs) bytes) in
    let next = agrees_change shape tally cells read size runs bytes frames inside agrees in
    ap (replayed width read) are.2
    ∙ ap (λ f. replayed width (after_frame width read f) are.1) are.3
    ∙ replays shape (after tally (Change runs bytes)) frames are.1 (after_frame width cells (Change runs bytes)) (after_frame width read (Change runs bytes)) (size
    ∙ sym long) legal.2 (subst (λ n. AreRead width n frames are.1) (sym long) are.4) next
replays shape tally (Shrink n ∷ frames) reads cells read size legal are agrees =
    let width = shape.width in
    let le : n ≤ length cells = omega (arith, ltb-false tally.size n (legal.1.inside)) in
    let long = length-take-le n cells le in
    let next = agrees_shrink shape tally cells read size n frames le agrees in
    ap (replayed width read) are.2
    ∙ ap (λ f. replayed width (after_frame width read f) are.1) are.3
    ∙ replays shape (after tally (Shrink n)) frames are.1 (take n cells) (take n read) (sym long) legal.2 (subst (λ k. AreRead width k frames are.1) (sym long) are.4) next
replays shape tally (Fold count ∷ frames) reads cells read size legal are agrees =
    let width = shape.width in
    ap (replayed width read) are.2
    ∙ ap (λ f. replayed width (after_frame width read f) are.1) are.3
    ∙ replays shape (after tally (Fold count)) frames are.1 cells read size legal.2 are.4 (record { long = agrees.long; each = agrees.each })
