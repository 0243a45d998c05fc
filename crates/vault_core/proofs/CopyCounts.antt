-- How many growths copy a list, which chunk of it each has, and refusals and steps one by one.
use Rattle.std.proofs.Common.{◌≡◌, ◌⊎◌, ℕ, ◌+◌, ◌-◌, ◌*◌, ◌≤◌, ◌<◌, min, List, Bool, true, false, [], ◌∷◌}
use Rattle.std.proofs.Common.{◌++◌, length, take, drop, inl, inr, refl, sym, ap, ◌∙◌, arith, length-append, append-nil}
use Rattle.std.proofs.Math.Nat.{lt_of_mul-lt-mul_right}
use Rattle.std.proofs.Math.Seq.{take-add}
use Rattle.std.proofs.lemmas.Bool.{cases_lt}
use Rattle.std.proofs.lemmas.Grind.{div_ceil_times}
use Rattle.std.proofs.lemmas.List.{take_at, take_all, drop_at, drop_all, drop-drop, nil_from_length}
use Rattle.pen_core.specs.declared.fault.PenFault.{PenFault}
use Rattle.pen_core.specs.declared.fault.PenFault.TheVariants as faults
use Rattle.pen_core.specs.Refusals.{IsRefusal}
use Rattle.pen_core.specs.declared.step.PenStep.{PenStep}
use Rattle.pen_core.specs.declared.step.PenStep.TheVariants.{Body, BodySync, Gate, GateSync}
use Rattle.pen_core.specs.Step.{steps_left}
use Rattle.vault_core.specs.Upgrading.{copied, gate_behind, growth_count}

-- ---- counts

-- a growth that begins before the end is one of them
pub count_above : (piece len growths : ℕ) → 1 ≤ piece → growths * piece < len → growths < growth_count piece len
count_above piece len growths some before =
    let is = div_ceil_times len piece some in
    let first = is.0 in
    lt_of_mul-lt-mul_right piece (omega arith)

-- so many that reach the end, and no more than that
pub count_is : (piece len growths : ℕ) → 1 ≤ piece → len ≤ growths * piece → growths * piece < len + piece → growths ≡ growth_count piece len
count_is piece len growths some all within =
    let is = div_ceil_times len piece some in
    let first = is.0 in
    let second = is.1 in
    let a : growths < growth_count piece len + 1 = lt_of_mul-lt-mul_right piece (omega arith) in
    let b : growth_count piece len < growths + 1 = lt_of_mul-lt-mul_right piece (omega arith) in
    omega arith

-- a gate, and the next one behind a frame of so many records more
pub gate_more : (width growths a b : ℕ) → gate_behind width growths a + (6 + (8 + b * width)) ≡ gate_behind width (growths + 1) (a + b)
gate_more width growths a b = omega arith

-- ---- lists

module _ {R : Type 0} (piece : ℕ) (records rest chunk left : List R) (growths : ℕ) (rest_is : rest ≡ drop (growths * piece) records)
    (parts : rest ≡ chunk ++ left) (size : length chunk ≡ min piece (length rest)) where
  -- a chunk is a piece, or all that is left
  chunk_cases : (take piece rest ≡ chunk) × (drop piece rest ≡ left)
  chunk_cases = elim (cases_lt (length rest) piece) [
    | inl short ↦ (
        let long = ap length parts ∙ length-append chunk left in
        let none : left ≡ [] = nil_from_length left (omega (arith, long, size, short)) in
        let all : rest ≡ chunk = parts ∙ ap (λ (l : List R). chunk ++ l) none ∙ append-nil chunk in
        (take_all piece rest (omega (arith, short)) ∙ all, drop_all piece rest (omega (arith, short)) ∙ sym none))
    | inr full ↦ (
        let whole : length chunk ≡ piece = omega (arith, size, full) in
        (ap (take piece) parts ∙ take_at chunk left piece whole, ap (drop piece) parts ∙ drop_at chunk left piece whole))
  ]

  next_is : (growths + 1) * piece ≡ growths * piece + piece
  next_is = omega arith

  pub copied_more : copied piece records (growths + 1) ≡ copied piece records growths ++ chunk
  copied_more =
      ap (λ n. take n records) next_is ∙ take-add (growths * piece) piece records
      ∙ ap (λ (rs : List R). copied piece records growths ++ rs) (ap (take piece) (sym rest_is) ∙ chunk_cases.0)

  pub left_more : left ≡ drop ((growths + 1) * piece) records
  left_more = sym chunk_cases.1 ∙ ap (drop piece) rest_is ∙ drop-drop piece (growths * piece) records ∙ ap (λ n. drop n records) (sym next_is)

-- ---- refusals

pub skip : (test : Bool) (first : PenFault) (lines : List (Bool × PenFault)) (fault : PenFault) → test ≡ false → IsRefusal ((test, first) ∷ lines) fault → IsRefusal lines fault
skip true first lines fault passed why = absurd cc
skip false first lines fault passed why = why

pub last : (test : Bool) (first fault : PenFault) → IsRefusal ((test, first) ∷ []) fault → ((test ≡ true) × (fault ≡ first)) ⊎ ((test ≡ false) × (fault ≡ faults.Memory))
last true first fault why = inl (refl, why)
last false first fault why = inr (refl, why)

pub steps_left-most : (step : PenStep) → steps_left step ≤ 4
steps_left-most Body = omega arith
steps_left-most BodySync = omega arith
steps_left-most Gate = omega arith
steps_left-most GateSync = omega arith
