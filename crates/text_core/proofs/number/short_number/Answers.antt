use Rattle.std.proofs.Common.{arith}
use Rattle.std.specs.Prelude.{slice_index_or}
use Rattle.std.proofs.lemmas.Int.Digits.{digits_more, digits_value_more}
use Rattle.std.proofs.lemmas.Str.{digit_value_digit}
use Rattle.std.proofs.lemmas.Str.Parse.{digit_at}
use Rattle.text_core.proofs.NumberLemmas.{front_digits_small}
use Rattle.text_core.proofs.number.short_number.Goals as goal
use Rattle.text_core.proofs.number.short_number.Goals.{then-byte-lt48-via-then-byte-lt48, then-byte-lt48-via-else-byte-lt48+then-byte-gt57}

pub returns-then-byte-lt48 : goal.returns-then-byte-lt48
returns-then-byte-lt48 c = λ all.
    let digit = digit_at c.args.text.now c.loop-k.k all (omega arith) in
    elim c.then-byte-lt48.branch [
      | then-byte-lt48-via-then-byte-lt48 w ↦ (let low = w.if-byte-lt48.true in absurd (omega (arith, digit, low)))
      | then-byte-lt48-via-else-byte-lt48+then-byte-gt57 w ↦ (let high = w.if-byte-gt57.true in absurd (omega (arith, digit, high)))
    ]

pub overflow_mul-number : goal.overflow_mul-number
overflow_mul-number c =
    let small = front_digits_small c.args.text.now c.loop-k.k (omega arith) (omega arith) c.loop-k.invariant.1 in
    let is = c.loop-k.invariant.0 in
    omega (arith, small, is)

pub overflow_add-number : goal.overflow_add-number
overflow_add-number c =
    let small = front_digits_small c.args.text.now c.loop-k.k (omega arith) (omega arith) c.loop-k.invariant.1 in
    let is = c.loop-k.invariant.0 in
    omega (arith, small, is)

pub loop-k-preserved : goal.loop-k-preserved
loop-k-preserved c =
    let digit = digit_value_digit (slice_index_or c.args.text.now c.loop-k.k 0) (omega arith, omega arith) in
    let more = digits_value_more 10 c.args.text.now c.loop-k.k (omega arith) in
    let is = c.loop-k.invariant.0 in (
      omega (arith, digit, more, is),
      digits_more 10 c.args.text.now c.loop-k.k (omega arith) c.loop-k.invariant.1 (omega (arith, digit)),
    )
