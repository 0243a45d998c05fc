use Rattle.std.proofs.Common.{◌≡◌, false, drop, sum, sym, ap, ◌∙◌, arith}
use Rattle.std.specs.Prelude.{nat_lt}
use Rattle.std.specs.List.{list_all}
use Rattle.std.proofs.lemmas.Bool.{false≢true}
use Rattle.segment_core.specs.Layout.{numbers_in, count_in, lengths_in}
use Rattle.segment_core.proofs.Payload.{no_group, no_group_unfilled, is_group}
use Rattle.segment_core.proofs.frame.payload.group_counts.Goals as goal
use Rattle.segment_core.proofs.frame.payload.group_counts.Goals.{then-growths-eq0-via-then-growths-eq0, then-growths-eq0-via-else-growths-eq0+then-payload-growths}

pub returns-then-growths-eq0 : goal.returns-then-growths-eq0
returns-then-growths-eq0 c =
    let count : c.args.growths ≡ count_in c.args.payload.now = c.requires.is in
    no_group c.args.width c.args.payload.now (λ p. (
    let some = p.some in
    let inside = p.inside in
    elim c.then-growths-eq0.branch [
      | then-growths-eq0-via-then-growths-eq0 w ↦ absurd (omega arith)
      | then-growths-eq0-via-else-growths-eq0+then-payload-growths w ↦ absurd (omega arith)
    ]))

pub returns-in_err-records : goal.returns-in_err-records
returns-in_err-records c =
    let zero_length : list_all (nat_lt 0) (numbers_in c.args.growths (drop 4 c.args.payload.now)) ≡ false = c.in_err-records.ensures in
    let here = ap (λ n. list_all (nat_lt 0) (numbers_in n (drop 4 c.args.payload.now))) c.requires.is in
    rw c.from_residual.ensures (no_group c.args.width c.args.payload.now (λ p. false≢true (sym zero_length ∙ here ∙ p.positive)))

pub returns-in_err-filled : goal.returns-in_err-filled
returns-in_err-filled c =
    let counts = c.in_ok-records.ensures in
    let records : c.in_ok-records.records ≡ sum (lengths_in c.args.payload.now) = counts.1 ∙ ap (λ n. sum (numbers_in n (drop 4 c.args.payload.now))) c.requires.is in
    let small = c.requires.small in
    rw c.from_residual-in_err-filled.ensures
    (no_group_unfilled c.args.width c.args.payload.now c.args.growths c.in_ok-records.records c.requires.is records (λ filled. c.in_err-filled.ensures (omega arith)))

pub returns-then-filled-payload : goal.returns-then-filled-payload
returns-then-filled-payload c =
    let counts = c.in_ok-records.ensures in
    let records : c.in_ok-records.records ≡ sum (lengths_in c.args.payload.now) = counts.1 ∙ ap (λ n. sum (numbers_in n (drop 4 c.args.payload.now))) c.requires.is in
    let positive = sym (ap (λ n. list_all (nat_lt 0) (numbers_in n (drop 4 c.args.payload.now))) c.requires.is) ∙ counts.0 in
    let filled = c.in_ok-filled.ensures in (
      is_group c.args.width c.args.payload.now c.args.growths c.in_ok-records.records c.requires.is
          records (omega arith) (omega arith) positive (sym filled.1 ∙ c.if-filled-payload.true),
      c.requires.is,
      records,
    )

pub returns-else-filled-payload : goal.returns-else-filled-payload
returns-else-filled-payload c =
    let counts = c.in_ok-records.ensures in
    let records : c.in_ok-records.records ≡ sum (lengths_in c.args.payload.now) = counts.1 ∙ ap (λ n. sum (numbers_in n (drop 4 c.args.payload.now))) c.requires.is in
    let filled = c.in_ok-filled.ensures in
    no_group_unfilled c.args.width c.args.payload.now c.args.growths c.in_ok-records.records c.requires.is records (λ is. c.if-filled-payload.false (filled.1 ∙ is))
