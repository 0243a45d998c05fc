use Rattle.std.proofs.Common.{◌≡◌, ◌-◌, length, sym, ap, ◌∙◌, arith}
use Rattle.std.proofs.lemmas.Bool.{false≢true}
use Rattle.segment_core.specs.Frame.{runs_len}
use Rattle.segment_core.proofs.Payload.{no_change, no_change_unfilled, is_change}
use Rattle.segment_core.proofs.frame.payload.change_counts.Goals as goal
use Rattle.segment_core.proofs.frame.payload.change_counts.Goals.{then-runs-eq0-via-then-runs-eq0, then-runs-eq0-via-else-runs-eq0+then-payload-runs_len}

pub returns-then-runs-eq0 : goal.returns-then-runs-eq0
returns-then-runs-eq0 c =
    let count = c.requires.is in
    let head = ap (runs_len c.args.shape.format) count in
    no_change c.args.shape c.args.payload.now (λ p. (
    let some = p.some in
    let inside = p.inside in
    elim c.then-runs-eq0.branch [
      | then-runs-eq0-via-then-runs-eq0 w ↦ let zero' = w.if-runs-eq0.true in absurd (omega arith)
      | then-runs-eq0-via-else-runs-eq0+then-payload-runs_len w ↦ let size = w.runs_len.ensures in let short = w.if-payload-runs_len.true in absurd (omega arith)
    ]))

pub returns-in_err-records : goal.returns-in_err-records
returns-in_err-records c =
    let zero_count = c.in_err-records.ensures in
    rw c.from_residual.ensures (no_change c.args.shape c.args.payload.now (λ p. false≢true (sym zero_count ∙ p.positive)))

pub returns-in_err-filled : goal.returns-in_err-filled
returns-in_err-filled c =
    let counts = c.in_ok-records.ensures in
    let small = c.requires.small in
    rw c.from_residual-in_err-filled.ensures
    (no_change_unfilled c.args.shape c.args.payload.now c.args.runs c.in_ok-records.records c.requires.is counts.1 (λ filled. c.in_err-filled.ensures (omega arith)))

pub returns-then-filled-payload : goal.returns-then-filled-payload
returns-then-filled-payload c =
    let counts = c.in_ok-records.ensures in
    let filled = c.in_ok-filled.ensures in
    let some = c.if-runs-eq0.false in
    let head = c.runs_len.ensures in
    let head' = c.runs_len-2.ensures in
    let long = c.requires.counted in
    let longer = c.if-payload-runs_len.false in
    let left :
    c.in_ok-filled.filled ≡ length c.args.payload.now - runs_len c.args.shape.format c.args.runs
    = c.if-filled-payload.true ∙ ap (λ n. length c.args.payload.now - n) head' in (
      is_change c.args.shape c.args.payload.now c.args.runs c.in_ok-records.records
          c.requires.is counts.1 (omega arith) (omega arith) (omega arith) counts.0 (sym filled.1 ∙ left),
      c.requires.is,
      counts.1,
    )

pub returns-else-filled-payload : goal.returns-else-filled-payload
returns-else-filled-payload c =
    let counts = c.in_ok-records.ensures in
    let filled = c.in_ok-filled.ensures in
    let head' = c.runs_len-2.ensures in
    no_change_unfilled c.args.shape c.args.payload.now c.args.runs c.in_ok-records.records
    c.requires.is counts.1
    (λ is. c.if-filled-payload.false (filled.1 ∙ is ∙ ap (λ n. length c.args.payload.now - n) (sym head')))
