use Rattle.std.proofs.Common.{◌+◌, ◌<◌, length, arith}
use Rattle.lines_core.proofs.WholeBlocks.{cut_as, cut_block, cut_line, cut_other}
use Rattle.lines_core.proofs.gathering.first_blocks.Goals.{then-buffer-k-eq10+then-held-size, then-buffer-k-eq10+else-held-size, else-buffer-k-eq10}
use Rattle.lines_core.proofs.gathering.first_blocks.Goals as goal

pub loop-k-preserved : goal.loop-k-preserved
loop-k-preserved c =
    let size = c.get-size.result in
    let buffer = c.args.buffer.now in
    let k = c.loop-k.k in
    let whole = c.loop-k.whole in
    let held = c.loop-k.held in
    let so = c.loop-k.invariant.3 in
    let inside : c.loop-k.k < length c.args.buffer.now = omega arith in
    elim c.if-buffer-k-eq10.branch [
      | then-buffer-k-eq10+then-held-size w ↦ (
        omega (arith, w.whole-is),
        omega (arith, w.lines-is),
        omega (arith, w.held-is),
        cut_as size buffer (k + 1) (k + 1) 0 c.if-buffer-k-eq10.whole c.if-buffer-k-eq10.held w.whole-is w.held-is
            (cut_block size buffer k whole held so inside w.if-buffer-k-eq10.true w.if-held-size.true),
      )
      | then-buffer-k-eq10+else-held-size w ↦ (
        omega (arith, w.whole-is),
        omega (arith, w.lines-is),
        omega (arith, w.held-is, w.if-held-size.false),
        cut_as size buffer (k + 1) whole (held + 1) c.if-buffer-k-eq10.whole c.if-buffer-k-eq10.held w.whole-is w.held-is
            (cut_line size buffer k whole held so inside w.if-buffer-k-eq10.true),
      )
      | else-buffer-k-eq10 w ↦ (
        omega (arith, w.whole-is),
        omega (arith, w.lines-is),
        omega (arith, w.held-is),
        cut_as size buffer (k + 1) whole held c.if-buffer-k-eq10.whole c.if-buffer-k-eq10.held w.whole-is w.held-is
            (cut_other size buffer k whole held so inside w.if-buffer-k-eq10.false),
      )
    ]
