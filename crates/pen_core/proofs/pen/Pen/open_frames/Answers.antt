use Rattle.std.proofs.Common.{◌<◌, ◌^◌, ℕ, List, ap, subst, arith}
use Rattle.disk_core.specs.Calls.{bytes_of}
use Rattle.segment_core.specs.Raw.{raw}
use Rattle.pen_core.specs.Opening.{IsOpened}
use Rattle.pen_core.proofs.FrameSteps.{framed_known}
use Rattle.pen_core.proofs.Opening.{known_opened}
use Rattle.pen_core.proofs.pen.Pen.open_frames.Goals as goal

pub over-requires : goal.over-requires
over-requires g c =
    let framed = c.in-Ok.framed in
    let found = c.in-Ok.ensures.framed in
    let small : framed.shape.width < 2 ^ 16 = omega (arith, found.0, c.ranges.width.fits) in
    framed_known (g.D.Disk.keeps c.walk_disk.new.disk) (bytes_of (g.D.Disk.states c.args.disk)) (g.D.Disk.states c.walk_disk.new.disk) found.1.0 framed found.1.2 found.1.1 small
    c.in-Ok.ensures.settled

pub returns-in-Ok-clause-opened : goal.returns-in-Ok-clause-opened
returns-in-Ok-clause-opened g c = λ model.
    let same = c.over.ensures.disk in
    let kept = subst g.D.Disk.keeps same model in
    let counts = c.over.ensures.counts in
    let found = c.in-Ok.ensures.framed in
    let known =
    framed_known (g.D.Disk.keeps c.walk_disk.new.disk) (bytes_of (g.D.Disk.states c.args.disk)) (g.D.Disk.states c.walk_disk.new.disk) found.1.0 c.in-Ok.framed found.1.2 found.1.1
    (omega (arith, found.0, c.ranges.width.fits)) c.in-Ok.ensures.settled in
    let opened = known_opened known c.over.result kept counts.0 counts.1 counts.2 (c.over.ensures.seen kept) in
    let seen = ap (λ s. s.seen) (c.in-Ok.ensures.settled kept) in
    subst (λ (bs : List ℕ). IsOpened (raw c.args.width) bs c.over.result c.over.result.vector) seen
    (subst (λ n. IsOpened (raw n) (bytes_of (g.D.Disk.states c.walk_disk.new.disk)) c.over.result c.over.result.vector) c.in-Ok.ensures.framed.0 opened)
