use Rattle.std.proofs.Common.{◌+◌, ◌*◌, ◌-◌, [], ap, ◌∙◌, arith}
use Rattle.std.specs.Prelude.{slice_range}
use Rattle.std.proofs.lemmas.Result.{MatchResult-weaker}
use Rattle.disk_core.specs.State.{now, IsImage}
use Rattle.disk_core.specs.Calls.{bytes_of}
use Rattle.disk_core.proofs.JoinedMoments.{LeavesOnly-start}
use Rattle.pen_core.proofs.Births.{stays_only}
use Rattle.pen_core.proofs.WindowCells.{IsClipped, part_size, part_ends, laid_part}
use Rattle.pen_core.proofs.window.lay_home.Goals as goal

pub returns-then-first-last-clause-images : goal.returns-then-first-last-clause-images
returns-then-first-last-clause-images g c = λ model. LeavesOnly-start (g.D.Disk.states c.args.disk.now) (IsImage (now (g.D.Disk.states c.args.disk.now))) (λ image left. left)

pub returns-clause-images : goal.returns-clause-images
returns-clause-images g c = λ model.
    stays_only (g.D.Disk.states c.args.disk.now) (g.D.Disk.states c.read_at.new.self) (c.read_at.ensures.same (c.read_at.ensures.model model))

pub read_at-requires : goal.read_at-requires
read_at-requires g c model =
    let home = c.args.home in
    let bytes = bytes_of (g.D.Disk.states c.args.disk.now) in
    let some = c.if-first-last.false in
    let clipped : IsClipped home c.args.window.from c.args.window.count c.max-first.result c.min-last.result = record {
      first_is = c.max-first.ensures;
      last_is = omega (arith, c.min-last.ensures, c.saturating_add.ensures, c.requires.short);
      some = omega arith;
    } in
    let first = clipped.first_is in
    let last = clipped.last_is in
    let ends = c.requires.inside (omega arith) in
    let whole = c.requires.length model in
    let size = part_size c.args.width c.args.window.from c.args.window.count c.max-first.result c.min-last.result home bytes c.args.out.now [] clipped c.requires.filled in
    let inside = part_ends c.args.width c.args.window.from c.args.window.count c.max-first.result c.min-last.result home bytes c.args.out.now [] clipped c.requires.filled (omega arith) in
    omega arith

pub returns-clause-laid : goal.returns-clause-laid
returns-clause-laid g c = λ model.
    let home = c.args.home in
    let bytes = bytes_of (g.D.Disk.states c.args.disk.now) in
    let some = c.if-first-last.false in
    let clipped : IsClipped home c.args.window.from c.args.window.count c.max-first.result c.min-last.result = record {
      first_is = c.max-first.ensures;
      last_is = omega (arith, c.min-last.ensures, c.saturating_add.ensures, c.requires.short);
      some = omega arith;
    } in
    let size = part_size c.args.width c.args.window.from c.args.window.count c.max-first.result c.min-last.result home bytes c.args.out.now [] clipped c.requires.filled in
    let at = home.place + (c.max-first.result - home.position) * c.args.width in
    MatchResult-weaker c.read_at.result (c.read_at.ensures.value model)
    (λ _ read.
    laid_part c.args.width c.args.window.from c.args.window.count c.max-first.result c.min-last.result home bytes c.args.out.now c.read_at.new.out clipped c.requires.filled
    (c.read_at.auto.out ∙ size) (read ∙ ap (λ n. slice_range bytes at (at + n)) size))
    (λ _ _. tt)
