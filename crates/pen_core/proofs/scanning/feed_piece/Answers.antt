use Rattle.std.proofs.Common.{◌+◌, ◌++◌, length, take, sym, subst, arith}
use Rattle.std.proofs.lemmas.Result.{MatchResult-weaker}
use Rattle.disk_core.specs.Calls.{bytes_of}
use Rattle.pen_core.specs.Opening.{IsOpenRefusal}
use Rattle.pen_core.proofs.Pieces.{taken_more, lost_behind}
use Rattle.pen_core.proofs.scanning.feed_piece.Goals as goal

pub returns-clause-more : goal.returns-clause-more
returns-clause-more g c =
    let bytes = bytes_of (g.D.Disk.states c.args.disk.now) in
    MatchResult-weaker c.take_piece.result c.take_piece.ensures.memory
    (λ _ _.
    taken_more {form = g.R.Record.form} {keeps = g.D.Disk.keeps c.args.disk.now} {keeps' = g.D.Disk.keeps c.read_at.new.self}
    {bytes = bytes} {at = c.args.at} {n = length c.args.piece.now} {piece = c.read_at.new.out}
    {old = c.args.scanner.now} {new = c.take_piece.new.scanner}
    (record {
      taken = c.requires.taken;
      back = c.read_at.ensures.model;
      value = c.in_default.ensures.value;
      fed = c.take_piece.ensures.fed c.requires.taken.image c.requires.taken.fed;
    })
    c.read_at.auto.out c.requires.fits c.take_piece.ensures.bytes)
    (λ fault memory. tt)

pub returns-clause-refused : goal.returns-clause-refused
returns-clause-refused g c = λ model.
    let bytes = bytes_of (g.D.Disk.states c.args.disk.now) in
    MatchResult-weaker c.take_piece.result c.take_piece.ensures.memory
    (λ _ _. tt)
    (λ fault memory more.
    subst (IsOpenRefusal g.R.Record.form (take (c.args.at + length c.args.piece.now) bytes ++ more)) (sym memory.0)
    (lost_behind {form = g.R.Record.form} {keeps = g.D.Disk.keeps c.args.disk.now} {keeps' = g.D.Disk.keeps c.read_at.new.self}
    {bytes = bytes} {at = c.args.at} {n = length c.args.piece.now} {piece = c.read_at.new.out}
    {old = c.args.scanner.now} {new = c.take_piece.new.scanner}
    (record {
      taken = c.requires.taken;
      back = c.read_at.ensures.model;
      value = c.in_default.ensures.value;
      fed = c.take_piece.ensures.fed c.requires.taken.image c.requires.taken.fed;
    })
    model memory.1 more))

pub take_piece-requires-after_bounds : goal.take_piece-requires-after_bounds
take_piece-requires-after_bounds g c κs within =
    let taken = c.requires.taken in
    (taken.image, taken.fed, omega (arith, taken.size, c.requires.fits, c.read_at.auto.out))
