use Rattle.call_tests.proofs.Showing.{agrees_still}
use Rattle.call_tests.proofs.tests.snapshots.show_more.Goals as goal

pub update-requires-clause-agree : goal.update-requires-clause-agree
update-requires-clause-agree c κs = agrees_still c.args.seat.now c.look.new.seat c.args.shown.now.growths c.requires.shows.growths c.look.ensures.learns.begins
