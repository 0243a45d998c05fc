use Rattle.std.proofs.Common.{ap}
use Rattle.drive_core.proofs.growing.Growing.begin.Goals as goal

pub invariant_of-result : goal.invariant_of-result
invariant_of-result g c = (c.requires.of, (λ k seat at. let new = c.requires.new k seat at in record { directory = new.of; mark = ap (λ (m : _). m.of) new.marked }), c.requires.some)
