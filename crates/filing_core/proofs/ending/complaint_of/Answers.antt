use Rattle.std.proofs.Common.{refl}
use Rattle.filing_core.proofs.ending.complaint_of.Goals as goal

pub returns-in-Some : goal.returns-in-Some
returns-in-Some g c = (refl, c.sound_on.new.disk, c.in-Some.ensures)
