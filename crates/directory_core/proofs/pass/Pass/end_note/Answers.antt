use Rattle.std.proofs.Common.{Some, ap, sym, ◌∙◌}
use Rattle.directory_core.proofs.pass.Pass.end_note.Goals.{in-Some, in-None}
use Rattle.directory_core.proofs.pass.Pass.end_note.Goals as goal

pub invariant_of-self : goal.invariant_of-self
invariant_of-self g c = elim c.match-self.branch [
  | in-Some w ↦ rw (w.self-inside-is, ap Some w.again.ensures.0 ∙ sym w.in-Some.is) c.self.invariant
  | in-None w ↦ rw w.self-inside-is c.self.invariant
]

pub returns-clause-same : goal.returns-clause-same
returns-clause-same g c = elim c.match-self.branch [
  | in-Some w ↦ rw w.self-inside-is c.self.view_is
  | in-None w ↦ rw w.self-inside-is c.self.view_is
]
