-- A block is made, and its handle has no memory for it.
use Rattle.std.proofs.Common.{sym, subst, refl, inr}
use Rattle.c_core.specs.declared.refusal.Refusal.TheVariants.{Memory}
use Rattle.cvec_threads.specs.Blocks.{IsNoBlock}
use Rattle.cvec_threads.proofs.growing.cvec_phase_block.Goals as goal

pub returns-else-fill-clause-refused : goal.returns-else-fill-clause-refused
returns-else-fill-clause-refused c refused = (
  subst (IsNoBlock c.args.count c.code-in-Ok.result) (sym c.in-Some.ensures.end) (Memory, c.code-in-Ok.ensures.number, inr refl),
  inr c.if-fill.ensures,
  refl,
)
