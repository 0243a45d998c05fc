use Rattle.std.proofs.Common.{◌≡◌, ◌+◌, ◌-◌, ◌≤◌, ◌^◌, length}
use Rattle.beside_core.proofs.Ahead.{Ahead}
use Rattle.beside_core.proofs.look.look.Given as goal

abbrev pub invariant-frames : goal.invariant-frames
invariant-frames g l = record {
  same : g.S.Shared.held l.file ≡ g.S.Shared.held l.fn.file;
  time : g.S.Shared.now l.fn.file ≤ g.S.Shared.now l.file;
  settles_none : g.S.Shared.synced l.file ≡ g.S.Shared.synced l.fn.file;
  model : g.S.Shared.keeps l.file → g.S.Shared.keeps l.fn.file;
  gate_is : l.at + l.walked ≡ l.gate;
  inside : l.walked ≤ length l.text.items;
  short : length l.text.items ≤ l.walked + 65536;
  ahead : g.S.Shared.keeps l.file → Ahead l.shape (g.S.Shared.held l.fn.file) (g.S.Shared.now l.fn.file) (g.S.Shared.now l.file) l.at l.walked l.text.items;
}

abbrev pub decreases-frames : goal.decreases-frames
decreases-frames g l = 2 ^ 49 - l.gate
