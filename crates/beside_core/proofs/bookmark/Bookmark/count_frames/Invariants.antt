use Rattle.std.proofs.Common.{◌≡◌, ℕ, ◌-◌, ◌≤◌, List, ◌++◌}
use Rattle.segment_core.specs.declared.format.Shape.{Shape}
use Rattle.segment_core.specs.Frame.{Frame}
use Rattle.beside_core.specs.Bookmark.{LiesBehind}
use Rattle.beside_core.specs.PensFile.{IsPensFile}
use Rattle.beside_core.proofs.Counted.{Counted}
use Rattle.beside_core.proofs.bookmark.Bookmark.count_frames.Given as goal

abbrev pub invariant-loop-gate : goal.invariant-loop-gate
invariant-loop-gate g l = record {
  same : g.S.Shared.held l.file ≡ g.S.Shared.held l.fn.file;
  time : g.S.Shared.now l.fn.file ≤ g.S.Shared.now l.file;
  settles_none : g.S.Shared.synced l.file ≡ g.S.Shared.synced l.fn.file;
  model : g.S.Shared.keeps l.file → g.S.Shared.keeps l.fn.file;
  few : l.count ≤ l.gate;
  counted : g.S.Shared.keeps l.file → (shape : Shape) (frames : ℕ → List Frame) (known : List Frame) → IsPensFile shape (g.S.Shared.held l.fn.file) frames → LiesBehind shape known l.self
      → (more : List Frame) × (frames (g.S.Shared.now l.fn.file) ≡ known ++ more) → Counted shape known l.gate l.count;
}

abbrev pub decreases-loop-gate : goal.decreases-loop-gate
decreases-loop-gate g l = l.self.gate - l.gate
