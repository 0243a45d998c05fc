use Rattle.std.proofs.Common.{◌≡◌, ◌-◌, ◌≤◌, ◌^◌, ℕ, List}
use Rattle.segment_core.specs.Frame.{Frame}
use Rattle.stat_core.specs.Summary.{AreFew}
use Rattle.beside_core.specs.PensFile.{IsPensFile}
use Rattle.follow_core.specs.Counted.{CountsFirst}
use Rattle.follow_core.proofs.telling.count_frames.Given as goal

abbrev pub invariant-loop-summary : goal.invariant-loop-summary
invariant-loop-summary g l = record {
  few : AreFew l.summary;
  same : g.S.Shared.held l.file ≡ g.S.Shared.held l.fn.file;
  time : g.S.Shared.now l.fn.file ≤ g.S.Shared.now l.file;
  model : g.S.Shared.keeps l.file → g.S.Shared.keeps l.fn.file;
  counted : g.S.Shared.keeps l.file → (frames : ℕ → List Frame) → IsPensFile l.shape (g.S.Shared.held l.fn.file) frames → CountsFirst l.shape (frames (g.S.Shared.now l.file)) l.summary;
}

abbrev pub decreases-loop-summary : goal.decreases-loop-summary
decreases-loop-summary g l = 2 ^ 49 - l.summary.gate
