use Rattle.std.proofs.Common.{◌-◌, ◌≤◌, ◌<◌, ◌^◌, ℕ, List}
use Rattle.disk_core.specs.Shared.{InTurn}
use Rattle.segment_core.specs.Frame.{Frame}
use Rattle.stat_core.specs.Summary.{AreFew}
use Rattle.beside_core.specs.PensFile.{IsPensFile}
use Rattle.follow_core.specs.Counted.{CountsFirst}
use Rattle.follow_core.proofs.telling.count_in.Given as goal

abbrev pub invariant-loop-summary : goal.invariant-loop-summary
invariant-loop-summary l = record {
  few : AreFew l.summary;
  behind : l.start ≤ l.summary.gate;
  placed : l.summary.gate < 2 ^ 49;
  counted : (held : ℕ → List ℕ) (frames : ℕ → List Frame) (from to : ℕ) → IsPensFile l.shape held frames → (read : InTurn held from to l.start l.piece)
      → CountsFirst l.shape (frames from) l.fn.summary → CountsFirst l.shape (frames (read.moments (l.summary.gate - l.start))) l.summary;
}

abbrev pub decreases-loop-summary : goal.decreases-loop-summary
decreases-loop-summary l = 2 ^ 48 - l.summary.gate
