use Rattle.std.proofs.Common.{◌≡◌, ◌≤◌, ◌++◌, ℕ, List}
use Rattle.segment_core.specs.declared.format.Shape.{Shape}
use Rattle.segment_core.specs.Frame.{Frame}
use Rattle.beside_core.specs.PensFile.{IsPensFile}
use Rattle.follow_core.specs.Stepped.{BeginsBehind}
use Rattle.follow_core.specs.declared.pause.Rest.{Rest}
use Rattle.follow_core.proofs.Stepping.{StepsAt}
use Rattle.follow_core.proofs.events.follow_events.Given as goal

abbrev pub invariant-looks : goal.invariant-looks
invariant-looks g l = record {
  same : g.S.Shared.held l.file ≡ g.S.Shared.held l.fn.file;
  time : g.S.Shared.now l.fn.file ≤ g.S.Shared.now l.file;
  model : g.S.Shared.keeps l.file → g.S.Shared.keeps l.fn.file;
  paused : (answer : Rest) → g.P.Pause.may_answer l.pause answer → g.P.Pause.may_answer l.fn.pause answer;
  followed : g.S.Shared.keeps l.file → (shape : Shape) (frames : ℕ → List Frame) (known : List Frame) → IsPensFile shape (g.S.Shared.held l.fn.file) frames → BeginsBehind shape l.fn.after known
      → (more : List Frame) × (frames (g.S.Shared.now l.fn.file) ≡ known ++ more)
      → StepsAt g.R.Record.form g.R.TextRecord.spelling.text_of shape frames known l.mark (g.S.Shared.now l.file) (g.S.Shared.synced l.file) (g.W.Write.contents l.fn.writer) (g.W.Write.contents l.writer);
}
