use Rattle.std.proofs.Common.{◌≡◌, ◌≤◌, ℕ, List}
use Rattle.segment_core.specs.declared.format.Shape.{Shape}
use Rattle.segment_core.specs.Frame.{Frame}
use Rattle.beside_core.specs.PensFile.{IsPensFile}
use Rattle.follow_core.specs.declared.pause.Rest.{Rest}
use Rattle.follow_core.proofs.SoFar.{FollowsAt}
use Rattle.follow_core.proofs.following.follow.Given as goal

abbrev pub invariant-looks : goal.invariant-looks
invariant-looks g l = record {
  same : g.S.Shared.held l.file ≡ g.S.Shared.held l.fn.file;
  time : g.S.Shared.now l.fn.file ≤ g.S.Shared.now l.file;
  model : g.S.Shared.keeps l.file → g.S.Shared.keeps l.fn.file;
  paused : (answer : Rest) → g.P.Pause.may_answer l.pause answer → g.P.Pause.may_answer l.fn.pause answer;
  followed : g.S.Shared.keeps l.file → (shape : Shape) (frames : ℕ → List Frame) → IsPensFile shape (g.S.Shared.held l.fn.file) frames
      → FollowsAt g.R.Record.form g.R.TextRecord.spelling.text_of l.from shape frames l.reached (g.S.Shared.now l.file) (g.S.Shared.synced l.file) (g.W.Write.contents l.fn.writer) (g.W.Write.contents l.writer);
}
