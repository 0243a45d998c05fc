use Rattle.std.proofs.Common.{◌∙◌, inr}
use Rattle.phase_core.proofs.folding.fold_whole.Goals as goal

pub returns-in-Ok-settle-clause-folds : goal.returns-in-Ok-settle-clause-folds
returns-in-Ok-settle-clause-folds g c =
    let b = c.in-Ok.ensures in
    let s = c.in-Ok-settle.ensures in
    record {
      begun = c.begin_fold.new.self;
      answer = b.begun;
      begun_same = b.list;
      idle = s.idle;
      stands = s.file;
      blocks_same = s.list ∙ b.list.0;
      sure = s.sure;
      images = s.images;
      model = s.model;
    }

pub returns-in-Err-settle-clause-refused : goal.returns-in-Err-settle-clause-refused
returns-in-Err-settle-clause-refused g c =
    let b = c.in-Ok.ensures in
    let s = c.in-Err-settle.ensures in
    record {
      blocks_same = s.list ∙ b.list.0;
      why = inr (c.begin_fold.new.self, c.in-Ok.folded, b.begun, s.refused);
    }
