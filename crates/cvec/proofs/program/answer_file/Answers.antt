use Rattle.cvec.proofs.Asked.{file_tells_no_usage}
use Rattle.cvec.proofs.program.answer_file.Goals as goal

pub returns-clause-no_usage : goal.returns-clause-no_usage
returns-clause-no_usage g c = file_tells_no_usage _ _ _ _ (g.W.Write.contents c.args.writer.now) (g.W.Write.contents c.run_file-filed.new.writer) _ _ _ c.run_file-filed.result _ _ c.run_file-filed.ensures c.outcome_of.ensures.told
