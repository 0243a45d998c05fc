use Rattle.std.proofs.Common.{inl, inr}
use Rattle.filing_core.proofs.filing.Filing.read_shared.Goals as goal

pub returns-clause-read : goal.returns-clause-read
returns-clause-read g c = λ opened. inr (inr (record {
  file = c.args.file;
  left = c.read_beside.new.file;
  fault = c.in-Err.fault;
  opened = opened;
  stays = record { same = c.in-Err.ensures.same; model = c.in-Err.ensures.model };
  why = c.in-Err.ensures.read;
  told = c.complaint_of_copy.ensures;
}))
