use Rattle.filing_core.proofs.filing.Filing.check_shared.Goals as goal

pub returns : goal.returns
returns g c = λ opened. record {
  file = c.args.file;
  left = c.check_beside.new.file;
  end = c.check_beside.result;
  opened = opened;
  stays = record { same = c.check_beside.ensures.same; model = c.check_beside.ensures.model };
  engine = c.check_beside.ensures.read;
  told = c.status_of_look.ensures;
}
