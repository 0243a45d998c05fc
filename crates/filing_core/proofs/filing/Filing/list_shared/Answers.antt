use Rattle.filing_core.proofs.filing.Filing.list_shared.Goals as goal

pub returns : goal.returns
returns g c = λ opened. record {
  file = c.args.file;
  left = c.list_beside.new.file;
  end = c.list_beside.result;
  opened = opened;
  stays = record { same = c.list_beside.ensures.same; model = c.list_beside.ensures.model };
  engine = c.list_beside.ensures.read;
  told = c.status_of_look.ensures;
}
