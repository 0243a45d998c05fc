use Rattle.filing_core.proofs.filing.Filing.search_shared.Goals as goal

pub returns : goal.returns
returns g c = λ opened. record {
  file = c.args.file;
  left = c.search_beside.new.file;
  end = c.search_beside.result;
  opened = opened;
  stays = record { same = c.search_beside.ensures.same; model = c.search_beside.ensures.model };
  engine = c.search_beside.ensures.read;
  told = c.status_of_look.ensures;
}
