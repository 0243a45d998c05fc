use Rattle.filing_core.proofs.filing.Filing.follow_opened.Goals as goal

pub returns : goal.returns
returns g c = λ opened. record {
  file = c.args.file;
  left = c.follow-end.new.file;
  end = c.follow-end.result;
  opened = opened;
  stays = record { same = c.follow-end.ensures.same; model = c.follow-end.ensures.model };
  engine = (c.follow-end.ensures.followed, c.follow-end.ensures.whole);
  paused = c.follow-end.ensures.paused;
  told = c.status_of_follow.ensures;
}
