use Rattle.filing_core.proofs.filing.Filing.follow_events_of.Goals as goal

pub returns : goal.returns
returns g c = λ opened. record {
  file = c.args.file;
  left = c.follow_events-end.new.file;
  end = c.follow_events-end.result;
  opened = opened;
  stays = record { same = c.follow_events-end.ensures.same; model = c.follow_events-end.ensures.model };
  engine = (c.follow_events-end.ensures.followed, c.follow_events-end.ensures.whole);
  paused = c.follow_events-end.ensures.paused;
  told = c.status_of_follow.ensures;
}
