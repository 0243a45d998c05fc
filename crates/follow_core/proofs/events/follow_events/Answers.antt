use Rattle.std.proofs.Common.{sym, subst, ◌∙◌, arith, inl}
use Rattle.beside_core.specs.PensFile.{IsPensFile}
use Rattle.follow_core.proofs.Stepping.{steps_nothing, steps_begin, steps_more, no_damage_news, steps_ended, steps_whole, steps_ended_whole}
use Rattle.follow_core.proofs.events.follow_events.Goals as goal

pub returns-in-Err-clause-followed : goal.returns-in-Err-clause-followed
returns-in-Err-clause-followed g c = λ kept shape frames known file begins more.
    let held = g.S.Shared.held c.args.file.now in
    let now = g.S.Shared.now c.first_mark.new.file in (
      steps_nothing g.R.Record.form g.R.TextRecord.spelling.text_of shape held frames known (g.S.Shared.now c.args.file.now) now (g.S.Shared.synced c.first_mark.new.file) (g.W.Write.contents c.args.writer.now) file
          c.in-Err.ensures.time more,
      no_damage_news g.R.Record.form shape frames now c.in-Err.fault (c.in-Err.ensures.begins kept shape frames known file begins),
    )

pub looks-init : goal.looks-init
looks-init g c = record {
  same = c.in-Ok.ensures.same;
  time = c.in-Ok.ensures.time;
  model = c.in-Ok.ensures.model;
  paused = λ answer may. may;
  followed = λ kept shape frames known file begins more. steps_begin g.R.Record.form g.R.TextRecord.spelling.text_of shape (g.S.Shared.held c.args.file.now) frames known c.in-Ok.mark
      (g.S.Shared.now c.args.file.now) (g.S.Shared.now c.first_mark.new.file) (g.S.Shared.synced c.first_mark.new.file) (g.W.Write.contents c.args.writer.now) file c.in-Ok.ensures.time more
      (c.in-Ok.ensures.begins kept shape frames known file begins);
}

pub returns-in-Err-follow_step-clause-followed : goal.returns-in-Err-follow_step-clause-followed
returns-in-Err-follow_step-clause-followed g c = λ kept.
    let i = c.looks.invariant in
    let e = c.in-Err-follow_step.ensures in
    let held = g.S.Shared.held c.args.file.now in
    steps_ended g.R.Record.form g.R.TextRecord.spelling.text_of c.args.after held (g.S.Shared.now c.args.file.now) (g.S.Shared.now c.looks.file) (g.S.Shared.now c.follow_step.new.file)
    (g.S.Shared.synced c.looks.file) (g.S.Shared.synced c.follow_step.new.file)
    (g.W.Write.contents c.args.writer.now) (g.W.Write.contents c.looks.writer) (g.W.Write.contents c.follow_step.new.writer) c.looks.mark c.in-Err-follow_step.end e.time e.keeps_settled
    (λ shape frames known file begins more. i.followed (e.model kept) shape frames known file begins more)
    (λ shape frames known file lies more. e.stepped kept shape frames known (subst (λ h. IsPensFile shape h frames) (sym i.same) file) lies more)

pub looks-preserved : goal.looks-preserved
looks-preserved g c =
    let i = c.looks.invariant in
    let e = c.in-Ok-follow_step.ensures in
    let held = g.S.Shared.held c.args.file.now in
    record {
      same = e.same ∙ i.same;
      time = omega (arith, i.time, e.time);
      model = λ kept. i.model (e.model kept);
      paused = λ answer may. i.paused answer (c.rest.ensures.no_more answer may);
      followed = λ kept shape frames known file begins more. (
          let at = i.followed (e.model kept) shape frames known file begins more in
          steps_more g.R.Record.form g.R.TextRecord.spelling.text_of shape held frames known c.looks.mark c.in-Ok-follow_step.next (g.S.Shared.now c.looks.file)
          (g.S.Shared.now c.follow_step.new.file) (g.S.Shared.synced c.looks.file) (g.S.Shared.synced c.follow_step.new.file)
          (g.W.Write.contents c.args.writer.now) (g.W.Write.contents c.looks.writer) (g.W.Write.contents c.follow_step.new.writer) file e.keeps_settled at
          (e.stepped kept shape frames at.has.all (subst (λ h. IsPensFile shape h frames) (sym i.same) file) at.lies at.has.stand)).0;
    }

pub returns-clause-followed : goal.returns-clause-followed
returns-clause-followed g c = λ kept shape frames known file begins more. let at = c.looks.invariant.followed kept shape frames known file begins more in (at.has, inl tt)

pub returns-in-End-clause-followed : goal.returns-in-End-clause-followed
returns-in-End-clause-followed g c = λ kept shape frames known file begins more.
    let i = c.looks.invariant in
    let e = c.in-Ok-follow_step.ensures in
    let at = i.followed (e.model kept) shape frames known file begins more in (
      (steps_more g.R.Record.form g.R.TextRecord.spelling.text_of shape (g.S.Shared.held c.args.file.now) frames known c.looks.mark c.in-Ok-follow_step.next (g.S.Shared.now c.looks.file)
          (g.S.Shared.now c.follow_step.new.file) (g.S.Shared.synced c.looks.file) (g.S.Shared.synced c.follow_step.new.file)
          (g.W.Write.contents c.args.writer.now) (g.W.Write.contents c.looks.writer) (g.W.Write.contents c.follow_step.new.writer) file e.keeps_settled at
          (e.stepped kept shape frames at.has.all (subst (λ h. IsPensFile shape h frames) (sym i.same) file) at.lies at.has.stand)).0.has,
      tt,
    )

pub returns-in-Replaced-clause-followed : goal.returns-in-Replaced-clause-followed
returns-in-Replaced-clause-followed g c = λ kept shape frames known file begins more.
    let i = c.looks.invariant in
    let e = c.in-Ok-follow_step.ensures in
    let at = i.followed (e.model kept) shape frames known file begins more in (
      (steps_more g.R.Record.form g.R.TextRecord.spelling.text_of shape (g.S.Shared.held c.args.file.now) frames known c.looks.mark c.in-Ok-follow_step.next (g.S.Shared.now c.looks.file)
          (g.S.Shared.now c.follow_step.new.file) (g.S.Shared.synced c.looks.file) (g.S.Shared.synced c.follow_step.new.file)
          (g.W.Write.contents c.args.writer.now) (g.W.Write.contents c.looks.writer) (g.W.Write.contents c.follow_step.new.writer) file e.keeps_settled at
          (e.stepped kept shape frames at.has.all (subst (λ h. IsPensFile shape h frames) (sym i.same) file) at.lies at.has.stand)).0.has,
      tt,
    )

pub returns-in-Err-follow_step-clause-whole : goal.returns-in-Err-follow_step-clause-whole
returns-in-Err-follow_step-clause-whole g c = λ kept.
    let i = c.looks.invariant in
    let e = c.in-Err-follow_step.ensures in
    steps_ended_whole g.R.Record.form g.R.TextRecord.spelling.text_of c.args.after (g.S.Shared.held c.args.file.now) (g.S.Shared.now c.args.file.now) (g.S.Shared.now c.looks.file)
    (g.S.Shared.now c.follow_step.new.file) (g.S.Shared.synced c.looks.file) (g.S.Shared.synced c.follow_step.new.file)
    (g.W.Write.contents c.args.writer.now) (g.W.Write.contents c.looks.writer) (g.W.Write.contents c.follow_step.new.writer) c.looks.mark
    (λ shape frames known file begins more. i.followed (e.model kept) shape frames known file begins more) c.in-Err-follow_step.end
    (λ shape frames known file lies more. e.stepped kept shape frames known (subst (λ h. IsPensFile shape h frames) (sym i.same) file) lies more)

pub returns-in-End-clause-whole : goal.returns-in-End-clause-whole
returns-in-End-clause-whole g c = λ kept.
    let i = c.looks.invariant in
    let e = c.in-Ok-follow_step.ensures in
    steps_whole g.R.Record.form g.R.TextRecord.spelling.text_of c.args.after (g.S.Shared.held c.args.file.now) (g.S.Shared.now c.args.file.now) (g.S.Shared.now c.looks.file)
    (g.S.Shared.now c.follow_step.new.file) (g.S.Shared.synced c.looks.file) (g.S.Shared.synced c.follow_step.new.file)
    (g.W.Write.contents c.args.writer.now) (g.W.Write.contents c.looks.writer) (g.W.Write.contents c.follow_step.new.writer) c.looks.mark
    (λ shape frames known file begins more. i.followed (e.model kept) shape frames known file begins more) c.in-Ok-follow_step.next i.time e.keeps_settled
    (λ shape frames known file lies more. e.stepped kept shape frames known (subst (λ h. IsPensFile shape h frames) (sym i.same) file) lies more)

pub returns-in-Replaced-clause-whole : goal.returns-in-Replaced-clause-whole
returns-in-Replaced-clause-whole g c = λ kept.
    let i = c.looks.invariant in
    let e = c.in-Ok-follow_step.ensures in
    steps_whole g.R.Record.form g.R.TextRecord.spelling.text_of c.args.after (g.S.Shared.held c.args.file.now) (g.S.Shared.now c.args.file.now) (g.S.Shared.now c.looks.file)
    (g.S.Shared.now c.follow_step.new.file) (g.S.Shared.synced c.looks.file) (g.S.Shared.synced c.follow_step.new.file)
    (g.W.Write.contents c.args.writer.now) (g.W.Write.contents c.looks.writer) (g.W.Write.contents c.follow_step.new.writer) c.looks.mark
    (λ shape frames known file begins more. i.followed (e.model kept) shape frames known file begins more) c.in-Ok-follow_step.next i.time e.keeps_settled
    (λ shape frames known file lies more. e.stepped kept shape frames known (subst (λ h. IsPensFile shape h frames) (sym i.same) file) lies more)
