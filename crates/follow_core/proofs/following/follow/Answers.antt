use Rattle.std.proofs.Common.{[], refl, sym, subst, ◌∙◌, arith}
use Rattle.beside_core.specs.PensFile.{IsPensFile}
use Rattle.follow_core.proofs.Refusals.{without_damage}
use Rattle.follow_core.proofs.SoFar.{follows_nothing, follows_first, follows_look, follows_whole, ended, ended_whole}
use Rattle.follow_core.proofs.following.follow.Goals as goal

pub returns-in-Err-clause-followed : goal.returns-in-Err-clause-followed
returns-in-Err-clause-followed g c = λ kept shape frames file.
    let now = g.S.Shared.now c.first.new.file in (
      [],
      follows_nothing g.R.Record.form g.R.TextRecord.spelling.text_of c.args.from frames now (g.S.Shared.synced c.first.new.file) (g.W.Write.contents c.args.writer.now),
      without_damage g.R.Record.form shape frames 0 now c.in-Err.fault (c.in-Err.ensures.behind kept shape frames file),
    )

pub looks-init : goal.looks-init
looks-init g c = record {
  same = c.in-Ok.ensures.same;
  time = c.in-Ok.ensures.time;
  model = c.in-Ok.ensures.model;
  paused = λ answer may. may;
  followed = λ kept shape frames file. follows_first g.R.Record.form g.R.TextRecord.spelling.text_of c.args.from shape frames _ (g.S.Shared.now c.first.new.file) (g.S.Shared.synced c.first.new.file)
      (g.W.Write.contents c.args.writer.now) (c.in-Ok.ensures.behind kept shape frames file) refl;
}

pub returns-in-Err-follow_on-clause-followed : goal.returns-in-Err-follow_on-clause-followed
returns-in-Err-follow_on-clause-followed g c = λ kept.
    let i = c.looks.invariant in
    let e = c.in-Err-follow_on.ensures in
    let held = g.S.Shared.held c.args.file.now in
    ended g.R.Record.form g.R.TextRecord.spelling.text_of c.args.from held (g.S.Shared.now c.looks.file) (g.S.Shared.now c.follow_on.new.file) (g.S.Shared.synced c.looks.file) (g.S.Shared.synced c.follow_on.new.file)
    (g.W.Write.contents c.args.writer.now)
    (g.W.Write.contents c.looks.writer) (g.W.Write.contents c.follow_on.new.writer) c.looks.reached c.in-Err-follow_on.end e.time e.keeps_settled (λ shape frames file. i.followed (e.model kept) shape frames file)
    (λ shape frames known file lies more. e.followed kept shape frames known (subst (λ h. IsPensFile shape h frames) (sym i.same) file) lies more)

pub returns-in-Err-follow_on-clause-whole : goal.returns-in-Err-follow_on-clause-whole
returns-in-Err-follow_on-clause-whole g c = λ kept.
    let i = c.looks.invariant in
    let e = c.in-Err-follow_on.ensures in
    ended_whole g.R.Record.form g.R.TextRecord.spelling.text_of c.args.from (g.S.Shared.held c.args.file.now) (g.S.Shared.now c.args.file.now) (g.S.Shared.now c.looks.file)
    (g.S.Shared.now c.follow_on.new.file) (g.S.Shared.synced c.looks.file) (g.S.Shared.synced c.follow_on.new.file)
    (g.W.Write.contents c.args.writer.now) (g.W.Write.contents c.looks.writer) (g.W.Write.contents c.follow_on.new.writer) c.looks.reached c.in-Err-follow_on.end
    (λ shape frames file. i.followed (e.model kept) shape frames file)
    (λ shape frames known file lies more. e.followed kept shape frames known (subst (λ h. IsPensFile shape h frames) (sym i.same) file) lies more)

pub looks-preserved : goal.looks-preserved
looks-preserved g c =
    let i = c.looks.invariant in
    let e = c.in-Ok-follow_on.ensures in
    record {
      same = e.same ∙ i.same;
      time = omega (arith, i.time, e.time);
      model = λ kept. i.model (e.model kept);
      paused = λ answer may. i.paused answer (c.rest.ensures.no_more answer may);
      followed = λ kept shape frames file. follows_look g.R.Record.form g.R.TextRecord.spelling.text_of c.args.from (g.S.Shared.held c.args.file.now) (g.S.Shared.now c.looks.file)
          (g.S.Shared.now c.follow_on.new.file) (g.S.Shared.synced c.looks.file) (g.S.Shared.synced c.follow_on.new.file)
          (g.W.Write.contents c.args.writer.now) (g.W.Write.contents c.looks.writer) (g.W.Write.contents c.follow_on.new.writer) c.looks.reached c.in-Ok-follow_on.next e.keeps_settled (λ shape frames file.
          i.followed (e.model kept) shape frames file)
          (λ shape frames known file lies more. e.followed kept shape frames known (subst (λ h. IsPensFile shape h frames) (sym i.same) file) lies more) shape frames file;
    }

pub returns-in-End-clause-followed : goal.returns-in-End-clause-followed
returns-in-End-clause-followed g c = λ kept shape frames file.
    let i = c.looks.invariant in
    let e = c.in-Ok-follow_on.ensures in
    let at = follows_look g.R.Record.form g.R.TextRecord.spelling.text_of c.args.from (g.S.Shared.held c.args.file.now) (g.S.Shared.now c.looks.file)
    (g.S.Shared.now c.follow_on.new.file) (g.S.Shared.synced c.looks.file) (g.S.Shared.synced c.follow_on.new.file)
    (g.W.Write.contents c.args.writer.now) (g.W.Write.contents c.looks.writer) (g.W.Write.contents c.follow_on.new.writer) c.looks.reached c.in-Ok-follow_on.next e.keeps_settled (λ shape frames file.
    i.followed (e.model kept) shape frames file)
    (λ shape frames known file lies more. e.followed kept shape frames known (subst (λ h. IsPensFile shape h frames) (sym i.same) file) lies more) shape frames file in
    (at.known, at.has, tt)

pub returns-in-Replaced-clause-followed : goal.returns-in-Replaced-clause-followed
returns-in-Replaced-clause-followed g c = λ kept shape frames file.
    let i = c.looks.invariant in
    let e = c.in-Ok-follow_on.ensures in
    let at = follows_look g.R.Record.form g.R.TextRecord.spelling.text_of c.args.from (g.S.Shared.held c.args.file.now) (g.S.Shared.now c.looks.file)
    (g.S.Shared.now c.follow_on.new.file) (g.S.Shared.synced c.looks.file) (g.S.Shared.synced c.follow_on.new.file)
    (g.W.Write.contents c.args.writer.now) (g.W.Write.contents c.looks.writer) (g.W.Write.contents c.follow_on.new.writer) c.looks.reached c.in-Ok-follow_on.next e.keeps_settled (λ shape frames file.
    i.followed (e.model kept) shape frames file)
    (λ shape frames known file lies more. e.followed kept shape frames known (subst (λ h. IsPensFile shape h frames) (sym i.same) file) lies more) shape frames file in
    (at.known, at.has, tt)

pub returns-clause-followed : goal.returns-clause-followed
returns-clause-followed g c = λ kept shape frames file. let at = c.looks.invariant.followed kept shape frames file in (at.known, at.has, tt)

pub returns-in-End-clause-whole : goal.returns-in-End-clause-whole
returns-in-End-clause-whole g c = λ kept.
    let i = c.looks.invariant in
    let e = c.in-Ok-follow_on.ensures in
    follows_whole g.R.Record.form g.R.TextRecord.spelling.text_of c.args.from (g.S.Shared.held c.args.file.now) (g.S.Shared.now c.looks.file)
    (g.S.Shared.now c.follow_on.new.file) (g.S.Shared.synced c.looks.file) (g.S.Shared.synced c.follow_on.new.file)
    (g.W.Write.contents c.args.writer.now) (g.W.Write.contents c.looks.writer) (g.W.Write.contents c.follow_on.new.writer) c.looks.reached c.in-Ok-follow_on.next e.keeps_settled (λ shape frames file.
    i.followed (e.model kept) shape frames file)
    (λ shape frames known file lies more. e.followed kept shape frames known (subst (λ h. IsPensFile shape h frames) (sym i.same) file) lies more) (g.S.Shared.now c.args.file.now) i.time

pub returns-in-Replaced-clause-whole : goal.returns-in-Replaced-clause-whole
returns-in-Replaced-clause-whole g c = λ kept.
    let i = c.looks.invariant in
    let e = c.in-Ok-follow_on.ensures in
    follows_whole g.R.Record.form g.R.TextRecord.spelling.text_of c.args.from (g.S.Shared.held c.args.file.now) (g.S.Shared.now c.looks.file)
    (g.S.Shared.now c.follow_on.new.file) (g.S.Shared.synced c.looks.file) (g.S.Shared.synced c.follow_on.new.file)
    (g.W.Write.contents c.args.writer.now) (g.W.Write.contents c.looks.writer) (g.W.Write.contents c.follow_on.new.writer) c.looks.reached c.in-Ok-follow_on.next e.keeps_settled (λ shape frames file.
    i.followed (e.model kept) shape frames file)
    (λ shape frames known file lies more. e.followed kept shape frames known (subst (λ h. IsPensFile shape h frames) (sym i.same) file) lies more) (g.S.Shared.now c.args.file.now) i.time
