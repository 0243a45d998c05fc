use Rattle.std.proofs.Common.{◌<◌, List, ℕ, length, get_or, refl, ap, subst, ◌∙◌, rules}
use Rattle.std.proofs.lemmas.List.{get_or_default}
use Rattle.disk_core.specs.State.{now, IsImage}
use Rattle.disk_core.specs.Calls.{bytes_of}
use Rattle.disk_core.proofs.JoinedMoments.{LeavesOnly-start}
use Rattle.segment_core.specs.declared.found.Home.{Home}
use Rattle.segment_core.specs.Vector.{place_among}
use Rattle.pen_core.specs.Window.{AreLaidOver}
use Rattle.pen_core.proofs.FrameSteps.{reads_joined}
use Rattle.pen_core.proofs.WindowCells.{laid_more, laid_none}
use Rattle.pen_core.proofs.window.lay_homes.Goals as goal

abbrev blank : Home
blank = record { position = 0; place = 0; count = 0 }

pub loop-k-init : goal.loop-k-init
loop-k-init g c = record {
  laid = λ model. laid_none c.args.width c.args.window.from c.args.window.count (bytes_of (g.D.Disk.states c.args.disk.now)) c.args.out.now;
  model = λ model. model;
  same = λ model. refl;
  images = λ model. LeavesOnly-start (g.D.Disk.states c.args.disk.now) (IsImage (now (g.D.Disk.states c.args.disk.now))) (λ image left. left);
  faults = refl;
}

pub returns-in_err-lay_home-clause-images : goal.returns-in_err-lay_home-clause-images
returns-in_err-lay_home-clause-images g c = λ model.
    let m = c.lay_home.ensures.model model in
    reads_joined (g.D.Disk.states c.args.disk.now) (g.D.Disk.states c.loop-k.disk) (g.D.Disk.states c.lay_home.new.disk)
    (c.loop-k.invariant.same m) (c.loop-k.invariant.images m) (c.lay_home.ensures.images model)

pub loop-k-preserved : goal.loop-k-preserved
loop-k-preserved g c =
    let inv = c.loop-k.invariant in
    let old = bytes_of (g.D.Disk.states c.args.disk.now) in
    let lt : c.loop-k.k < length c.args.homes.now = search rules in
    let home : Home = get_or c.args.homes.now c.loop-k.k blank in
    record {
      laid = λ model. (
          let m = c.lay_home.ensures.model model in
          laid_more c.args.width c.args.window.from c.args.window.count old c.args.homes.now c.loop-k.k home c.args.out.now c.loop-k.out c.lay_home.new.out lt
          (get_or_default c.args.homes.now c.loop-k.k blank home lt)
          (inv.laid m)
          (subst (λ (bs : List ℕ). AreLaidOver c.args.width c.args.window.from c.args.window.count bs (place_among c.args.width home.place home.position home.count) c.loop-k.out c.lay_home.new.out)
          (ap (λ s. s.seen) (inv.same m)) (c.in_ok-lay_home.ensures.laid model)));
      model = λ model. inv.model (c.lay_home.ensures.model model);
      same = λ model. c.lay_home.ensures.same model ∙ inv.same (c.lay_home.ensures.model model);
      images = λ model. (
          let m = c.lay_home.ensures.model model in
          reads_joined (g.D.Disk.states c.args.disk.now) (g.D.Disk.states c.loop-k.disk) (g.D.Disk.states c.lay_home.new.disk) (inv.same m) (inv.images m) (c.lay_home.ensures.images model));
      faults = c.in_ok-lay_home.ensures.faults ∙ inv.faults;
    }
