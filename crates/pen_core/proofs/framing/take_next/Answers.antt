use Rattle.std.proofs.Common.{◌-◌, drop, refl, ap, subst, ◌∙◌, arith}
use Rattle.std.proofs.lemmas.List.{take_rest}
use Rattle.disk_core.specs.State.{now, IsImage}
use Rattle.disk_core.specs.Calls.{bytes_of}
use Rattle.disk_core.proofs.JoinedMoments.{LeavesOnly-start}
use Rattle.segment_core.specs.FrameWalk.{IsEndedBy}
use Rattle.pen_core.proofs.FrameSteps.{reads_joined, piece_same, front_of_piece, prefix_shown, further_shown}
use Rattle.pen_core.proofs.framing.take_next.Goals as goal

pub loop-piece-init : goal.loop-piece-init
loop-piece-init g c = record {
  enough = omega arith;
  walk_is = refl;
  holds = c.requires.holds;
  model = λ model. model;
  same = λ model. refl;
  images = λ model. LeavesOnly-start (g.D.Disk.states c.args.disk.now) (IsImage (now (g.D.Disk.states c.args.disk.now))) (λ image left. left);
  faults = refl;
}

pub returns-in_err-hold-clause-images : goal.returns-in_err-hold-clause-images
returns-in_err-hold-clause-images g c = λ model.
    let m = c.hold.ensures.model model in
    reads_joined (g.D.Disk.states c.args.disk.now) (g.D.Disk.states c.loop-piece.disk) (g.D.Disk.states c.hold.new.disk)
    (c.loop-piece.invariant.same m) (c.loop-piece.invariant.images m) (c.hold.ensures.images model)

pub returns-in-Ok-Closed-clause-images : goal.returns-in-Ok-Closed-clause-images
returns-in-Ok-Closed-clause-images g c = λ model.
    let m = c.hold.ensures.model model in
    reads_joined (g.D.Disk.states c.args.disk.now) (g.D.Disk.states c.loop-piece.disk) (g.D.Disk.states c.hold.new.disk)
    (c.loop-piece.invariant.same m) (c.loop-piece.invariant.images m) (c.hold.ensures.images model)

pub returns-in-Ok-Taken-clause-images : goal.returns-in-Ok-Taken-clause-images
returns-in-Ok-Taken-clause-images g c = λ model.
    let m = c.hold.ensures.model model in
    reads_joined (g.D.Disk.states c.args.disk.now) (g.D.Disk.states c.loop-piece.disk) (g.D.Disk.states c.hold.new.disk)
    (c.loop-piece.invariant.same m) (c.loop-piece.invariant.images m) (c.hold.ensures.images model)

pub returns-in-Err-clause-images : goal.returns-in-Err-clause-images
returns-in-Err-clause-images g c = λ model.
    let m = c.hold.ensures.model model in
    reads_joined (g.D.Disk.states c.args.disk.now) (g.D.Disk.states c.loop-piece.disk) (g.D.Disk.states c.hold.new.disk)
    (c.loop-piece.invariant.same m) (c.loop-piece.invariant.images m) (c.hold.ensures.images model)

pub returns-in-Ok-Closed-clause-gone : goal.returns-in-Ok-Closed-clause-gone
returns-in-Ok-Closed-clause-gone g c =
    let old = bytes_of (g.D.Disk.states c.args.disk.now) in
    let mid = bytes_of (g.D.Disk.states c.loop-piece.disk) in
    let keeps = g.D.Disk.keeps c.hold.new.disk in
    let inv = c.loop-piece.invariant in
    let holds = piece_same keeps mid old c.args.size c.hold.new.self (λ model. ap (λ s. s.seen) (inv.same (c.hold.ensures.model model))) c.in_ok-hold.ensures.holds in
    let is = take_rest c.deref.result.now (c.at-at.result - c.hold.new.self.start) ∙ ap (drop (c.at-at.result - c.hold.new.self.start)) c.deref.ensures.value in
    let gone = rw c.in-Ok-Closed.field-0-is at c.in-Ok-Closed.ensures.advanced in (
      gone.0 ∙ inv.walk_is,
      λ model. gone.1 (drop c.args.walk.now.at old)
          (prefix_shown keeps old c.args.size c.at-at.result c.min.result c.args.walk.now.at c.hold.new.self _ holds c.in_ok-hold.ensures.covers is c.at-at.ensures
          (λ m. c.requires.length (inv.model (c.hold.ensures.model m))) model),
    )

pub returns-in-Ok-Taken-clause-gone : goal.returns-in-Ok-Taken-clause-gone
returns-in-Ok-Taken-clause-gone g c =
    let old = bytes_of (g.D.Disk.states c.args.disk.now) in
    let mid = bytes_of (g.D.Disk.states c.loop-piece.disk) in
    let keeps = g.D.Disk.keeps c.hold.new.disk in
    let inv = c.loop-piece.invariant in
    let at = c.at-at.result in
    let walk = c.args.walk.now in
    let holds = piece_same keeps mid old c.args.size c.hold.new.self (λ model. ap (λ s. s.seen) (inv.same (c.hold.ensures.model model))) c.in_ok-hold.ensures.holds in
    let is = take_rest c.deref.result.now (at - c.hold.new.self.start) ∙ ap (drop (at - c.hold.new.self.start)) c.deref.ensures.value in
    let gone = rw c.in-Ok-Taken.field-0-is at c.in-Ok-Taken.ensures.advanced in
    further_shown keeps old c.args.size at c.min.result c.hold.new.self walk c.advance.new.self gone inv.walk_is c.at-at.ensures c.requires.on_way.inside c.in-Ok-Taken.ensures.shape
    holds c.in_ok-hold.ensures.covers is (λ m. c.requires.length (inv.model (c.hold.ensures.model m)))

pub loop-piece-preserved : goal.loop-piece-preserved
loop-piece-preserved g c =
    let old = bytes_of (g.D.Disk.states c.args.disk.now) in
    let mid = bytes_of (g.D.Disk.states c.loop-piece.disk) in
    let keeps = g.D.Disk.keeps c.hold.new.disk in
    let inv = c.loop-piece.invariant in
    let at = c.at-at.result in
    let holds = piece_same keeps mid old c.args.size c.hold.new.self (λ model. ap (λ s. s.seen) (inv.same (c.hold.ensures.model model))) c.in_ok-hold.ensures.holds in
    let is = take_rest c.deref.result.now (at - c.hold.new.self.start) ∙ ap (drop (at - c.hold.new.self.start)) c.deref.ensures.value in
    let front = front_of_piece keeps old c.args.size at c.min.result c.hold.new.self _ holds c.in_ok-hold.ensures.covers is in
    let gone = rw c.in-Ok-Needs.field-0-is at c.in-Ok-Needs.ensures.advanced in
    let long = front.long in
    let enough = inv.enough in
    let least = c.min.ensures in
    record {
      enough = omega (arith, gone.1, gone.2);
      walk_is = gone.0 ∙ inv.walk_is;
      holds = holds;
      model = λ model. inv.model (c.hold.ensures.model model);
      same = λ model. c.hold.ensures.same model ∙ inv.same (c.hold.ensures.model model);
      images = λ model. (
          let m = c.hold.ensures.model model in
          reads_joined (g.D.Disk.states c.args.disk.now) (g.D.Disk.states c.loop-piece.disk) (g.D.Disk.states c.hold.new.disk) (inv.same m) (inv.images m) (c.hold.ensures.images model));
      faults = c.in_ok-hold.ensures.faults ∙ inv.faults;
    }

pub returns-in-Err-clause-stopped : goal.returns-in-Err-clause-stopped
returns-in-Err-clause-stopped g c = λ model.
    let old = bytes_of (g.D.Disk.states c.args.disk.now) in
    let mid = bytes_of (g.D.Disk.states c.loop-piece.disk) in
    let keeps = g.D.Disk.keeps c.hold.new.disk in
    let inv = c.loop-piece.invariant in
    let at = c.at-at.result in
    let holds = piece_same keeps mid old c.args.size c.hold.new.self (λ model. ap (λ s. s.seen) (inv.same (c.hold.ensures.model model))) c.in_ok-hold.ensures.holds in
    let is = take_rest c.deref.result.now (at - c.hold.new.self.start) ∙ ap (drop (at - c.hold.new.self.start)) c.deref.ensures.value in
    subst (λ w. IsEndedBy w (drop c.args.walk.now.at old) c.in-Err.fault) inv.walk_is
    (c.in-Err.ensures.ended (drop c.args.walk.now.at old)
    (prefix_shown keeps old c.args.size at c.min.result c.args.walk.now.at c.hold.new.self _ holds c.in_ok-hold.ensures.covers is c.at-at.ensures
    (λ m. c.requires.length (inv.model (c.hold.ensures.model m))) model))
