use Rattle.std.proofs.Common.{◌≡◌, ℕ, List, true, drop, refl, sym, ap, subst, ◌∙◌}
use Rattle.std.proofs.lemmas.Result.{err_from_is_err_and}
use Rattle.disk_core.specs.State.{now, IsImage}
use Rattle.disk_core.specs.Calls.{bytes_of}
use Rattle.disk_core.proofs.JoinedMoments.{LeavesOnly-start}
use Rattle.segment_core.specs.declared.format.Shape.{Shape}
use Rattle.segment_core.specs.Fault.{IsSound, is_closed}
use Rattle.segment_core.specs.Raw.{raw}
use Rattle.pen_core.specs.Opening.{IsOpenRefusal}
use Rattle.pen_core.specs.Framing.{IsFurther, StopsWalk, IsThrough}
use Rattle.pen_core.proofs.FrameSteps.{reads_joined, piece_same, on_way_more, further_same, through_by, refused_by_stop}
use Rattle.pen_core.proofs.framing.walk_frames.Goals as goal

pub loop-walk-init : goal.loop-walk-init
loop-walk-init g c = record {
  shape_is = refl;
  on_way = c.requires.on_way;
  holds = c.requires.holds;
  model = λ model. model;
  same = λ model. refl;
  images = λ model. LeavesOnly-start (g.D.Disk.states c.args.disk.now) (IsImage (now (g.D.Disk.states c.args.disk.now))) (λ image left. left);
  faults = refl;
}

pub returns-in_err-take_next-clause-images : goal.returns-in_err-take_next-clause-images
returns-in_err-take_next-clause-images g c = λ model.
    let m = c.take_next.ensures.model model in
    reads_joined (g.D.Disk.states c.args.disk.now) (g.D.Disk.states c.loop-walk.disk) (g.D.Disk.states c.take_next.new.disk)
    (c.loop-walk.invariant.same m) (c.loop-walk.invariant.images m) (c.take_next.ensures.images model)

pub returns-clause-images : goal.returns-clause-images
returns-clause-images g c = λ model.
    let m = c.take_next.ensures.model model in
    reads_joined (g.D.Disk.states c.args.disk.now) (g.D.Disk.states c.loop-walk.disk) (g.D.Disk.states c.take_next.new.disk)
    (c.loop-walk.invariant.same m) (c.loop-walk.invariant.images m) (c.take_next.ensures.images model)

pub returns-in_err-take_next-clause-refused : goal.returns-in_err-take_next-clause-refused
returns-in_err-take_next-clause-refused g c = λ model.
    let m = c.take_next.ensures.model model in
    let inv = c.loop-walk.invariant in
    let old = bytes_of (g.D.Disk.states c.args.disk.now) in
    let seen = ap (λ s. s.seen) (inv.same m) in
    let walk = c.loop-walk.walk in
    let sound : IsSound walk.shape.width walk.shape.format old = subst (λ (s : Shape). IsSound s.width s.format old) (sym inv.shape_is) (c.requires.sound (inv.model m)) in
    let p = err_from_is_err_and c.from_residual.result c.from_residual.ensures.1 in
    rw (p.1, p.2)
    (subst (λ (s : Shape). IsOpenRefusal (raw s.width) old c.in_err-take_next.field-0.0) inv.shape_is
    (refused_by_stop (g.D.Disk.keeps c.loop-walk.disk) old c.args.size walk c.in_err-take_next.field-0.0 m inv.on_way sound
    (subst (λ (bs : List ℕ). StopsWalk walk bs c.in_err-take_next.field-0.0) seen (c.in_err-take_next.ensures.stopped model))))

pub loop-walk-preserved : goal.loop-walk-preserved
loop-walk-preserved g c =
    let inv = c.loop-walk.invariant in
    let old = bytes_of (g.D.Disk.states c.args.disk.now) in
    let mid = bytes_of (g.D.Disk.states c.loop-walk.disk) in
    let keeps = g.D.Disk.keeps c.take_next.new.disk in
    let seen : (model : keeps) → mid ≡ old = λ model. ap (λ s. s.seen) (inv.same (c.take_next.ensures.model model)) in
    let gone = rw c.if-branch.true at c.in_ok-take_next.ensures.gone in
    let further : IsFurther keeps old c.args.size c.loop-walk.walk c.take_next.new.walk = further_same keeps mid old c.args.size c.loop-walk.walk c.take_next.new.walk seen gone in
    record {
      shape_is = further.shape_is ∙ inv.shape_is;
      on_way = on_way_more (g.D.Disk.keeps c.loop-walk.disk) keeps old c.args.size c.loop-walk.walk c.take_next.new.walk c.take_next.ensures.model inv.on_way further;
      holds = piece_same keeps mid old c.args.size c.take_next.new.piece seen c.in_ok-take_next.ensures.holds;
      model = λ model. inv.model (c.take_next.ensures.model model);
      same = λ model. c.take_next.ensures.same model ∙ inv.same (c.take_next.ensures.model model);
      images = λ model. (
          let m = c.take_next.ensures.model model in
          reads_joined (g.D.Disk.states c.args.disk.now) (g.D.Disk.states c.loop-walk.disk) (g.D.Disk.states c.take_next.new.disk) (inv.same m) (inv.images m) (c.take_next.ensures.images model));
      faults = c.in_ok-take_next.ensures.faults ∙ inv.faults;
    }

pub returns-clause-through : goal.returns-clause-through
returns-clause-through g c =
    let inv = c.loop-walk.invariant in
    let old = bytes_of (g.D.Disk.states c.args.disk.now) in
    let keeps = g.D.Disk.keeps c.take_next.new.disk in
    let walk = c.loop-walk.walk in
    let gone = rw c.if-branch.false at c.in_ok-take_next.ensures.gone in
    let through : IsThrough keeps old c.args.size walk
    = through_by (g.D.Disk.keeps c.loop-walk.disk) keeps old c.args.size walk c.take_next.ensures.model inv.on_way
    (λ model. subst (λ (bs : List ℕ). is_closed (drop walk.at bs) ≡ true) (ap (λ s. s.seen) (inv.same (c.take_next.ensures.model model))) (gone.1 model)) in (
      ap (λ w. w.shape) gone.0 ∙ inv.shape_is,
      subst (IsThrough keeps old c.args.size) (sym gone.0) through,
    )
