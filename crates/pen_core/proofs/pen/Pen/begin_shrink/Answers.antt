use Rattle.std.proofs.lemmas.Grind.{common_steps}
use Rattle.std.proofs.Common.{◌≡◌, Result, Ok, Err, OnOk, false, refl, sym, ap, subst, ◌∙◌, arith}
use Rattle.std.specs.Result.{is_err}
use Rattle.std.proofs.lemmas.List.{append-nil}
use Rattle.disk_core.specs.Calls.{bytes_of}
use Rattle.segment_core.specs.Frame.{Shrink}
use Rattle.segment_core.specs.Parsed.{vector_before}
use Rattle.segment_core.specs.Raw.{after_frame}
use Rattle.pen_core.specs.InHand.{fold_of}
use Rattle.pen_core.specs.Refusals.{is_full, fold_len}
use Rattle.pen_core.proofs.AtRest.{at_rest}
use Rattle.pen_core.proofs.Begins.{idle_seen, all_fits, shrink_framed, shrink_follows}
use Rattle.pen_core.proofs.FrameBegun.{Begins, begun_frame, pen_begun, begun_seen, unchanged_seen, begun_as, unchanged_as}
use Rattle.pen_core.proofs.KeptPen.{none_job, kept_begun, kept_unchanged}
use Rattle.pen_core.proofs.pen.Pen.begin_shrink.Given.{Over}
use Rattle.pen_core.proofs.pen.Pen.begin_shrink.Goals.{Else-is_err}
use Rattle.pen_core.proofs.pen.Pen.begin_shrink.Goals as goal

on_ok : {A E P : Type 0} (r : Result A E) → is_err r ≡ false → OnOk r P → P
on_ok (Ok value) is p = p
on_ok (Err error) is p = absurd cc

-- what the begin rests on once memory was taken
begins : (g : Over) (c : Else-is_err g)
    → Begins g.D.Disk.keeps g.D.Disk.states c.self.inside
    (record c.self.inside { next = record c.self.inside.tally { size = c.args.n }; bytes = c.put_shrink.new.bytes }) (Shrink c.args.n)
begins g c =
    let s = c.self.inside in
    let n = c.args.n in
    record {
      sound = c.self.invariant;
      going = subst (λ v. v.broken ≡ false) (sym c.self.view_is) c.in_ok-ready.ensures.whole;
      idle = idle_seen g.D.Disk.states s c.self.view_is c.in_ok-ready.ensures.idle;
      reads = g.met.D.Disk.reads_an_image;
      spelled = on_ok c.put_shrink.result (sym c.is_err.ensures.value ∙ c.if-is_err.false) c.put_shrink.ensures.text s.shape.format;
      framed = shrink_framed s.shape n c.self.invariant.job.wide.0 c.ranges.n.fits;
      follows = shrink_follows s.tally n c.if-n-self.false c.if-self.false;
      counted = refl;
      no_fold = λ count is. absurd cc;
      room = all_fits c.is_full.result s.gate 8 (fold_len (fold_of s.fold))
          (c.is_full.ensures ∙ ap (λ v. is_full v 8) (sym c.self.view_is)) c.if-is_full.false;
      homes_more = sym (append-nil s.homes.homes.items);
      runs_more = sym (append-nil s.homes.live.items);
    }

pub invariant_of-self : goal.invariant_of-self
invariant_of-self g c =
    let s = c.self.inside in
    at_rest c.self.invariant (record s { bytes = c.put_shrink.new.bytes })
    (idle_seen g.D.Disk.states s c.self.view_is c.in_ok-ready.ensures.idle) refl refl

pub invariant_of-self-2 : goal.invariant_of-self-2
invariant_of-self-2 g c = pen_begun (begins g (goal.at.invariant_of-self-2 g c).Else-is_err)

pub returns-clause-begun : goal.returns-clause-begun
returns-clause-begun g c = begun_as c.self.view_is (begun_seen (begins g (goal.at.returns-clause-begun g c).Else-is_err))

pub returns-clause-vector : goal.returns-clause-vector
returns-clause-vector g c = rw (← c.self.view_is) (
    let s = c.self.inside in
    ap (λ f. after_frame s.shape.width (vector_before s.shape s.gate (bytes_of (g.D.Disk.states s.disk))) f)
    (begun_frame (begins g (goal.at.returns-clause-vector g c).Else-is_err)))

pub returns-then-is_err-clause-unchanged : goal.returns-then-is_err-clause-unchanged
returns-then-is_err-clause-unchanged g c =
    let s = c.self.inside in
    unchanged_as c.self.view_is (unchanged_seen g.D.Disk.states s (record s { bytes = c.put_shrink.new.bytes })
    (idle_seen g.D.Disk.states s c.self.view_is c.in_ok-ready.ensures.idle))

pub returns-then-is_err-clause-kept : goal.returns-then-is_err-clause-kept
returns-then-is_err-clause-kept g c =
    kept_unchanged g.D.Disk.keeps g.D.Disk.states c.args.self.now _ c.ready.ensures.kept
    (returns-then-is_err-clause-unchanged g c)

pub returns-clause-kept : goal.returns-clause-kept
returns-clause-kept g c =
    kept_begun g.D.Disk.keeps g.D.Disk.states c.args.self.now _ c.ready.ensures.kept (Shrink c.args.n)
    (none_job c.args.self.now c.in_ok-ready.ensures.idle) (returns-clause-begun g c)

pub returns-then-n-self-clause-refused : goal.returns-then-n-self-clause-refused
returns-then-n-self-clause-refused g c = grind (arith, common_steps)
