use Rattle.std.proofs.Common.{◌≡◌, ◌≤◌, sym, ap, subst, ◌∙◌}
use Rattle.disk_core.specs.Fault.{CountsFailures}
use Rattle.pen_core.specs.PenOf.{PenOf}
use Rattle.book_core.specs.declared.mark.Reading.{Reading}
use Rattle.book_core.specs.Marks.{MarkEnd}
use Rattle.flush_core.specs.Flusher.{FlusherOf, ToldIsLeft}
use Rattle.flush_core.specs.Refusals.{failed}
use Rattle.flush_core.specs.Serving.{Serves}
use Rattle.flush_core.proofs.Goes.{Serves-told, Serves-raised, IsFlusherOf-served, pen-told, raised_mark}
use Rattle.flush_core.proofs.ServeFaults.{IsServeFault-told}
use Rattle.flush_core.proofs.Stands.{Stands-set}
use Rattle.flush_core.proofs.flusher.Flusher.serve.Given.{Over}
use Rattle.flush_core.proofs.flusher.Flusher.serve.Goals.{in-Ok, in-Err}
use Rattle.flush_core.proofs.flusher.Flusher.serve.Goals as goal

-- the stretch up to its end
served : (g : Over) (c : goal.After-disk-disk g) → Serves g.R.Record.form g.D.Disk.keeps g.D.Disk.states c.args.self.now c.match-served.self
served g c =
    let raised = Serves-raised c.serve_all-served.ensures.serves c.raise.ensures.raised in
    let of = IsFlusherOf-served raised c.requires.of in
    let set = λ (mark : MarkEnd). ap (λ (f : FlusherOf g.row.R.Denot g.row.D.Denot). record f { mark = mark }) c.self.view_is in
    elim c.match-served.branch [
      | in-Ok w ↦
          let mark = w.set_ended.new.self in
          Serves-told mark raised (w.set_ended.ensures.of ∙ w.mark.ensures ∙ sym of.mark) (w.self-is ∙ set mark)
      | in-Err w ↦
          let mark = w.set_broken.new.self in
          Serves-told mark raised (w.set_broken.ensures.of ∙ w.mark-in-Err.ensures ∙ sym of.mark) (w.self-is ∙ set mark)
    ]

-- raising and setting the mark makes no call
same_pen : (g : Over) (c : goal.After-disk-disk g) → c.match-served.self.pen ≡ c.serve_all-served.new.self.pen
same_pen g c =
    let raised = pen-told c.serve_all-served.new.self c.raise.new.self (raised_mark g.D.Disk.states c.serve_all-served.new.self) c.raise.ensures.raised in
    let pen = ap (λ (f : FlusherOf g.row.R.Denot g.row.D.Denot). f.pen) c.self.view_is ∙ raised in
    elim c.match-served.branch [
      | in-Ok w ↦ ap (λ (f : FlusherOf g.row.R.Denot g.row.D.Denot). f.pen) w.self-is ∙ pen
      | in-Err w ↦ ap (λ (f : FlusherOf g.row.R.Denot g.row.D.Denot). f.pen) w.self-is ∙ pen
    ]

pub returns-clause-goes_on : goal.returns-clause-goes_on
returns-clause-goes_on g c = (served g c).goes_on

pub returns-clause-images : goal.returns-clause-images
returns-clause-images g c = (served g c).images

pub returns-clause-fold : goal.returns-clause-fold
returns-clause-fold g c = (served g c).fold

pub returns-clause-model : goal.returns-clause-model
returns-clause-model g c = (served g c).model

pub returns-clause-told : goal.returns-clause-told
returns-clause-told g c =
    let left = λ (d : g.row.D.Denot). g.D.Disk.keeps d → ToldIsLeft g.R.Record.form (g.D.Disk.states d) c.match-served.self c.match-served.self.mark.raises in
    subst left c.disk-disk.ensures.disk c.disk-disk.ensures.told

pub returns-clause-faults : goal.returns-clause-faults
returns-clause-faults g c =
    let counts = λ (p : PenOf g.row.D.Denot). CountsFailures failed (g.D.Disk.faults c.args.self.now.pen.disk) (g.D.Disk.faults p.disk) c.serve_all-served.result in
    subst counts (sym (same_pen g c)) c.serve_all-served.ensures.faults

pub returns-clause-refused : goal.returns-clause-refused
returns-clause-refused g c =
    let width = g.R.Record.form.width in
    let served = c.serve_all-served.result in
    let raised = IsServeFault-told width c.args.self.now c.serve_all-served.new.self c.raise.new.self (raised_mark g.D.Disk.states c.serve_all-served.new.self) served
    c.raise.ensures.raised c.serve_all-served.ensures.refused in
    let set = λ (mark : MarkEnd). ap (λ (f : FlusherOf g.row.R.Denot g.row.D.Denot). record f { mark = mark }) c.self.view_is in
    elim c.match-served.branch [
      | in-Ok w ↦
          let mark = w.set_ended.new.self in
          IsServeFault-told width c.args.self.now c.raise.new.self c.match-served.self mark served (w.self-is ∙ set mark) raised
      | in-Err w ↦
          let mark = w.set_broken.new.self in
          IsServeFault-told width c.args.self.now c.raise.new.self c.match-served.self mark served (w.self-is ∙ set mark) raised
    ]

pub invariant_of-self : goal.invariant_of-self
invariant_of-self g c =
    let s = c.self.inside in
    let e = c.set_ended.ensures in
    Stands-set g.D.Disk.keeps g.D.Disk.states c.self.invariant c.set_ended.new.self e.raises
    (subst (λ (r : Reading). r.count ≤ s.settled) (sym e.told) c.self.invariant.0.told_settled)

pub invariant_of-self-in-Err : goal.invariant_of-self-in-Err
invariant_of-self-in-Err g c =
    let s = c.self.inside in
    let e = c.set_broken.ensures in
    Stands-set g.D.Disk.keeps g.D.Disk.states c.self.invariant c.set_broken.new.self e.raises
    (subst (λ (r : Reading). r.count ≤ s.settled) (sym e.told) c.self.invariant.0.told_settled)

pub raise-requires-clause-of : goal.raise-requires-clause-of
raise-requires-clause-of g c κs within = IsFlusherOf-served c.serve_all-served.ensures.serves c.requires.of
