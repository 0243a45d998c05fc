use Rattle.std.proofs.Common.{take, inl, inr, refl, sym, ap, subst, arith}
use Rattle.pen_core.specs.Pen.{IsReadyToFold}
use Rattle.flush_core.specs.Flusher.{IsFlusherOf, read_as}
use Rattle.flush_core.proofs.PiecesHeld.{length-pieces, vector-pieces}
use Rattle.flush_core.proofs.Stands.{FileStands-fold, FileStands-unchanged, IsUnchanged-refl, Stands-pass, Stands-pen}
use Rattle.flush_core.proofs.flusher.Flusher.begin_fold.Goals as goal

pub begin_fold-requires-clause-all : goal.begin_fold-requires-clause-all
begin_fold-requires-clause-all g c κs within =
    let of = subst (λ v. IsFlusherOf (g.D.Disk.keeps v.pen.disk) c.args.live.now v) (sym c.self.view_is) c.requires.of in
    let long = length-pieces c.self.invariant.0 of c.as_slice.ensures.value c.in-Ok.ensures.pieces in
    omega arith

pub begin_fold-requires-clause-values : goal.begin_fold-requires-clause-values
begin_fold-requires-clause-values g c κs within =
    let of = subst (λ v. IsFlusherOf (g.D.Disk.keeps v.pen.disk) c.args.live.now v) (sym c.self.view_is) c.requires.of in
    vector-pieces c.self.invariant.0 of c.as_slice.ensures.value c.in-Ok.ensures.pieces

pub returns-in-Err : goal.returns-in-Err
returns-in-Err g c =
    rw (← c.self.view_is) (record {
      begun = tt;
      plans = λ _. tt;
      refused = inl c.in-Err.ensures.refused;
      unchanged = IsUnchanged-refl c.self.inside.pen;
      same = (refl, refl, refl, refl, refl);
      opening = refl;
    })

pub returns-in_default : goal.returns-in_default
returns-in_default g c =
    rw (← c.self.view_is) (record {
      begun = tt;
      plans = λ _. tt;
      refused = inr (refl, subst (IsReadyToFold c.self.inside.pen) c.in-Ok-true.field-0-test c.in-Ok-true.ensures.ready);
      unchanged = IsUnchanged-refl c.self.inside.pen;
      same = (c.pieces_to.ensures.same, refl, refl, refl, refl);
      opening = refl;
    })

pub returns-in-Ok-begin_fold : goal.returns-in-Ok-begin_fold
returns-in-Ok-begin_fold g c =
    let e = c.in-Ok-begin_fold.ensures in
    rw (← c.self.view_is) (record {
      begun = e.begun;
      plans = e.plans;
      refused = tt;
      unchanged = tt;
      same = (c.in-Ok.ensures.same, refl, refl, refl, refl);
      opening = ap (λ cells. read_as g.R.Record.form (take c.self.inside.before cells)) (FileStands-fold c.in-Ok-begin_fold.begun e.begun).vector_same;
    })

pub returns : goal.returns
returns g c =
    let e = c.in-Err-begin_fold.ensures in
    rw (← c.self.view_is) (record {
      begun = tt;
      plans = λ _. tt;
      refused = e.refused;
      unchanged = e.unchanged;
      same = (c.in-Ok.ensures.same, refl, refl, refl, refl);
      opening = ap (λ cells. read_as g.R.Record.form (take c.self.inside.before cells)) e.unchanged.file_same.vector_same;
    })

pub invariant_of-self : goal.invariant_of-self
invariant_of-self g c = Stands-pass g.D.Disk.keeps g.D.Disk.states c.self.invariant c.pieces_to.new.pass c.pieces_to.ensures.same

pub invariant_of-self-in-Ok-begin_fold : goal.invariant_of-self-in-Ok-begin_fold
invariant_of-self-in-Ok-begin_fold g c =
    let file = FileStands-fold c.in-Ok-begin_fold.begun c.in-Ok-begin_fold.ensures.begun in
    let pen = Stands-pen g.D.Disk.keeps g.D.Disk.states c.self.invariant c.begin_fold.new.self file in
    Stands-pass g.D.Disk.keeps g.D.Disk.states pen c.pieces_to.new.pass c.in-Ok.ensures.same

pub invariant_of-self-2 : goal.invariant_of-self-2
invariant_of-self-2 g c =
    let pen = Stands-pen g.D.Disk.keeps g.D.Disk.states c.self.invariant c.begin_fold.new.self (FileStands-unchanged c.in-Err-begin_fold.ensures.unchanged) in
    Stands-pass g.D.Disk.keeps g.D.Disk.states pen c.pieces_to.new.pass c.in-Ok.ensures.same
