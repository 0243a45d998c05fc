use Rattle.std.proofs.Common.{◌+◌, ◌≤◌, ◌<◌, ◌++◌, length, take, inl, inr, refl, sym, ap, subst, ◌∙◌, arith}
use Rattle.std.specs.List.{AllByRecursion}
use Rattle.std.proofs.lemmas.List.{length-map, length-take-le}
use Rattle.record_core.proofs.Lists.{AllByRecursion-take}
use Rattle.segment_core.specs.Raw.{AreCellsOf}
use Rattle.segment_core.specs.Shape.{limit_of}
use Rattle.segment_core.specs.Written.{joined, group_frame, payload_len}
use Rattle.pen_core.specs.Pen.{BeginsFrame, vector_after}
use Rattle.pen_core.specs.Refusals.{IsRefusal, group_lines, is_full}
use Rattle.directory_core.specs.Known.{Known}
use Rattle.flush_core.specs.Flusher.{HasTold, IsFlusher, flusher_of, read_as}
use Rattle.flush_core.specs.Group.{IsGreatest}
use Rattle.flush_core.proofs.Next.{from_on, row_is}
use Rattle.flush_core.proofs.Goes.{FlusherGoesOn-same}
use Rattle.flush_core.proofs.Told.{HasTold-on}
use Rattle.flush_core.proofs.Stands.{FileStands-unchanged, IsUnchanged-refl, Stands-pass, Stands-pen}
use Rattle.flush_core.proofs.Taken.{idle_is, size_in_limit, taken_kept, taken_within, only_memory, full_refused, memory_refused}
use Rattle.flush_core.proofs.flusher.Flusher.take_group.Goals as goal

pub returns-in-Err : goal.returns-in-Err
returns-in-Err g c =
    rw (← c.self.view_is) (record {
      taken = tt;
      greatest = tt;
      some = tt;
      begun = tt;
      none = tt;
      room = tt;
      idle = tt;
      same = (refl, refl, refl, refl);
      opening = refl;
      refused = inl c.in-Err.ensures.refused;
      unchanged = (IsUnchanged-refl c.self.inside.pen, refl);
    })

pub returns-then-group-eq0 : goal.returns-then-group-eq0
returns-then-group-eq0 g c =
    let s = c.self.inside in
    let n = c.next_group-group.result.count in
    let growths = from_on s.taken s.pass.entries in
    let limit = c.payload_limit-limit.ensures.is ∙ ap limit_of c.format.ensures in
    let greatest = subst (λ l. IsGreatest g.R.Record.form.width l growths n) limit c.next_group-group.ensures.greatest in
    let few = c.next_group-group.ensures.some in
    let none = c.if-group-eq0.true in
    rw (← c.self.view_is) (record {
      taken = omega arith;
      greatest = subst (IsGreatest g.R.Record.form.width (limit_of s.pen.shape.format) growths) none greatest;
      some = λ more. omega arith;
      begun = λ some. absurd (omega arith);
      none = λ _. ap (λ p. flusher_of g.R.Record.form s.pen p s.mark s.before s.taken s.settled) c.next_group-group.ensures.same;
      room = λ some. absurd (omega arith);
      idle = c.in_default.ensures.allowed;
      same = (c.next_group-group.ensures.same, refl, refl, refl);
      opening = refl;
      refused = tt;
      unchanged = tt;
    })

pub returns-then-is_full : goal.returns-then-is_full
returns-then-is_full g c =
    let s = c.self.inside in
    let n = c.next_group-group.result.count in
    let growths = from_on s.taken s.pass.entries in
    let limit = c.payload_limit-limit.ensures.is ∙ ap limit_of c.format.ensures in
    let greatest = subst (λ l. IsGreatest g.R.Record.form.width l growths n) limit c.next_group-group.ensures.greatest in
    rw (← c.self.view_is) (record {
      taken = tt;
      greatest = tt;
      some = tt;
      begun = tt;
      none = tt;
      room = tt;
      idle = tt;
      same = (c.next_group-group.ensures.same, refl, refl, refl);
      opening = refl;
      refused = inr (record {
        count = n;
        greatest = greatest;
        some = let not_none = c.if-group-eq0.false in omega arith;
        ready = c.in_default.ensures.allowed;
        why = full_refused (is_full s.pen (payload_len g.R.Record.form.width (take n growths)))
            (ap (is_full s.pen) (sym c.next_group-group.ensures.payload) ∙ sym c.is_full.ensures ∙ c.if-is_full.true);
      });
      unchanged = (IsUnchanged-refl c.self.inside.pen, refl);
    })

pub returns-in_default-next_growths : goal.returns-in_default-next_growths
returns-in_default-next_growths g c =
    let s = c.self.inside in
    let n = c.next_group-group.result.count in
    let growths = from_on s.taken s.pass.entries in
    let limit = c.payload_limit-limit.ensures.is ∙ ap limit_of c.format.ensures in
    let greatest = subst (λ l. IsGreatest g.R.Record.form.width l growths n) limit c.next_group-group.ensures.greatest in
    rw (← c.self.view_is) (record {
      taken = tt;
      greatest = tt;
      some = tt;
      begun = tt;
      none = tt;
      room = tt;
      idle = tt;
      same = (c.next_growths.ensures.same ∙ c.next_group-group.ensures.same, refl, refl, refl);
      opening = refl;
      refused = inr (record {
        count = n;
        greatest = greatest;
        some = let not_none = c.if-group-eq0.false in omega arith;
        ready = c.in_default.ensures.allowed;
        why = memory_refused (is_full s.pen (payload_len g.R.Record.form.width (take n growths))) _
            (ap (is_full s.pen) (sym c.next_group-group.ensures.payload) ∙ sym c.is_full.ensures ∙ c.if-is_full.false) refl;
      });
      unchanged = (IsUnchanged-refl c.self.inside.pen, refl);
    })

pub begin_group-requires-clause-some : goal.begin_group-requires-clause-some
begin_group-requires-clause-some g c κs within =
    let s = c.self.inside in
    let n = c.next_group-group.result.count in
    let growths = from_on s.taken s.pass.entries in
    let row = row_is s.pass.entries s.taken c.next_group-group.new.pass.entries c.as_slice.result.now c.in-Ok.row.items n
    (ap (λ p. p.entries) c.next_group-group.ensures.same) c.as_slice.ensures.value c.in-Ok.ensures.growths in
    let many = ap length row in
    let all = length-map c.as_slice.result.now (λ growth. growth.now) in
    let first = length-take-le n growths c.next_group-group.ensures.greatest.there in
    let not_none = c.if-group-eq0.false in
    omega arith

pub begin_group-requires-clause-each : goal.begin_group-requires-clause-each
begin_group-requires-clause-each g c κs within =
    let s = c.self.inside in
    let n = c.next_group-group.result.count in
    let row = row_is s.pass.entries s.taken c.next_group-group.new.pass.entries c.as_slice.result.now c.in-Ok.row.items n
    (ap (λ p. p.entries) c.next_group-group.ensures.same) c.as_slice.ensures.value c.in-Ok.ensures.growths in
    subst (AllByRecursion (λ growth. 0 < length growth)) (sym row)
    (AllByRecursion-take (λ growth. 0 < length growth) n (from_on s.taken s.pass.entries) c.next_group-group.ensures.filled)

pub returns-in-Err-begin_group : goal.returns-in-Err-begin_group
returns-in-Err-begin_group g c =
    let s = c.self.inside in
    let n = c.next_group-group.result.count in
    let growths = from_on s.taken s.pass.entries in
    let width = g.R.Record.form.width in
    let limit = c.payload_limit-limit.ensures.is ∙ ap limit_of c.format.ensures in
    let greatest = subst (λ l. IsGreatest width l growths n) limit c.next_group-group.ensures.greatest in
    let row = row_is s.pass.entries s.taken c.next_group-group.new.pass.entries c.as_slice.result.now c.in-Ok.row.items n
    (ap (λ p. p.entries) c.next_group-group.ensures.same) c.as_slice.ensures.value c.in-Ok.ensures.growths in
    let room = ap (is_full s.pen) (sym c.next_group-group.ensures.payload) ∙ sym c.is_full.ensures ∙ c.if-is_full.false in
    let idle = idle_is s.pen.job c.in_default.ensures.idle in
    let short = size_in_limit c.self.invariant.0 idle n greatest.there c.next_group-group.ensures.bounds.1 in
    let fault = c.in-Err-begin_group.fault in
    let refused = subst (λ gs. IsRefusal (group_lines s.pen (length (joined gs)) (payload_len width gs)) fault) row c.in-Err-begin_group.ensures.refused in
    rw (← c.self.view_is) (record {
      taken = tt;
      greatest = tt;
      some = tt;
      begun = tt;
      none = tt;
      room = tt;
      idle = tt;
      same = (c.in-Ok.ensures.same ∙ c.next_group-group.ensures.same, refl, refl, refl);
      opening = ap (λ cells. read_as g.R.Record.form (take s.before cells)) c.in-Err-begin_group.ensures.unchanged.file_same.vector_same;
      refused = inr (record {
        count = n;
        greatest = greatest;
        some = let not_none = c.if-group-eq0.false in omega arith;
        ready = c.in_default.ensures.allowed;
        why = memory_refused (is_full s.pen (payload_len width (take n growths))) fault room
            (only_memory s.pen (length (joined (take n growths))) (payload_len width (take n growths)) fault
            c.in_default.ensures.whole c.in_default.ensures.idle short greatest.fits room refused);
      });
      unchanged = (c.in-Err-begin_group.ensures.unchanged, refl);
    })

pub invariant_of-self-2 : goal.invariant_of-self-2
invariant_of-self-2 g c =
    let s = c.self.inside in
    let n = c.next_group-group.result.count in
    let form = g.R.Record.form in
    let growths = from_on s.taken s.pass.entries in
    let pen = c.begin_group.new.self in
    let row = row_is s.pass.entries s.taken c.next_group-group.new.pass.entries c.as_slice.result.now c.in-Ok.row.items n
    (ap (λ p. p.entries) c.next_group-group.ensures.same) c.as_slice.ensures.value c.in-Ok.ensures.growths in
    let begun = subst (λ gs. BeginsFrame (group_frame form gs) s.pen pen) row c.in_default-begin_group.ensures.begun in
    let new = flusher_of form pen s.pass s.mark s.before (s.taken + n) s.settled in
    let back = subst g.D.Disk.keeps begun.disk_same in
    let goes = FlusherGoesOn-same (g.D.Disk.keeps pen.disk) (flusher_of form s.pen s.pass s.mark s.before s.taken s.settled) new refl refl refl (omega arith) (omega arith)
    (λ _. ap (λ cells. read_as form (take s.before cells)) begun.file_same.vector_same) in
    subst (λ pass. IsFlusher (g.D.Disk.keeps pen.disk) form (flusher_of form pen pass s.mark s.before (s.taken + n) s.settled)
    × HasTold (g.D.Disk.keeps pen.disk) (g.D.Disk.states pen.disk) form (flusher_of form pen pass s.mark s.before (s.taken + n) s.settled))
    (sym (c.in-Ok.ensures.same ∙ c.next_group-group.ensures.same)) (
      taken_kept c.self.invariant.0 (idle_is s.pen.job c.in_default.ensures.idle) n c.next_group-group.ensures.greatest.there
          pen (g.D.Disk.keeps pen.disk) begun back
          (λ records are. subst (λ gs. AreCellsOf form (vector_after pen) (records ++ joined gs)) row (c.in_default-begin_group.ensures.next records are)),
      HasTold-on c.self.invariant.1 (g.D.Disk.keeps pen.disk) (g.D.Disk.states pen.disk) new (ap g.D.Disk.states begun.disk_same) back goes refl,
    )

pub returns : goal.returns
returns g c =
    let s = c.self.inside in
    let n = c.next_group-group.result.count in
    let growths = from_on s.taken s.pass.entries in
    let limit = c.payload_limit-limit.ensures.is ∙ ap limit_of c.format.ensures in
    let greatest = subst (λ l. IsGreatest g.R.Record.form.width l growths n) limit c.next_group-group.ensures.greatest in
    let row = row_is s.pass.entries s.taken c.next_group-group.new.pass.entries c.as_slice.result.now c.in-Ok.row.items n
    (ap (λ p. p.entries) c.next_group-group.ensures.same) c.as_slice.ensures.value c.in-Ok.ensures.growths in
    let begun = subst (λ gs. BeginsFrame (group_frame g.R.Record.form gs) s.pen c.begin_group.new.self) row c.in_default-begin_group.ensures.begun in
    let not_none = c.if-group-eq0.false in
    rw (← c.self.view_is) (record {
      taken = refl;
      greatest = greatest;
      some = λ more. omega arith;
      begun = λ some. begun;
      none = λ none. absurd (omega arith);
      room = λ some. ap (is_full s.pen) (sym c.next_group-group.ensures.payload) ∙ sym c.is_full.ensures ∙ c.if-is_full.false;
      idle = c.in_default.ensures.allowed;
      same = (c.in-Ok.ensures.same ∙ c.next_group-group.ensures.same, refl, refl, refl);
      opening = ap (λ cells. read_as g.R.Record.form (take s.before cells)) begun.file_same.vector_same;
      refused = tt;
      unchanged = tt;
    })

pub invariant_of-self : goal.invariant_of-self
invariant_of-self g c = Stands-pass g.D.Disk.keeps g.D.Disk.states c.self.invariant c.next_group-group.new.pass c.next_group-group.ensures.same

pub invariant_of-self-then-is_full : goal.invariant_of-self-then-is_full
invariant_of-self-then-is_full g c = Stands-pass g.D.Disk.keeps g.D.Disk.states c.self.invariant c.next_group-group.new.pass c.next_group-group.ensures.same

pub invariant_of-self-in_default-next_growths : goal.invariant_of-self-in_default-next_growths
invariant_of-self-in_default-next_growths g c =
    Stands-pass g.D.Disk.keeps g.D.Disk.states c.self.invariant c.next_growths.new.pass (c.next_growths.ensures.same ∙ c.next_group-group.ensures.same)

pub invariant_of-self-in-Err-begin_group : goal.invariant_of-self-in-Err-begin_group
invariant_of-self-in-Err-begin_group g c =
    let pen = Stands-pen g.D.Disk.keeps g.D.Disk.states c.self.invariant c.begin_group.new.self (FileStands-unchanged c.in-Err-begin_group.ensures.unchanged) in
    Stands-pass g.D.Disk.keeps g.D.Disk.states pen c.next_growths.new.pass (c.in-Ok.ensures.same ∙ c.next_group-group.ensures.same)

pub next_growths-requires-clause-known : goal.next_growths-requires-clause-known
next_growths-requires-clause-known g c κs within =
    let s = c.self.inside in
    let there = taken_within c.self.invariant.0 c.next_group-group.result.count c.next_group-group.ensures.greatest.there in
    (omega arith, subst (λ (p : Known _). s.taken + c.next_group-group.result.count ≤ length p.entries) (sym c.next_group-group.ensures.same) there)

pub overflow_add-to : goal.overflow_add-to
overflow_add-to g c =
    let there = taken_within c.self.invariant.0 c.next_group-group.result.count c.next_group-group.ensures.greatest.there in
    let most = c.next_group-group.ensures.bounds.0 in
    omega arith
