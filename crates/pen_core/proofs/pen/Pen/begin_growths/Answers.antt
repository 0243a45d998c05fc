use Rattle.std.proofs.Common.{◌≡◌, ℕ, ◌+◌, ◌*◌, ◌^◌, ◌<◌, ◌≤◌, length, Result, Ok, Err, OnOk, false, refl, sym, ap, subst, ◌∙◌, arith}
use Rattle.std.proofs.lemmas.Result.{err_from_is_err_and}
use Rattle.std.specs.Result.{is_err}
use Rattle.disk_core.specs.Calls.{bytes_of}
use Rattle.segment_core.specs.Shape.{limit_of}
use Rattle.segment_core.specs.Written.{group_frame, joined, payload_len}
use Rattle.segment_core.specs.Parsed.{vector_before}
use Rattle.segment_core.specs.Raw.{AreCellsOf}
use Rattle.pen_core.specs.Refusals.{fold_len, group_lines}
use Rattle.pen_core.proofs.Begins.{idle_seen, first_refuses, memory_refuses}
use Rattle.pen_core.proofs.Growths.{Grows, group_begins, group_tells}
use Rattle.pen_core.proofs.AtRest.{at_rest}
use Rattle.pen_core.proofs.KeptPen.{none_job, kept_begun}
use Rattle.pen_core.proofs.Whole.{sound_kept}
use Rattle.pen_core.proofs.Listed.{group_entered}
use Rattle.pen_core.proofs.FrameBegun.{pen_begun, begun_seen, unchanged_seen, begun_as, unchanged_as}
use Rattle.pen_core.proofs.pen.Pen.begin_growths.Given.{Over}
use Rattle.pen_core.proofs.pen.Pen.begin_growths.Goals.{After-push_reserved}
use Rattle.pen_core.proofs.pen.Pen.begin_growths.Goals as goal

on_ok : {A E P : Type 0} (r : Result A E) → is_err r ≡ false → OnOk r P → P
on_ok (Ok value) is p = p
on_ok (Err error) is p = absurd cc

below_more : {n m : ℕ} → n + 1 ≤ m → n < m
below_more h = omega arith

pub push_reserved-requires : goal.push_reserved-requires
push_reserved-requires g c = below_more (on_ok c.reserve.result (sym c.is_err.ensures.value ∙ c.if-is_err.false) c.reserve.ensures.ok)

-- ---- the pen

pub invariant_of-self : goal.invariant_of-self
invariant_of-self g c =
    let s = c.self.inside in
    at_rest c.self.invariant (record s { homes = record { homes = c.reserve.new.self; live = s.homes.live } })
    (idle_seen g.D.Disk.states s c.self.view_is c.in_ok-records.ensures.idle) c.reserve.ensures.items refl

pub invariant_of-self-then-is_err-2 : goal.invariant_of-self-then-is_err-2
invariant_of-self-then-is_err-2 g c =
    let s = c.self.inside in
    at_rest c.self.invariant (record s { bytes = c.put_group.new.bytes; homes = record { homes = c.reserve.new.self; live = s.homes.live } })
    (idle_seen g.D.Disk.states s c.self.view_is c.in_ok-records.ensures.idle) c.reserve.ensures.items refl

-- what the begin rests on once memory was taken
begins : (g : Over) (c : After-push_reserved g)
    → Grows g.R.Record.form g.D.Disk.keeps g.D.Disk.states c.self.inside
    (record c.self.inside {
      next = record c.self.inside.tally { size = c.self.inside.tally.size + c.in_ok-records.records };
      bytes = c.put_group.new.bytes;
      homes = record { homes = c.push_reserved.new.self; live = c.self.inside.homes.live };
    })
    (g.G.GrowthList.growths c.args.growths.now)
begins g c =
    let s = c.self.inside in
    let form = g.R.Record.form in
    let growths = g.G.GrowthList.growths c.args.growths.now in
    let laws = g.met.R.Record g.world.𝓛 g.world.𝓜 g.world.𝓡 ((λ s x. x), (λ x. x), (λ x. x), λ x. x) in
    let told = c.in_ok-records.ensures in
    record {
      sound = c.self.invariant;
      going = subst (λ v. v.broken ≡ false) (sym c.self.view_is) told.whole;
      idle = idle_seen g.D.Disk.states s c.self.view_is told.idle;
      reads = g.met.D.Disk.reads_an_image;
      spelled = on_ok c.put_group.result (sym c.is_err-2.ensures.value ∙ c.if-is_err-2.false) c.put_group.ensures.text s.shape.format;
      wide = laws.width_in_range.0;
      width = c.requires.width ∙ sym (ap (λ v. v.shape.width) c.self.view_is);
      size_of = laws.width_of_bytes;
      some = c.requires.some;
      each = c.requires.each;
      short = subst (λ v. v.tally.size + length (joined growths) ≤ 2 ^ 32) (sym c.self.view_is) told.short;
      fits = subst (λ v. payload_len form.width growths ≤ limit_of v.shape.format) (sym c.self.view_is) told.fits;
      room = subst (λ v. v.gate + (6 + payload_len form.width growths) + fold_len v.fold < 2 ^ 48) (sym c.self.view_is) told.space;
      next_is = ap (λ n. record { size = s.tally.size + n; changes = s.tally.changes; folded = s.tally.folded }) told.records;
      homes_more =
          group_entered form s.gate s.tally.size growths c.count.result c.in_ok-records.records c.count.ensures told.records
          c.reserve.new.self.items c.push_reserved.new.self.items s.homes.homes.items c.push_reserved.ensures.items c.reserve.ensures.items;
      runs_same = refl;
    }

pub invariant_of-self-2 : goal.invariant_of-self-2
invariant_of-self-2 g c = pen_begun (group_begins (begins g (goal.at.invariant_of-self-2 g c).After-push_reserved))

pub returns-clause-begun : goal.returns-clause-begun
returns-clause-begun g c = begun_as c.self.view_is (begun_seen (group_begins (begins g (goal.at.returns-clause-begun g c).After-push_reserved)))

pub returns-clause-next : goal.returns-clause-next
returns-clause-next g c = λ records read. (
    let s = c.self.inside in
    group_tells (begins g (goal.at.returns-clause-next g c).After-push_reserved)
    (vector_before s.shape s.gate (bytes_of (g.D.Disk.states s.disk))) records
    (on_ok c.put_group.result (sym c.is_err-2.ensures.value ∙ c.if-is_err-2.false) c.put_group.ensures.read_again)
    (subst (λ v. AreCellsOf g.R.Record.form v.vector records) (sym c.self.view_is) read))

-- ---- where it is refused

pub returns-in_err-records-clause-refused : goal.returns-in_err-records-clause-refused
returns-in_err-records-clause-refused g c =
    let p = err_from_is_err_and c.from_residual.result c.from_residual.ensures.1 in
    let growths = g.G.GrowthList.growths c.args.growths.now in
    rw (p.1, p.2) (first_refuses (group_lines c.args.self.now (length (joined growths)) (payload_len g.R.Record.form.width growths))
    c.in_err-records.field-0.0 c.in_err-records.ensures.refused)

pub returns-then-is_err-clause-refused : goal.returns-then-is_err-clause-refused
returns-then-is_err-clause-refused g c =
    let growths = g.G.GrowthList.growths c.args.growths.now in
    memory_refuses (group_lines c.args.self.now (length (joined growths)) (payload_len g.R.Record.form.width growths)) c.in_ok-records.ensures.allowed

pub returns-then-is_err-2-clause-refused : goal.returns-then-is_err-2-clause-refused
returns-then-is_err-2-clause-refused g c =
    let growths = g.G.GrowthList.growths c.args.growths.now in
    memory_refuses (group_lines c.args.self.now (length (joined growths)) (payload_len g.R.Record.form.width growths)) c.in_ok-records.ensures.allowed

pub returns-then-is_err-clause-unchanged : goal.returns-then-is_err-clause-unchanged
returns-then-is_err-clause-unchanged g c =
    let s = c.self.inside in
    unchanged_as c.self.view_is (unchanged_seen g.D.Disk.states s (record s { homes = record { homes = c.reserve.new.self; live = s.homes.live } })
    (idle_seen g.D.Disk.states s c.self.view_is c.in_ok-records.ensures.idle))

pub returns-then-is_err-2-clause-unchanged : goal.returns-then-is_err-2-clause-unchanged
returns-then-is_err-2-clause-unchanged g c =
    let s = c.self.inside in
    unchanged_as c.self.view_is (unchanged_seen g.D.Disk.states s (record s { bytes = c.put_group.new.bytes; homes = record { homes = c.reserve.new.self; live = s.homes.live } })
    (idle_seen g.D.Disk.states s c.self.view_is c.in_ok-records.ensures.idle))

-- ---- what may be pending

pub returns-then-is_err-clause-kept : goal.returns-then-is_err-clause-kept
returns-then-is_err-clause-kept g c = sound_kept c.self.invariant

pub returns-then-is_err-2-clause-kept : goal.returns-then-is_err-2-clause-kept
returns-then-is_err-2-clause-kept g c = sound_kept (invariant_of-self-then-is_err-2 g c)

pub returns-clause-kept : goal.returns-clause-kept
returns-clause-kept g c =
    kept_begun g.D.Disk.keeps g.D.Disk.states c.args.self.now _ c.group_records.ensures.kept
    (group_frame g.R.Record.form (g.G.GrowthList.growths c.args.growths.now))
    (none_job c.args.self.now c.in_ok-records.ensures.idle) (returns-clause-begun g c)
