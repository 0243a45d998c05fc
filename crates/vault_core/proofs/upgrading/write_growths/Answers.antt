use Rattle.std.proofs.Common.{◌≡◌, ◌∙◌, ◌∷◌, [], List, length, ap, subst, sym, refl, rules, arith, ◌+◌, ◌*◌, ◌-◌}
use Rattle.disk_core.specs.Moments.{LeavesOnly, clock}
use Rattle.segment_core.specs.Written.{joined, payload_len}
use Rattle.pen_core.specs.Pen.{failed_calls}
use Rattle.pen_core.specs.Refusals.{group_lines}
use Rattle.vault_core.specs.Upgrading.{OpensToCopied}
use Rattle.vault_core.proofs.Devices.{device_of}
use Rattle.vault_core.proofs.Commands.{quiet}
use Rattle.std.proofs.lemmas.Result.{err_from_is_err_and}
use Rattle.std.specs.Slice.Iter.{chunks_rest}
use Rattle.vault_core.proofs.Upgrades.{Writes, takes, writes_none, refused_stop, begun_model, begun_images, begun_faults, stopped_stop, writes_more, writes_all, writes_cells, writes_time, chunk_some}
use Rattle.vault_core.proofs.upgrading.write_growths.Goals as goal

pub loop-growth-init : goal.loop-growth-init
loop-growth-init g c =
    let rest : chunks_rest c.into_iter-growth-iterator.result ≡ c.args.records.now = ap chunks_rest c.into_iter-growth-iterator.ensures.into_iter_gives ∙ c.chunks-growth-items.ensures.rest in (
      search rules,
      tt,
      search rules,
      0,
      subst (λ (rs : List g.row.R.Denot).
          Writes c.args.format g.R.Record.form (device_of g.D.Disk.keeps g.D.Disk.states g.D.Disk.faults) c.args.piece c.args.records.now c.args.pen.now c.args.pen.now rs 0) (sym rest)
          (writes_none c.args.format g.R.Record.form (device_of g.D.Disk.keeps g.D.Disk.states g.D.Disk.faults) c.args.piece c.args.records.now
          c.args.pen.now c.requires.some c.requires.fits c.requires.few c.requires.new c.requires.empty c.requires.kept),
    )

pub begin_group-requires-clause-width : goal.begin_group-requires-clause-width
begin_group-requires-clause-width g c κs within = sym (ap (λ s. s.width) c.loop-growth.invariant.4.written.shape_is)

pub begin_group-requires-clause-each : goal.begin_group-requires-clause-each
begin_group-requires-clause-each g c κs within =
    let form = g.R.Record.form in
    let so_far = c.loop-growth.invariant.4 in
    let chunk = c.in-Some.growth.now in
    let steps = c.in-Some.ensures.steps in
    let taken = takes so_far chunk _ _ c.loop-growth.invariant.2 steps.1.0 steps.1.1 steps.1.2 in
    (chunk_some taken, tt)

pub returns-in_err-begin_group : goal.returns-in_err-begin_group
returns-in_err-begin_group g c =
    let form = g.R.Record.form in
    let so_far = c.loop-growth.invariant.4 in
    let chunk = c.in-Some.growth.now in
    let steps = c.in-Some.ensures.steps in
    let taken = takes so_far chunk _ _ c.loop-growth.invariant.2 steps.1.0 steps.1.1 steps.1.2 in
    let e = c.in_err-begin_group.ensures in
    let p = err_from_is_err_and c.from_residual.result c.from_residual.ensures.1 in
    let fault = c.in_err-begin_group.field-0.0 in
    let same = e.unchanged.disk_same in
    let lines = group_lines c.loop-growth.pen (length (joined (chunk ∷ []))) (payload_len form.width (chunk ∷ [])) in
    let none : failed_calls fault ≡ 0 = quiet lines fault (refl, (refl, (refl, (refl, (refl, tt))))) e.refused in
    let made = clock (g.D.Disk.states c.begin_group.new.self.disk) - clock (g.D.Disk.states c.args.pen.now.disk) in
    let calls : made ≡ c.loop-growth.invariant.3 * 4 = (let past = so_far.time in omega (arith, past, ap (λ d. clock (g.D.Disk.states d)) same)) in
    rw (p.1, p.2) record {
      written = tt;
      cells = λ _. tt;
      images = subst (λ (d : g.row.D.Denot).
          g.D.Disk.keeps d → LeavesOnly (g.D.Disk.states c.args.pen.now.disk) (g.D.Disk.states d) (OpensToCopied form c.args.piece c.args.records.now)) (sym same) so_far.images;
      refused = refused_stop taken c.begin_group.new.self e.unchanged c.begin_group.ensures.kept fault e.refused made calls;
      time = tt;
      faults = (let past = so_far.no_fault in omega (arith, past, none, ap g.D.Disk.faults same));
      model = subst (λ (d : g.row.D.Denot). g.D.Disk.keeps d → g.D.Disk.keeps c.args.pen.now.disk) (sym same) so_far.model;
    }

pub returns-in_err-settle_log : goal.returns-in_err-settle_log
returns-in_err-settle_log g c =
    let form = g.R.Record.form in
    let so_far = c.loop-growth.invariant.4 in
    let chunk = c.in-Some.growth.now in
    let steps = c.in-Some.ensures.steps in
    let taken = takes so_far chunk _ _ c.loop-growth.invariant.2 steps.1.0 steps.1.1 steps.1.2 in
    let e = c.in_ok-begin_group.ensures in
    let t = c.settle_log.ensures in
    let mid = c.begin_group.new.self in
    let new = c.settle_log.new.self in
    let p = err_from_is_err_and c.from_residual-in_err-settle_log.result c.from_residual-in_err-settle_log.ensures.1 in
    let f = c.in_err-settle_log.ensures in
    let fault = c.in_err-settle_log.field-0.0 in
    rw (p.1, p.2) record {
      written = tt;
      cells = λ _. tt;
      images = begun_images taken mid new e.begun e.allowed e.next t.images t.model;
      refused = stopped_stop taken mid new e.begun e.allowed e.next t.images t.model fault f.refused f.time;
      time = tt;
      faults = begun_faults taken mid new e.begun e.allowed e.next t.images t.model (failed_calls fault) f.faults;
      model = begun_model taken mid new e.begun e.allowed e.next t.images t.model;
    }

pub loop-growth-preserved : goal.loop-growth-preserved
loop-growth-preserved g c =
    let form = g.R.Record.form in
    let so_far = c.loop-growth.invariant.4 in
    let chunk = c.in-Some.growth.now in
    let steps = c.in-Some.ensures.steps in
    let taken = takes so_far chunk _ _ c.loop-growth.invariant.2 steps.1.0 steps.1.1 steps.1.2 in
    let e = c.in_ok-begin_group.ensures in
    let t = c.settle_log.ensures in
    let mid = c.begin_group.new.self in
    let new = c.settle_log.new.self in
    let f = c.in_ok-settle_log.ensures in
    let laws = g.met.R.Record g.world.𝓛 g.world.𝓜 g.world.𝓡 ((λ s x. x), (λ x. x), (λ x. x), λ x. x) in (
      search rules,
      tt,
      steps.0 ∙ c.loop-growth.invariant.2,
      c.loop-growth.invariant.3 + 1,
      writes_more taken mid new e.begun e.allowed e.next t.images t.model f.settled f.whole.1 f.file f.time f.faults laws.width_of_bytes,
    )

pub returns : goal.returns
returns g c =
    let form = g.R.Record.form in
    let so_far = c.loop-growth.invariant.4 in
    let none = c.in-None.ensures.steps.1.0 in
    record {
      written = writes_all so_far none;
      cells = writes_cells so_far none;
      images = so_far.images;
      refused = tt;
      time = writes_time so_far none;
      faults = so_far.no_fault;
      model = so_far.model;
    }
