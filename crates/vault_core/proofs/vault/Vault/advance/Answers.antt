use Rattle.std.proofs.Common.{◌≡◌, ◌+◌, ◌≤◌, inl, inr, refl, subst, rules, arith}
use Rattle.std.specs.Prelude.{OnOk, MatchResult}
use Rattle.disk_core.specs.Moments.{clock}
use Rattle.pen_core.specs.PenOf.{PenOf}
use Rattle.flush_core.specs.declared.lane.Lane.TheVariants.{Log, Home}
use Rattle.flush_core.specs.declared.lane.Tick.TheVariants.{Idle}
use Rattle.flush_core.specs.Refusals.{IsLaneTicked}
use Rattle.vault_core.specs.Settles.{CarriesOn, calls_left}
use Rattle.vault_core.proofs.CallsLeft.{lane_calls-ticked, lane_calls-few, lane_time}
use Rattle.vault_core.proofs.Carried.{carries-tick, carries-ticked}
use Rattle.vault_core.proofs.Settles.{settles_images, settles_more}
use Rattle.std.proofs.lemmas.Grind.{common_steps}
use Rattle.vault_core.proofs.vault.Vault.advance.Goals as goal

pub returns-clause-images : goal.returns-clause-images
returns-clause-images g c =
    let form = g.R.Record.form in
    let old = c.args.self.now in
    let mid = c.tick.new.self in
    let t = c.tick.ensures in
    let e = c.in_ok-tick.ensures in
    let few = lane_calls-ticked Log old.pen mid.pen c.in_ok-tick.tick e.whole.0 e.ticked in
    let time = t.time in
    settles_images form g.D.Disk.keeps g.D.Disk.states g.D.Disk.faults old mid c.tick-2.new.self
    (inr (settles_more form g.D.Disk.keeps g.D.Disk.states g.D.Disk.faults old old mid (inl refl) t.images
    (carries-tick old.pen mid.pen (g.D.Disk.keeps mid.pen.disk) Log c.in_ok-tick.tick e.ticked e.file) t.list e.sure e.whole
    (omega (arith, few, time)) e.faults t.model e.goes_on))
    c.tick-2.ensures.model c.tick-2.ensures.images

pub returns-then-ne-clause-carries : goal.returns-then-ne-clause-carries
returns-then-ne-clause-carries g c =
    let e = c.in_ok-tick.ensures in
    let mid = c.tick.new.self in
    carries-tick c.args.self.now.pen mid.pen (g.D.Disk.keeps mid.pen.disk) Log c.in_ok-tick.tick e.ticked e.file

pub returns-then-ne-clause-time : goal.returns-then-ne-clause-time
returns-then-ne-clause-time g c =
    let e = c.in_ok-tick.ensures in
    let few = lane_calls-ticked Log c.args.self.now.pen c.tick.new.self.pen c.in_ok-tick.tick e.whole.0 e.ticked in
    let time = c.tick.ensures.time in
    omega (arith, few, time)

-- the log had no job
pub returns-clause-carries : goal.returns-clause-carries
returns-clause-carries g c =
    let old = c.args.self.now.pen in
    let mid = c.tick.new.self.pen in
    let new = c.tick-2.new.self.pen in
    let keeps = g.D.Disk.keeps new.disk in
    let idle : c.in_ok-tick.tick ≡ Idle = search rules in
    let none = subst (IsLaneTicked Log old mid) idle c.in_ok-tick.ensures.ticked in
    subst (λ (pen : PenOf g.row.D.Denot). OnOk c.tick-2.result (CarriesOn keeps pen new)) none.1
    (carries-ticked mid new keeps Home c.tick-2.result c.tick-2.ensures.ticked c.tick-2.ensures.file)

pub returns-clause-time : goal.returns-clause-time
returns-clause-time g c =
    let old = c.args.self.now.pen in
    let mid = c.tick.new.self.pen in
    let new = c.tick-2.new.self.pen in
    let behind = clock (g.D.Disk.states new.disk) in
    let idle : c.in_ok-tick.tick ≡ Idle = search rules in
    let none = subst (IsLaneTicked Log old mid) idle c.in_ok-tick.ensures.ticked in
    subst
    (λ (pen : PenOf g.row.D.Denot).
    MatchResult c.tick-2.result (λ _. behind + calls_left new ≤ clock (g.D.Disk.states pen.disk) + calls_left pen)
    (λ _. behind ≤ clock (g.D.Disk.states pen.disk) + calls_left pen))
    none.1
    (lane_time Home mid new (clock (g.D.Disk.states mid.disk)) behind c.tick-2.result c.tick-2.ensures.time c.tick-2.ensures.whole c.tick-2.ensures.ticked)

pub returns-in_err-tick-clause-refused : goal.returns-in_err-tick-clause-refused
returns-in_err-tick-clause-refused g c = grind (arith, common_steps)
