use Rattle.std.proofs.Common.{◌≡◌, inl, inr, refl, sym, subst, rules, arith}
use Rattle.std.proofs.lemmas.Result.{err_from_is_err_and}
use Rattle.flush_core.specs.declared.lane.Tick.TheVariants.{Idle}
use Rattle.vault_core.specs.Settles.{LessensWork, IsIdle}
use Rattle.vault_core.proofs.Carried.{stands}
use Rattle.vault_core.proofs.Settles.{settles_images, settles_more, settles_blocks, settles_sure, settles_refused, settles_time, settles_faults, settles_model}
use Rattle.vault_core.proofs.vault.Vault.settle.Goals as goal

pub loop-init : goal.loop-init
loop-init g c = record { so_far = inl refl }

pub returns-in_err-advance-clause-images : goal.returns-in_err-advance-clause-images
returns-in_err-advance-clause-images g c =
    settles_images g.R.Record.form g.D.Disk.keeps g.D.Disk.states g.D.Disk.faults c.args.self.now c.loop.self c.advance.new.self
    c.loop.invariant.so_far c.advance.ensures.model c.advance.ensures.images

pub returns-in_err-advance-clause-list : goal.returns-in_err-advance-clause-list
returns-in_err-advance-clause-list g c =
    settles_blocks g.R.Record.form g.D.Disk.keeps g.D.Disk.states g.D.Disk.faults c.args.self.now c.loop.self c.advance.new.self
    c.loop.invariant.so_far c.advance.ensures.list

pub returns-in_err-advance-clause-sure : goal.returns-in_err-advance-clause-sure
returns-in_err-advance-clause-sure g c now =
    let p = err_from_is_err_and c.from_residual.result c.from_residual.ensures.1 in
    rw p.1
    (settles_sure g.R.Record.form g.D.Disk.keeps g.D.Disk.states g.D.Disk.faults c.args.self.now c.loop.self c.advance.new.self
    c.loop.invariant.so_far c.advance.ensures.model c.advance.ensures.list now (c.in_err-advance.ensures.sure now))

pub returns-in_err-advance-clause-refused : goal.returns-in_err-advance-clause-refused
returns-in_err-advance-clause-refused g c =
    let p = err_from_is_err_and c.from_residual.result c.from_residual.ensures.1 in
    rw (p.1, p.2)
    (settles_refused g.R.Record.form g.D.Disk.keeps g.D.Disk.states g.D.Disk.faults c.args.self.now c.loop.self c.advance.new.self
    c.loop.invariant.so_far c.in_err-advance.field-0.0 c.in_err-advance.ensures.refused)

pub returns-in_err-advance-clause-time : goal.returns-in_err-advance-clause-time
returns-in_err-advance-clause-time g c =
    let less = c.in_err-advance.ensures.time in
    let all = settles_time g.R.Record.form g.D.Disk.keeps g.D.Disk.states g.D.Disk.faults c.args.self.now c.loop.self c.advance.new.self
    c.loop.invariant.so_far 0 (omega arith) in
    omega arith

pub returns-in_err-advance-clause-faults : goal.returns-in_err-advance-clause-faults
returns-in_err-advance-clause-faults g c =
    let p = err_from_is_err_and c.from_residual.result c.from_residual.ensures.1 in
    rw (p.1, p.2)
    (settles_faults g.R.Record.form g.D.Disk.keeps g.D.Disk.states g.D.Disk.faults c.args.self.now c.loop.self c.advance.new.self
    c.loop.invariant.so_far _ c.in_err-advance.ensures.faults)

pub returns-in_err-advance-clause-model : goal.returns-in_err-advance-clause-model
returns-in_err-advance-clause-model g c =
    settles_model g.R.Record.form g.D.Disk.keeps g.D.Disk.states g.D.Disk.faults c.args.self.now c.loop.self c.advance.new.self
    c.loop.invariant.so_far c.advance.ensures.model

pub loop-preserved : goal.loop-preserved
loop-preserved g c =
    let t = c.advance.ensures in
    let e = c.in_ok-advance.ensures in
    record {
      so_far = inr
          (settles_more g.R.Record.form g.D.Disk.keeps g.D.Disk.states g.D.Disk.faults c.args.self.now c.loop.self c.advance.new.self
          c.loop.invariant.so_far t.images e.carries t.list e.sure e.whole e.time e.faults t.model e.goes_on);
    }

pub returns : goal.returns
returns g c =
    let t = c.advance.ensures in
    let e = c.in_ok-advance.ensures in
    let old = c.args.self.now in
    let new = c.advance.new.self in
    let all = settles_more g.R.Record.form g.D.Disk.keeps g.D.Disk.states g.D.Disk.faults old c.loop.self new
    c.loop.invariant.so_far t.images e.carries t.list e.sure e.whole e.time e.faults t.model e.goes_on in
    let last : c.in_ok-advance.field-0 ≡ Idle = search rules in
    let done = subst (LessensWork c.loop.self.pen new.pen) last e.advanced in
    let idle : IsIdle new.pen = subst IsIdle (sym done.2) (done.0, done.1) in
    let time = all.time in
    record {
      images = all.images;
      idle = idle;
      file = stands old.pen new.pen (g.D.Disk.keeps new.pen.disk) all.carries idle;
      list = all.blocks_same;
      sure = all.sure;
      refused = tt;
      whole = all.whole;
      time = omega arith;
      faults = all.no_fault;
      model = all.model;
      goes_on = all.goes_on;
    }
