use Rattle.std.proofs.Common.{refl}
use Rattle.segment_core.specs.Runs.{runs_given}
use Rattle.pen_core.specs.Refusals.{change_lines}
use Rattle.book_core.specs.Lists.{records_of}
use Rattle.vault_core.specs.Parts.{spans_of}
use Rattle.vault_core.proofs.Runs.{IsCut-ascending}
use Rattle.vault_core.proofs.Kept.{mid_whole}
use Rattle.vault_core.proofs.Commands.{refused_command, memory_refused, stands_made}
use Rattle.vault_core.proofs.Changes.{change_may, change_filled, change_touched, changed}
use Rattle.vault_core.proofs.vault.Vault.change_some_alone.Goals as goal

pub returns-in-Err-clause-command : goal.returns-in-Err-clause-command
returns-in-Err-clause-command g c = rw (← c.self.view_is) (
    refused_command g.R.Record.form g.D.Disk.keeps g.D.Disk.states g.D.Disk.faults _ c.self.invariant _ _ c.ready_runs.new.self c.in-Err.fault
    c.ready_runs.ensures.unchanged (refl, (refl, (refl, (refl, (refl, (refl, (refl, tt))))))) c.in-Err.ensures.refused)

pub returns-in_default-cut-clause-command : goal.returns-in_default-cut-clause-command
returns-in_default-cut-clause-command g c = rw (← c.self.view_is) (
    let lines = change_lines c.self.inside.pen (runs_given c.args.runs.now) in
    refused_command g.R.Record.form g.D.Disk.keeps g.D.Disk.states g.D.Disk.faults _ c.self.invariant _ lines c.ready_runs.new.self _
    c.ready_runs.ensures.unchanged (refl, (refl, (refl, (refl, (refl, (refl, (refl, tt))))))) (memory_refused lines c.in_default.ensures.allowed))

pub touch_alone-requires-clause-ascending : goal.touch_alone-requires-clause-ascending
touch_alone-requires-clause-ascending g c κs within =
    let runs = runs_given c.args.runs.now in
    let may = change_may g.R.Record.form g.D.Disk.keeps _ c.self.invariant c.ready_runs.new.self c.ready_runs.ensures.unchanged runs c.in_default.ensures.allowed in
    rw c.as_slice-parts.ensures.value (IsCut-ascending 0 runs (spans_of c.cut.new.parts.items) may.ascending c.in-Ok.ensures.1)

pub begin_runs_from-requires-clause-filled : goal.begin_runs_from-requires-clause-filled
begin_runs_from-requires-clause-filled g c κs within =
    let runs = runs_given c.args.runs.now in
    rw c.as_slice.ensures (
    change_filled g.R.Record.form g.D.Disk.keeps _ c.self.invariant c.ready_runs.new.self c.ready_runs.ensures.unchanged runs c.in_default.ensures.allowed
    (g.T.Touch.one c.args.touch.now) c.touch_alone.new.self c.as_slice-parts.result.now c.cut.new.parts.items c.touch_alone.ensures.parts
    c.as_slice-parts.ensures.value c.in-Ok.ensures.1 c.touch_alone.ensures.touched)

pub invariant_of-self-2 : goal.invariant_of-self-2
invariant_of-self-2 g c =
    let runs = runs_given c.args.runs.now in
    let begun = changed g.R.Record.form g.D.Disk.keeps _ c.self.invariant c.ready_runs.new.self c.ready_runs.ensures.unchanged runs c.in_default.ensures.allowed
    (g.T.Touch.one c.args.touch.now) c.touch_alone.new.self c.as_slice-parts.result.now c.cut.new.parts.items c.touch_alone.ensures.parts c.as_slice-parts.ensures.value c.in-Ok.ensures.1 c.touch_alone.ensures.touched
    (records_of c.as_slice.result.now) c.as_slice.ensures c.begin_runs_from.new.self c.in-Ok-begin_runs_from.ensures.begun c.in-Ok-begin_runs_from.ensures.next in
    c.commit.ensures.kept _ _ begun

pub returns-clause-list : goal.returns-clause-list
returns-clause-list g c = rw (← c.self.view_is) (
    let runs = runs_given c.args.runs.now in
    let begun = changed g.R.Record.form g.D.Disk.keeps _ c.self.invariant c.ready_runs.new.self c.ready_runs.ensures.unchanged runs c.in_default.ensures.allowed
    (g.T.Touch.one c.args.touch.now) c.touch_alone.new.self c.as_slice-parts.result.now c.cut.new.parts.items c.touch_alone.ensures.parts c.as_slice-parts.ensures.value c.in-Ok.ensures.1 c.touch_alone.ensures.touched
    (records_of c.as_slice.result.now) c.as_slice.ensures c.begin_runs_from.new.self c.in-Ok-begin_runs_from.ensures.begun c.in-Ok-begin_runs_from.ensures.next in
    stands_made _ _ c.commit.result (c.commit.ensures.stops (mid_whole begun)) (
    change_touched g.R.Record.form g.D.Disk.keeps _ c.self.invariant c.ready_runs.new.self c.ready_runs.ensures.unchanged runs c.in_default.ensures.allowed
    (g.T.Touch.one c.args.touch.now) c.touch_alone.new.self c.as_slice-parts.result.now c.cut.new.parts.items c.touch_alone.ensures.parts
    c.as_slice-parts.ensures.value c.in-Ok.ensures.1 c.touch_alone.ensures.touched))

pub returns-clause-command : goal.returns-clause-command
returns-clause-command g c = rw (← c.self.view_is) (
    let runs = runs_given c.args.runs.now in
    let begun = changed g.R.Record.form g.D.Disk.keeps _ c.self.invariant c.ready_runs.new.self c.ready_runs.ensures.unchanged runs c.in_default.ensures.allowed
    (g.T.Touch.one c.args.touch.now) c.touch_alone.new.self c.as_slice-parts.result.now c.cut.new.parts.items c.touch_alone.ensures.parts c.as_slice-parts.ensures.value c.in-Ok.ensures.1 c.touch_alone.ensures.touched
    (records_of c.as_slice.result.now) c.as_slice.ensures c.begin_runs_from.new.self c.in-Ok-begin_runs_from.ensures.begun c.in-Ok-begin_runs_from.ensures.next in
    c.commit.ensures.command _ _ begun _ c.in_default.ensures.allowed)
