use Rattle.std.proofs.lemmas.Grind.{common_steps}
use Rattle.std.proofs.Common.{◌≤◌, length, rules, arith, sym, subst}
use Rattle.std.specs.Prelude.{is_ok}
use Rattle.std.proofs.lemmas.List.{length-take}
use Rattle.disk_core.specs.State.{now, IsTornWrite}
use Rattle.disk_core.specs.FuseDisk.{states_of}
use Rattle.disk_core.proofs.ImageLemmas.{torn_by_part, torn_nothing}
use Rattle.disk_core.proofs.LogLemmas.{logged_states-call, on_err}
use Rattle.disk_core.proofs.fuse.FuseDiskDisk.write_at.Goals as goal
use Rattle.disk_core.proofs.fuse.FuseDiskDisk.write_at.Goals.{in-Passes, in-Fails, in-Breaks}

pub returns-clause-torn : goal.returns-clause-torn
returns-clause-torn g c still =
    let disk = c.args.self.now in
    let len = length c.args.bytes.now in
    let old = g.D.Disk.states disk.inner in
    let new = g.D.Disk.states c.match-burn.self.1.0 in
    let model : g.D.Disk.keeps disk.inner = elim c.match-burn.branch [
      | in-Passes w ↦ w.write_at-answer.ensures.model (rw w.self-is at still)
      | in-Fails w ↦ rw w.self-is at still
      | in-Breaks w ↦ w.write_at.ensures.model (rw w.self-is at still)
    ] in
    let inside : c.args.at ≤ length (now old).seen = search rules in
    let torn : IsTornWrite c.args.at len (now old) (now new) = elim c.match-burn.branch [
      | in-Passes w ↦ rw w.self-is
          (torn_by_part w.write_at-answer.result c.args.at len c.args.bytes.now old (g.D.Disk.states w.write_at-answer.new.self) inside (omega arith)
          (w.write_at-answer.ensures.done model) (w.write_at-answer.ensures.torn (rw w.self-is at still)))
      | in-Fails w ↦ rw w.self-is (torn_nothing c.args.at len (now old))
      | in-Breaks w ↦ rw w.self-is
          (torn_by_part w.write_at.result c.args.at len _ old (g.D.Disk.states w.write_at.new.self) inside
          (omega (arith, length-take w.min-count.result c.args.bytes.now)) (w.write_at.ensures.done model)
          (w.write_at.ensures.torn (rw w.self-is at still)))
    ] in
    let latest : IsTornWrite c.args.at len (now (states_of disk)) (now new) = subst (λ s. IsTornWrite c.args.at len s (now new)) (sym disk.latest) torn in
    on_err _ c.match-burn.answer (rw (c.and-self.ensures, c.of.ensures) (logged_states-call g.D.Disk.states (is_ok c.match-burn.answer) c.match-burn.self.1.0 disk.log.items c.args.at len latest))

pub returns-clause-reaches : goal.returns-clause-reaches
returns-clause-reaches g c = grind (arith, common_steps)
