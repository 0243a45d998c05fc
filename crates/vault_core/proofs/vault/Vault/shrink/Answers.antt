use Rattle.std.proofs.Common.{refl}
use Rattle.vault_core.proofs.Kept.{mid_whole}
use Rattle.vault_core.proofs.Commands.{refused_command, stands_made}
use Rattle.vault_core.proofs.Shrinks.{shrunk}
use Rattle.vault_core.proofs.vault.Vault.shrink.Goals as goal

pub invariant_of-self-2 : goal.invariant_of-self-2
invariant_of-self-2 g c =
    let begun = shrunk g.R.Record.form g.D.Disk.keeps _ c.self.invariant c.args.n c.in_default.ensures.allowed
    c.truncate.new.self c.truncate.ensures c.begin_shrink.new.self c.in_default.ensures.begun c.in_default.ensures.vector in
    c.commit.ensures.kept _ _ begun

pub returns-clause-list : goal.returns-clause-list
returns-clause-list g c = rw (← c.self.view_is) (
    let begun = shrunk g.R.Record.form g.D.Disk.keeps _ c.self.invariant c.args.n c.in_default.ensures.allowed
    c.truncate.new.self c.truncate.ensures c.begin_shrink.new.self c.in_default.ensures.begun c.in_default.ensures.vector in
    stands_made _ _ c.commit.result (c.commit.ensures.stops (mid_whole begun)) c.truncate.ensures)

pub returns-clause-command : goal.returns-clause-command
returns-clause-command g c = rw (← c.self.view_is) (
    let begun = shrunk g.R.Record.form g.D.Disk.keeps _ c.self.invariant c.args.n c.in_default.ensures.allowed
    c.truncate.new.self c.truncate.ensures c.begin_shrink.new.self c.in_default.ensures.begun c.in_default.ensures.vector in
    c.commit.ensures.command _ _ begun _ c.in_default.ensures.allowed)

pub returns-in-Err-clause-command : goal.returns-in-Err-clause-command
returns-in-Err-clause-command g c = rw (← c.self.view_is) (
    refused_command g.R.Record.form g.D.Disk.keeps g.D.Disk.states g.D.Disk.faults _ c.self.invariant _ _ c.begin_shrink.new.self c.in-Err.fault
    c.in-Err.ensures.unchanged (refl, (refl, (refl, (refl, (refl, tt))))) c.in-Err.ensures.refused)
