use Rattle.std.proofs.Common.{inl, refl, sym, ap, ◌∙◌}
use Rattle.files_core.specs.declared.appended.Appended.{Appended}
use Rattle.files_core.specs.declared.fault.FileFault.TheVariants.{Vault}
use Rattle.pen_core.specs.declared.fault.PenFault.TheVariants.{TooLarge}
use Rattle.vault_core.specs.declared.fault.VaultFault.TheVariants.{Pen}
use Rattle.load_core.proofs.Phases.{loaded_as, none_begun, so_far_as, stopped_phase}
use Rattle.load_core.proofs.loading.load_dealt.Goals as goal

pub returns-in-Some : goal.returns-in-Some
returns-in-Some g c disk opened =
    let deck = c.in-Some.ensures in
    loaded_as g.R.Record.form g.D.Disk.keeps g.D.Disk.states g.D.Disk.faults disk deck.1 deck.0 c.load_slices-loaded.result c.load_slices-loaded.new.appended
    (c.load_slices-loaded.ensures disk
    (so_far_as g.R.Record.form g.D.Disk.keeps g.D.Disk.states g.D.Disk.faults disk (sym deck.1) (sym deck.0) c.args.vault c.none_appended-appended.result (sym deck.2)
    (none_begun g.R.Record.form g.D.Disk.keeps g.D.Disk.states g.D.Disk.faults c.args.growths.0 c.args.growers disk c.args.vault c.none_appended-appended.result opened
    (c.none_appended-appended.ensures ∙ ap (λ n. let a : Appended = record { growths = 0; lines = 0; size = n } in a) c.len.ensures.is))))

pub returns-in-None : goal.returns-in-None
returns-in-None g c disk opened =
    stopped_phase g.R.Record.form g.D.Disk.keeps g.D.Disk.states g.D.Disk.faults c.args.growths.0 c.args.growers disk c.args.vault c.args.growths.0 c.none_appended-appended.result
    (none_begun g.R.Record.form g.D.Disk.keeps g.D.Disk.states g.D.Disk.faults c.args.growths.0 c.args.growers disk c.args.vault c.none_appended-appended.result opened
    (c.none_appended-appended.ensures ∙ ap (λ n. let a : Appended = record { growths = 0; lines = 0; size = n } in a) c.len.ensures.is))
    c.into_disk.result (Vault (Pen TooLarge)) (inl (c.into_disk.ensures.disk, inl (refl, c.in-None.ensures)))
