use Rattle.std.proofs.Common.{refl}
use Rattle.load_core.specs.Dealt.{slice_of}
use Rattle.load_core.proofs.Phases.{handed_on, next_phase, stopped_phase}
use Rattle.load_core.proofs.Slices.{slice_fits}
use Rattle.load_core.proofs.loading.load_slice.Goals as goal

pub returns : goal.returns
returns g c disk so =
    let growers = g.S.Source.growers_of c.args.deck.now in
    let left = g.S.Deck.left_of c.args.deck.now in
    let e = c.in_ok-vault.ensures.grown (slice_of growers left) growers c.requires in
    next_phase g.R.Record.form g.D.Disk.keeps g.D.Disk.states g.D.Disk.faults (g.S.Deck.growths_of c.args.deck.now) growers disk c.args.vault left c.args.appended.now so c.in_ok-vault.vault
    e.0 e.3 e.4 _ e.1 e.2 c.dealt_so_far-growths.ensures refl c.len.ensures.is

pub returns-in_err-vault : goal.returns-in_err-vault
returns-in_err-vault g c disk so =
    let growers = g.S.Source.growers_of c.args.deck.now in
    let left = g.S.Deck.left_of c.args.deck.now in
    handed_on _ _ c.from_residual.result c.in_err-vault.field-0.0 c.from_residual.ensures.1
    (stopped_phase g.R.Record.form g.D.Disk.keeps g.D.Disk.states g.D.Disk.faults (g.S.Deck.growths_of c.args.deck.now) growers disk c.args.vault left c.args.appended.now so
    c.in_err-vault.field-0.0.0 c.in_err-vault.field-0.0.1 (c.in_err-vault.ensures.stopped (slice_of growers left) growers (slice_fits growers left) c.requires))
