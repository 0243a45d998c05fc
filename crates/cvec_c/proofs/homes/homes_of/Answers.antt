use Rattle.std.proofs.Common.{[], subst, sym}
use Rattle.cvec_c.specs.declared.stat.CvecStat.{CvecStat}
use Rattle.cvec_c.specs.Homes.{HasHomes}
use Rattle.cvec_c.proofs.HomesStand.{has_homes}
use Rattle.cvec_c.proofs.homes.homes_of.Goals as goal

pub returns-in-Ok : goal.returns-in-Ok
returns-in-Ok g c =
    let found = c.in-Ok.ensures.answer c.args.image.now (c.feed.ensures.fed [] c.of_length-scanner.ensures) in
    let records = c.in-Ok.scanned.records.items in
    let homes = c.in-Ok.homes.homes in (
      records,
      subst (λ (stat : CvecStat). HasHomes g.R.Record.form c.args.image.now records stat homes.items)
          (sym c.of.ensures)
          (has_homes g.R.Record.form c.args.image.now c.in-Ok.scanned found.0 homes.items found.1.homes_are),
    )
