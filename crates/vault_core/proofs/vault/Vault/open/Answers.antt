use Rattle.std.proofs.Common.{ap, subst, sym, inr, refl, arith}
use Rattle.segment_core.proofs.OneVector.{sound_header}
use Rattle.vault_core.proofs.Kept.{opened_kept, opened_sure, opened_list}
use Rattle.vault_core.proofs.vault.Vault.open.Goals as goal

pub invariant_of-result : goal.invariant_of-result
invariant_of-result g c =
    let p = c.in_ok-pen in
    opened_kept g.R.Record.form (g.D.Disk.keeps p.pen.disk) p.pen c.in-Ok.blocks p.records.items _ c.in-Ok.ensures.whole p.ensures.rests p.ensures.opened

pub returns-clause-opened : goal.returns-clause-opened
returns-clause-opened g c =
    let p = c.in_ok-pen in
    opened_list g.R.Record.form (g.D.Disk.keeps p.pen.disk) p.pen c.in-Ok.blocks p.records.items _ c.in-Ok.ensures.whole p.ensures.rests p.ensures.opened

pub returns-clause-sure : goal.returns-clause-sure
returns-clause-sure g c =
    let p = c.in_ok-pen in
    opened_sure g.R.Record.form (g.D.Disk.keeps p.pen.disk) p.pen c.in-Ok.blocks p.records.items _ c.in-Ok.ensures.whole p.ensures.rests p.ensures.opened

pub returns-in_default-clause-refused : goal.returns-in_default-clause-refused
returns-in_default-clause-refused g c = λ now.
    let p = c.in_ok-pen in
    let o = p.ensures.opened (subst g.D.Disk.keeps c.into_disk.ensures.disk now) in
    let small = c.width_of-width.ensures.range.1 in
    let wide = c.width_of-width.ensures.is in
    inr (refl, (sound_header o.format g.R.Record.form.width _ o.found (omega (arith, small, wide)) o.vector.framed).no_fault)
