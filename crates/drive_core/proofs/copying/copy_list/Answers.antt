use Rattle.std.proofs.Common.{◌∙◌, ap, sym, ◌++◌, ◌∷◌, []}
use Rattle.segment_core.proofs.Written.{take_more}
use Rattle.vault_core.specs.Vault as vaults
use Rattle.drive_core.proofs.copying.copy_list.Goals as goal

pub loop-i-preserved : goal.loop-i-preserved
loop-i-preserved g c =
    c.in_ok-push.ensures.items ∙ ap (λ rs. rs ++ c.in-Some.record.now ∷ []) c.loop-i.invariant
    ∙ sym (take_more (vaults.list_of c.args.vault.now) c.loop-i.i c.in-Some.record.now c.in-Some.ensures)
