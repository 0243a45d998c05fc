use Rattle.std.proofs.Common.{◌<◌, length, ap, sym, ◌∙◌, arith}
use Rattle.std.proofs.lemmas.List.{length-map}
use Rattle.vault_core.proofs.BlockParts.{block_is}
use Rattle.vault_core.proofs.blocks.Blocks.block_at.Goals as goal

pub index-requires : goal.index-requires
index-requires g c =
    let s = c.self.inside in
    let ok = s.blocks.ok in
    omega (arith, c.requires, ap length c.self.view_is, length-map s.blocks.items (λ b. b.items))

pub returns : goal.returns
returns g c =
    c.as_slice.ensures.value
    ∙ sym (block_is c.self.inside.blocks.items c.args.self.now c.args.number c.index.result.now c.self.view_is c.requires c.index.ensures)
