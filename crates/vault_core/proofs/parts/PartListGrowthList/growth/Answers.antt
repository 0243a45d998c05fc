use Rattle.std.proofs.Common.{◌≡◌, length, get_or, refl, sym, ap, ◌∙◌, arith}
use Rattle.std.specs.Global.{Vec}
use Rattle.std.proofs.lemmas.List.{length-map}
use Rattle.book_core.specs.Lists.{records_of}
use Rattle.vault_core.specs.Parts.{block_at, slice_of}
use Rattle.vault_core.specs.declared.parts.Part.{Part}
use Rattle.vault_core.proofs.BlockParts.{part_at, block_is}
use Rattle.std.proofs.lemmas.Grind.{common_steps}
use Rattle.vault_core.proofs.parts.PartListGrowthList.growth.Goals as goal

abbrev none : Part
none = record { block = 0; from = 0; at = 0; len = 0 }

pub bounds-self-part : goal.bounds-self-part
bounds-self-part g c =
    let list = c.args.self.now in
    let blocks = list.blocks.now in
    let many = length-map list.parts.now (slice_of (records_of blocks)) in
    let asked = c.requires in
    let part = get_or list.parts.now c.args.k none in
    let is = part_at (records_of blocks) list.parts.now c.args.k none list.are (omega arith) in
    let number = is.number in
    let rows = length-map blocks (λ (b : Vec _). b.items) in
    omega arith

pub overflow_add-result : goal.overflow_add-result
overflow_add-result g c =
    let list = c.args.self.now in
    let blocks = list.blocks.now in
    let many = length-map list.parts.now (slice_of (records_of blocks)) in
    let asked = c.requires in
    let part = get_or list.parts.now c.args.k none in
    let is = part_at (records_of blocks) list.parts.now c.args.k none list.are (omega arith) in
    let same : block_at (records_of blocks) part.block ≡ c.deref.result.now =
    block_is blocks (records_of blocks) part.block c.index-self-part.result refl is.number c.index-self-part.is
    ∙ ap (λ (b : Vec _). b.items) c.index-self-part.is ∙ sym c.deref.ensures.value in
    let inside = is.inside in
    let len = ap length same in
    let short = c.deref.type_inv.0 in
    omega arith

pub slice_bounds-result-end : goal.slice_bounds-result-end
slice_bounds-result-end g c =
    let list = c.args.self.now in
    let blocks = list.blocks.now in
    let many = length-map list.parts.now (slice_of (records_of blocks)) in
    let asked = c.requires in
    let part = get_or list.parts.now c.args.k none in
    let is = part_at (records_of blocks) list.parts.now c.args.k none list.are (omega arith) in
    let same : block_at (records_of blocks) part.block ≡ c.deref.result.now =
    block_is blocks (records_of blocks) part.block c.index-self-part.result refl is.number c.index-self-part.is
    ∙ ap (λ (b : Vec _). b.items) c.index-self-part.is ∙ sym c.deref.ensures.value in
    let inside = is.inside in
    let len = ap length same in
    let short = c.deref.type_inv.0 in
    omega arith

pub bounds-self-k : goal.bounds-self-k
bounds-self-k g c = grind (arith, common_steps)

pub offset_bounds-self-k : goal.offset_bounds-self-k
offset_bounds-self-k g c = grind (arith, common_steps)

pub offset_bounds-self-part : goal.offset_bounds-self-part
offset_bounds-self-part g c = grind (arith, common_steps)
