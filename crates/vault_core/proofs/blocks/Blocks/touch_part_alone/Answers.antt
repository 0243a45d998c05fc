use Rattle.std.proofs.Common.{◌+◌, ◌-◌, ◌≤◌, length, drop, ap, subst, rules, arith}
use Rattle.std.proofs.lemmas.List.{length-take-le, length-drop}
use Rattle.vault_core.specs.Blocks.{AreEnds}
use Rattle.vault_core.proofs.BlockParts.{TouchesSlice, block_is, part_short, left_kept, left_touched, left_lengths}
use Rattle.std.proofs.lemmas.Grind.{common_steps}
use Rattle.vault_core.proofs.blocks.Blocks.touch_part_alone.Goals as goal

pub offset_bounds-deref_mut-part : goal.offset_bounds-deref_mut-part
offset_bounds-deref_mut-part g c =
    let s = c.self.inside in
    let lt = c.requires.number in
    let is = block_is s.blocks.items c.args.self.now c.args.part.block c.index_mut-block.result.now c.self.view_is lt c.index_mut-block.ensures.value in
    let le = c.requires.inside in
    let bound : c.args.part.from + c.args.part.len ≤ length c.deref_mut.result.now = omega (arith, ap length is, ap length c.deref_mut.ensures.value) in
    search rules

pub slice_bounds-records-end : goal.slice_bounds-records-end
slice_bounds-records-end g c =
    let s = c.self.inside in
    let lt = c.requires.number in
    let is = block_is s.blocks.items c.args.self.now c.args.part.block c.index_mut-block.result.now c.self.view_is lt c.index_mut-block.ensures.value in
    let le = c.requires.inside in
    let bound : c.args.part.from + c.args.part.len ≤ length c.deref_mut.result.now = omega (arith, ap length is, ap length c.deref_mut.ensures.value) in
    search rules

pub touch-requires : goal.touch-requires
touch-requires g c =
    let s = c.self.inside in
    let lt = c.requires.number in
    let is = block_is s.blocks.items c.args.self.now c.args.part.block c.index_mut-block.result.now c.self.view_is lt c.index_mut-block.ensures.value in
    let le = c.requires.inside in
    let many =
    length-take-le (c.args.part.from + c.args.part.len - c.args.part.from) (drop c.args.part.from c.deref_mut.result.now)
    (omega (arith, length-drop c.args.part.from c.deref_mut.result.now, ap length is, ap length c.deref_mut.ensures.value)) in
    let short = part_short c.args.self.now s.ends.items c.args.part (subst (λ bs. AreEnds bs s.ends.items) c.self.view_is c.self.invariant) c.requires in
    omega (arith, many, short)

pub invariant_of-self : goal.invariant_of-self
invariant_of-self g c =
    let s = c.self.inside in
    let p = c.args.part in
    let block = c.index_mut-block.result.now in
    let it : TouchesSlice (g.T.Touch.one c.args.touch.now) c.args.self.now p block c.deref_mut.result.now c.touch.new.part = record {
      is_part = c.requires;
      block_is = block_is s.blocks.items c.args.self.now p.block block c.self.view_is c.requires.number c.index_mut-block.ensures.value;
      slice_is = c.deref_mut.ensures.value;
      touched = c.touch.ensures;
    } in
    left_kept s.blocks.items c.self.view_is it s.ends.items c.self.invariant

pub returns-clause-touched : goal.returns-clause-touched
returns-clause-touched g c =
    let s = c.self.inside in
    let p = c.args.part in
    let block = c.index_mut-block.result.now in
    let it : TouchesSlice (g.T.Touch.one c.args.touch.now) c.args.self.now p block c.deref_mut.result.now c.touch.new.part = record {
      is_part = c.requires;
      block_is = block_is s.blocks.items c.args.self.now p.block block c.self.view_is c.requires.number c.index_mut-block.ensures.value;
      slice_is = c.deref_mut.ensures.value;
      touched = c.touch.ensures;
    } in
    left_touched s.blocks.items c.self.view_is it

pub returns-clause-lengths : goal.returns-clause-lengths
returns-clause-lengths g c =
    let s = c.self.inside in
    let p = c.args.part in
    let block = c.index_mut-block.result.now in
    let it : TouchesSlice (g.T.Touch.one c.args.touch.now) c.args.self.now p block c.deref_mut.result.now c.touch.new.part = record {
      is_part = c.requires;
      block_is = block_is s.blocks.items c.args.self.now p.block block c.self.view_is c.requires.number c.index_mut-block.ensures.value;
      slice_is = c.deref_mut.ensures.value;
      touched = c.touch.ensures;
    } in
    left_lengths s.blocks.items c.self.view_is it

pub index_mut-block-requires : goal.index_mut-block-requires
index_mut-block-requires g c = grind (arith, common_steps)

pub overflow_add-records : goal.overflow_add-records
overflow_add-records g c =
    let s = c.self.inside in
    let short = part_short c.args.self.now s.ends.items c.args.part (subst (λ bs. AreEnds bs s.ends.items) c.self.view_is c.self.invariant) c.requires in
    omega (arith, short, c.requires.place)
