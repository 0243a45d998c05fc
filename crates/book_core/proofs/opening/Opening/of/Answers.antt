use Rattle.std.proofs.Common.{◌≡◌, ◌<◌, ◌≤◌, ◌∙◌, ap, sym, length, get_or, vec_len, arith}
use Rattle.book_core.proofs.BlockEnds.{end_more, end_more-le, ends_more, length-records_of}
use Rattle.book_core.proofs.opening.Opening.of.Goals as goal

pub overflow_add-size : goal.overflow_add-size
overflow_add-size g c =
    let v = c.deref-block-items.ensures.value in
    let i = c.loop-block.block-index in
    let d = c.block-item.result in
    let lt : i < length c.args.blocks.items = omega (arith, c.loop-block-test.true, ap length v) in
    let more = end_more-le c.args.blocks.items i d lt (c.block-item.is ∙ ap (λ xs. get_or xs i d) v) in
    let so_far = c.loop-block.invariant.0 in
    let len = c.len-in-loop-block.ensures in
    let few = c.requires in
    omega arith

pub loop-block-preserved : goal.loop-block-preserved
loop-block-preserved g c =
    let v = c.deref-block-items.ensures.value in
    let i = c.loop-block.block-index in
    let d = c.block-item.result in
    let inv = c.loop-block.invariant in
    let ok = c.loop-block.ends.ok in
    let lt : i < length c.args.blocks.items = omega (arith, c.loop-block-test.true, ap length v) in
    let is = c.block-item.is ∙ ap (λ xs. get_or xs i d) v in
    let many : length c.loop-block.ends.items ≡ i = let n = inv.1 in omega arith in (
      end_more c.args.blocks.items i d lt is ∙ (let size = inv.0 in let len = c.len-in-loop-block.ensures in omega arith),
      (let n = inv.1 in omega (arith, c.push_reserved.ensures.len)),
      (let n = inv.2 in omega (arith, c.push_reserved.ensures.capacity)),
      rw c.push_reserved.ensures.items
          (ends_more c.args.blocks.items i d lt is c.loop-block.ends.items c.loop-block.size _ many inv.0
          (let len = c.len-in-loop-block.ensures in let ok' = d.ok in omega arith) inv.3),
    )

pub invariant_of-result : goal.invariant_of-result
invariant_of-result g c =
    let v = c.deref-block-items.ensures.value in
    let inv = c.loop-block.invariant in
    let all : length c.args.blocks.items ≤ c.loop-block.block-index = omega (arith, c.loop-block-test.false, ap length v) in
    let end = c.loop-block.auto in
    let whole = length-records_of c.args.blocks.items c.loop-block.block-index all in
    let size = inv.0 in
    let few = c.requires in
    let ok = c.args.blocks.ok in
    let len : vec_len c.args.blocks ≡ c.loop-block.block-index = omega (arith, c.loop-block.auto.block-index-end, ap length v) in
    record {
      sized = whole ∙ size;
      in_limit = omega arith;
      as_many = inv.1 ∙ sym len;
      ends_are = λ k lt. inv.3 k (omega arith);
    }
