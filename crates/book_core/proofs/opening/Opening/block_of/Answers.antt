use Rattle.std.proofs.Common.{◌≡◌, ℕ, ◌+◌, ◌<◌, ◌≤◌, length, take, get_or, sum_by, leb, rules, ap, arith}
use Rattle.std.proofs.lemmas.List.Sorted.{IsPartitionPoint-from_clause}
use Rattle.book_core.specs.Lists.{records_of}
use Rattle.book_core.proofs.BlockEnds.{IsPartitionedBy-ends, found}
use Rattle.book_core.proofs.opening.Opening.block_of.Goals as goal

pub returns : goal.returns
returns g c =
    let s = c.args.self.now in
    let blocks = s.blocks in
    let ends = s.ends in
    let ok = blocks.ok in
    let ok' = ends.ok in
    let many = s.as_many in
    let as_many : length ends.items ≡ length blocks.items = omega arith in
    let ends_are : (k : ℕ) → k < length blocks.items → get_or ends.items k 0 ≡ sum_by length (take (k + 1) (records_of blocks.items)) = λ k lt. s.ends_are k (omega arith) in
    let row = c.as_slice.ensures.value in
    let parted = IsPartitionedBy-ends blocks.items ends.items as_many ends_are c.args.i in
    let point = IsPartitionPoint-from_clause
    (λ end. leb end c.args.i) c.as_slice.result.now c.partition_point.result c.partition_point.ensures.partitioned (rw row parted)
    (λ a r q k. search rules) in
    let bound : c.partition_point.result ≤ length ends.items = omega (arith, c.partition_point.ensures.bound, ap length row) in
    let at = found blocks.items ends.items as_many ends_are c.args.i c.partition_point.result c.requires bound (rw row at point) in
    let inside = at.0 in
    (omega arith, at.1, at.2)
