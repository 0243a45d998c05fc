use Rattle.std.proofs.Common.{◌<◌, ◌≤◌, ℕ, List, map, length, arith, ap, ◌∙◌, get_or}
use Rattle.std.proofs.lemmas.List.{length-map, take_all}
use Rattle.once_cell.specs.Once.{cell_name}
use Rattle.directory_core.specs.Identity.{Identity}
use Rattle.directory_core.proofs.Readings.{cells_more}
use Rattle.directory_core.proofs.directory.Directory.pass.Goals as goal

pub loop-bucket-preserved : goal.loop-bucket-preserved
loop-bucket-preserved g c =
    let i = c.loop-bucket.invariant in
    let i₀ = i.0 in
    let i₁ = i.1 in
    let v = c.deref-bucket-items.ensures.value in
    let lt : c.loop-bucket.bucket-index < length c.self.inside.buckets.items = omega (arith, c.loop-bucket-test.true, ap length v) in (
      omega (arith, c.push_reserved.ensures.len),
      omega (arith, c.push_reserved.ensures.capacity),
      rw c.push_reserved.ensures.items
          (cells_more cell_name c.self.inside.buckets.items c.loop-bucket.bucket-index c.bucket-item.result c.loop-bucket.buckets.items c.note.result
          lt (c.bucket-item.is ∙ ap (λ xs. get_or xs c.loop-bucket.bucket-index c.bucket-item.result) v) i.2 c.note.ensures.0),
    )

pub of-requires-clause-buckets : goal.of-requires-clause-buckets
of-requires-clause-buckets g c κs held =
    let i = c.loop-bucket.invariant.0 in
    let all = c.self.invariant.0 in
    let v = ap length c.deref-bucket-items.ensures.value in
    omega (arith, c.loop-bucket-test.false, c.loop-bucket.auto.bucket-index-end)

pub of-requires-clause-notes : goal.of-requires-clause-notes
of-requires-clause-notes g c κs held = (ap length c.in_ok-notes.ensures.items, c.in_ok-notes.ensures.capacity)

pub of-requires-clause-starts : goal.of-requires-clause-starts
of-requires-clause-starts g c κs held = (ap length c.in_ok-starts.ensures.items, c.in_ok-starts.ensures.capacity)

pub of-requires-clause-limits : goal.of-requires-clause-limits
of-requires-clause-limits g c κs held = (c.self.invariant.1, c.self.invariant.2)

pub returns : goal.returns
returns g c =
    let names = map cell_name c.self.inside.buckets.items in
    let v = ap length c.deref-bucket-items.ensures.value in
    let le : length names ≤ c.loop-bucket.bucket-index = omega (arith, length-map c.self.inside.buckets.items cell_name, c.loop-bucket-test.false) in
    let with = λ (buckets : List ℕ). let d : Identity = record { name = record { buckets = buckets }; room = c.self.inside.room; limit = c.self.inside.limit } in d in (
      c.of.ensures.of ∙ (ap with (c.loop-bucket.invariant.2 ∙ take_all c.loop-bucket.bucket-index names le) ∙ c.self.view_is),
      c.of.ensures.none.0,
      c.of.ensures.none.1,
    )
