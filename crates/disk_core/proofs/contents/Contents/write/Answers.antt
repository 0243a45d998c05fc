use Rattle.std.proofs.Common.{arith, ◌≡◌, ◌⊎◌, inr, [], length, rules}
use Rattle.std.proofs.lemmas.Grind.{common_steps}
use Rattle.disk_core.specs.State.{touched}
use Rattle.disk_core.specs.Contents.{contents_state}
use Rattle.disk_core.proofs.ContentsLemmas.{touched_from, on_err}
use Rattle.disk_core.proofs.contents.Contents.write.Goals as goal
use Rattle.disk_core.proofs.contents.Contents.write.Goals.{then-is_empty+in_ok-self-inside, else-is_empty}

pub returns-clause-half_done : goal.returns-clause-half_done
returns-clause-half_done c =
    let old = c.self.inside in
    let mid = c.if-is_empty.self-inside in
    let s = c.args.self.now in
    let after = contents_state c.lay_over.new.bytes.items mid.synced.items c.push.new.self.items c.max-self-inside.result in
    let Q = (after ≡ s) ⊎ (after ≡ touched s c.args.at (length c.args.bytes.now) s.seen) in
    on_err {P = c.lay_over.new.bytes.items ≡ mid.bytes.items} {Q = Q} c.lay_over.result
    (λ same. elim c.if-is_empty.branch [
      | then-is_empty+in_ok-self-inside w ↦
          let empty : old.pending.items ≡ [] = search rules in
          let copied : w.in_ok-self-inside.field-0.items ≡ old.bytes.items = search rules in
          let view : contents_state mid.bytes.items mid.synced.items mid.pending.items mid.greatest ≡ c.args.self.now = grind (arith, common_steps) in
          let fresh : mid.pending.items ≡ [] → (mid.synced.items ≡ mid.bytes.items) × (mid.greatest ≡ length mid.bytes.items) = search rules in
          inr (touched_from c.args.self.now mid.bytes.items mid.synced.items c.lay_over.new.bytes.items mid.pending.items c.push.new.self.items
          mid.greatest c.max-self-inside.result c.args.at (length c.args.bytes.now) view fresh same (search rules) (search rules))
      | else-is_empty w ↦
          let view : contents_state mid.bytes.items mid.synced.items mid.pending.items mid.greatest ≡ c.args.self.now = search rules in
          let fresh : mid.pending.items ≡ [] → (mid.synced.items ≡ mid.bytes.items) × (mid.greatest ≡ length mid.bytes.items) = search rules in
          inr (touched_from c.args.self.now mid.bytes.items mid.synced.items c.lay_over.new.bytes.items mid.pending.items c.push.new.self.items
          mid.greatest c.max-self-inside.result c.args.at (length c.args.bytes.now) view fresh same (search rules) (search rules))
    ]) c.lay_over.ensures.same

pub lay_over-requires : goal.lay_over-requires
lay_over-requires c = grind (arith, common_steps)

pub returns-clause-done : goal.returns-clause-done
returns-clause-done c = grind (arith, common_steps)
