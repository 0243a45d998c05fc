use Rattle.std.proofs.Common.{map, ◌∙◌, arith}
use Rattle.flush_core.proofs.Next.{row_more}
use Rattle.flush_core.proofs.row.push_growths.Goals as goal

pub loop-number-preserved : goal.loop-number-preserved
loop-number-preserved g c =
    let i = c.loop-number.invariant in
    let entries = c.args.pass.now.entries in
    record {
      same = c.entry.ensures.same ∙ i.same;
      room = let len = c.push_reserved.ensures.len in let capacity = c.push_reserved.ensures.capacity in let room = i.room in omega arith;
      pushed = rw c.push_reserved.ensures.items
          (row_more entries c.args.from c.loop-number.row.items
          (map (λ growth. growth.now) c.args.row.now.items) c.records.result c.loop-number.number c.in-Some.entry.now (omega arith)
          (rw (← i.same) c.in-Some.ensures.value) c.records.ensures.value i.pushed);
    }
