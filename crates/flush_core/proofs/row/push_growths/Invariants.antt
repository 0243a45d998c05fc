use Rattle.std.proofs.Common.{◌≡◌, ◌+◌, ◌-◌, ◌≤◌, ◌++◌, take, drop, map}
use Rattle.std.specs.Prelude.{vec_len, vec_capacity}
use Rattle.flush_core.proofs.row.push_growths.Given as goal

abbrev pub invariant-loop-number : goal.invariant-loop-number
invariant-loop-number g l = record {
  same : l.pass ≡ l.fn.pass;
  room : vec_len l.row + l.to ≤ vec_capacity l.row + l.number;
  pushed : map (λ growth. growth.now) l.row.items ≡ map (λ growth. growth.now) l.fn.row.items ++ map (λ e. e.records) (take (l.number - l.from) (drop l.from l.fn.pass.entries));
}
