use Rattle.std.proofs.Common.{◌≡◌, ◌+◌, ◌≤◌, length, take, map}
use Rattle.std.specs.Prelude.{vec_len, vec_capacity}
use Rattle.flush_core.proofs.fold.pieces_to.Given as goal

abbrev pub invariant-loop-k : goal.invariant-loop-k
invariant-loop-k g l = record {
  count : vec_len l.row ≡ l.k;
  room : length l.live.blocks + l.to ≤ vec_capacity l.row;
  pushed : map (λ piece. piece.now) l.row.items ≡ take l.k l.live.blocks;
}
