-- What no call tells of a file.
use Rattle.std.specs.Prelude.{ℕ, List, []}
use Rattle.std.proofs.Common.{arith}
use Rattle.record_core.specs.Bytes.{IsBytes}

pub record FileTruth : Type 0 where
  -- the bytes that it held when it was opened
  pub held : List ℕ
  -- what a read gives after each call that is a write and fails; an entry for each call
  pub left : List (List ℕ)

-- One truth, where any would do in which the file held bytes: nothing rests on which it is.
pub untold : FileTruth
untold = record { held = []; left = [] }

no_bytes : IsBytes []
no_bytes i = omega arith

pub untold_bytes : IsBytes untold.held
unfolding untold
untold_bytes = no_bytes
