-- What is left of a block once what was lent of it is back.
use Rattle.std.specs.Prelude.{List, ◌++◌}
use Rattle.std.specs.Borrow.{Lends, LendsBoth, MutBor, Fml, Array, RattleType}
use Rattle.std.specs.declared.cmp.PartialEq as PartialEq
use Rattle.record_core.specs.declared.record.Record as Record
use Rattle.block_core.specs.Left.{left_in}
use Rattle.block_core.specs.contracts.block.Fresh.{the_row}

module _ (R : RattleType) (record_of : Record.Ghosts R.Denot) (eq_of : PartialEq.Ghosts R.Denot) where
  -- the block has what is left in the slice
  abbrev pub LendsRecords : MutBor (List R.Denot) → MutBor (List R.Denot) → Fml
  LendsRecords block slice = Lends (the_row R record_of eq_of) (Array R 0) block slice (left_in block.now)

  -- the block has what is left in the front half, and behind it what is left in the back half
  abbrev pub LendsHalves : MutBor (List R.Denot) → MutBor (List R.Denot) × MutBor (List R.Denot) → Fml
  LendsHalves block halves = LendsBoth (the_row R record_of eq_of) (Array R 0) (Array R 0) block halves (λ front back. left_in block.now (front ++ back))
