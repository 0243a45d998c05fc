-- What is left of a growth once its records, lent to be written, are back.
use Rattle.std.specs.Prelude.{List}
use Rattle.std.specs.Borrow.{Lends, MutBor, Fml, Array, RattleType}
use Rattle.std.specs.declared.cmp.PartialEq as PartialEq
use Rattle.record_core.specs.declared.record.Record as Record
use Rattle.block_core.specs.Growth.{Growth}
use Rattle.block_core.specs.Left.{left_in}
use Rattle.block_core.specs.contracts.entry.Entry.{the_row}

module _ (R : RattleType) (record_of : Record.Ghosts R.Denot) (eq_of : PartialEq.Ghosts R.Denot) where
  -- the growth has what is left in the slice
  abbrev pub LendsEntry : MutBor (Growth R.Denot) → MutBor (List R.Denot) → Fml
  LendsEntry growth slice = Lends (the_row R record_of eq_of) (Array R 0) growth slice (λ left. record growth.now { records = left_in growth.now.records left })
