-- What contracts see of a growth: its label, and its records.
use Rattle.std.specs.Prelude.{ℕ, List}
use Rattle.block_core.specs.declared.entry.Label.{Label}

pub record Growth (R : Type 0) : Type 0 where
  pub number : ℕ
  pub start : ℕ
  pub seat : ℕ
  pub serial : ℕ
  pub records : List R

-- these records under that label
abbrev pub labelled : {R : Type 0} → Label → List R → Growth R
labelled label records = record { number = label.number; start = label.start; seat = label.seat; serial = label.serial; records = records }
