-- Which directory it is.
use Rattle.std.specs.Prelude.{ℕ, List}

-- a name that no two directories share. It stands on the names of the bucket's cells; no clause that another
-- crate can use looks inside
pub record Name : Type 0 where
  pub buckets : List ℕ

-- what contracts see of a directory: which one it is, how many growths it has room for, and how many records
pub record Identity : Type 0 where
  pub name : Name
  pub room : ℕ
  pub limit : ℕ
