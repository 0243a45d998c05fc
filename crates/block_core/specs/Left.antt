-- What is left of a run of records once what was lent of it is back.
use Rattle.std.specs.Prelude.{List, ◌++◌, length, take, drop}

-- the records that were left in a run of `old` ones: where `left` has the length of `old`, as what is left in
-- a slice has, they are `left`
abbrev pub left_in : {R : Type 0} → List R → List R → List R
left_in old left = take (length old) (left ++ drop (length left) old)
