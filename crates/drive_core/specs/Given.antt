-- Records to which positions are changed.
use Rattle.std.specs.Prelude.{ℕ, ◌-◌, Option, Some, None, List, [], ◌∷◌, map, nat_lt, slice_get, if◌then◌else◌}
use Rattle.std.specs.Global.{Vec}

-- the record that a run has at a position, if it reaches it
abbrev pub run_record_at : {R : Type 0} → ℕ × List R → ℕ → Option R
run_record_at run at = if nat_lt at run.0 then None else slice_get run.1 (at - run.0)

abbrev pub or_else : {R : Type 0} → Option R → R → R
or_else (Some r) other = r
or_else None other = other

-- the first run that has a record at the position tells what becomes of it
abbrev pub given_by_runs : {R : Type 0} → List (ℕ × List R) → ℕ → R → R
given_by_runs [] at r = r
given_by_runs (run ∷ runs) at r = or_else (run_record_at run at) (given_by_runs runs at r)

-- runs with their records, as they are given to a step
abbrev pub pieces_of : {R : Type 0} → List (ℕ × Vec R) → List (ℕ × List R)
pieces_of runs = map (λ run. (run.0, run.1.items)) runs
