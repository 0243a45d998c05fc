-- Positions in runs whose home bytes are adjacent.
use Rattle.std.specs.Prelude.{◌≡◌, ℕ, ◌+◌, ◌-◌, ◌*◌, ◌≤◌, ◌<◌, ◌^◌, List, [], ◌∷◌, Option, Some, All}
use Rattle.std.specs.List.{flat_map, range_with_len}
use Rattle.segment_core.specs.declared.found.Home.{Home}
use Rattle.segment_core.specs.Found.{home_among, AreInTurn}

-- the records that one write puts into their home bytes at most
abbrev pub write_limit : ℕ
write_limit = 4096

-- the positions of these runs, one after the other
abbrev pub positions_in : List (ℕ × ℕ) → List ℕ
positions_in runs = flat_map (λ run. range_with_len run.0 run.1) runs

-- and of these homes
abbrev pub positions_at : List Home → List ℕ
positions_at homes = flat_map (λ home. range_with_len home.position home.count) homes

-- the first position of a run, and how many it has
abbrev pub home_span : Home → ℕ × ℕ
home_span run = (run.position, run.count)

-- each position below the size has one home, whose bytes keep within the limit on gates; positions behind them may
-- have homes too
pub record AreHomesTo (width size : ℕ) (homes : List Home) : Type 0 where
  pub end : ℕ
  pub reached : size ≤ end
  pub small : end ≤ 2 ^ 32
  pub in_turn : AreInTurn 0 homes end
  pub placed : (i p : ℕ) → home_among width homes i ≡ Some p → p + width ≤ 2 ^ 48

-- positions whose home bytes stand one behind the other, from its place on
abbrev pub IsAdjacent : ℕ → (ℕ → Option ℕ) → Home → Type 0
IsAdjacent width home run = (i : ℕ) → run.position ≤ i → i < run.position + run.count → home i ≡ Some (run.place + (i - run.position) * width)

-- such positions, few enough for one write
pub record IsHomeRun (width : ℕ) (home : ℕ → Option ℕ) (run : Home) : Type 0 where
  pub some : 0 < run.count
  pub few : run.count ≤ write_limit
  pub adjacent : IsAdjacent width home run

-- each begins at or behind the end of the one before, and all stand between these positions
abbrev pub AreAscending : ℕ → ℕ → List Home → Type 0
AreAscending from to [] = from ≤ to
AreAscending from to (run ∷ runs) = (from ≤ run.position) × AreAscending (run.position + run.count) to runs

-- the next one begins where the run ends, in the vector and in the file
abbrev pub Meets : ℕ → Home → Home → Type 0
Meets width run next = (next.position ≡ run.position + run.count) × (next.place ≡ run.place + run.count * width)

-- the next one can't be joined to the run: it doesn't begin where that ends, or the run fills a write
abbrev pub IsApartFrom : ℕ → Home → List Home → Type 0
IsApartFrom width run [] = Unit {0}
IsApartFrom width run (next ∷ runs) = Meets width run next → run.count ≡ write_limit

-- none can be joined to the one before it
abbrev pub AreGreatest : ℕ → List Home → Type 0
AreGreatest width [] = Unit {0}
AreGreatest width (run ∷ runs) = IsApartFrom width run runs × AreGreatest width runs

-- the greatest runs, in ascending order, up to this position
pub record AreGreatestRuns (width : ℕ) (home : ℕ → Option ℕ) (to : ℕ) (runs : List Home) : Type 0 where
  pub ascend : AreAscending 0 to runs
  pub each : All (IsHomeRun width home) runs
  pub greatest : AreGreatest width runs

-- few enough for one write, and within the limits on positions and on places
pub record IsBounded (width : ℕ) (run : Home) : Type 0 where
  pub few : run.count ≤ write_limit
  pub short : run.position + run.count ≤ 2 ^ 32
  pub placed : run.place + run.count * width ≤ 2 ^ 48

-- what is left of a run behind its first positions
abbrev pub behind : ℕ → Home → ℕ → Home
behind width run n = record { position = run.position + n; place = run.place + n * width; count = run.count - n }

-- just the positions of the cover, in order, in the greatest runs
pub record AreHomeRuns (width size : ℕ) (homes : List Home) (cover : List (ℕ × ℕ)) (runs : List Home) : Type 0 where
  pub positions_are : positions_at runs ≡ positions_in cover
  pub runs_are : AreGreatestRuns width (home_among width homes) size runs
