-- Runs of records as words: a number and the records behind it, with a bar between each two runs.
use Rattle.std.specs.Prelude.{◌≡◌, ℕ, ◌<◌, ◌^◌, List, [], ◌∷◌, ◌++◌, length, map, codes, decimal}
use Rattle.std.specs.List.{AllByRecursion, flat_map}
use Rattle.text_core.specs.Text.{Spelling}
use Rattle.play_core.specs.LineWords.{StartsWithNone}

-- a number of 64 bits, and a record or more, all of them values of their type
pub record IsLineRun {R : Type 0} (spelling : Spelling R) (run : ℕ × List R) : Type 0 where
  pub small : run.0 < 2 ^ 64
  pub some : 0 < length run.1
  pub values : AllByRecursion spelling.is_value run.1

-- one run or more
pub record AreLineRuns {R : Type 0} (spelling : Spelling R) (runs : List (ℕ × List R)) : Type 0 where
  pub some : 0 < length runs
  pub each : AllByRecursion (IsLineRun spelling) runs

abbrev pub run_words : {R : Type 0} → (R → List ℕ) → ℕ × List R → List (List ℕ)
run_words text_of run = decimal run.0 ∷ map text_of run.1

-- a run behind a bar
abbrev pub barred_words : {R : Type 0} → (R → List ℕ) → ℕ × List R → List (List ℕ)
barred_words text_of run = codes "|" ∷ run_words text_of run

abbrev pub runs_words : {R : Type 0} → (R → List ℕ) → List (ℕ × List R) → List (List ℕ)
runs_words text_of [] = []
runs_words text_of (run ∷ more) = run_words text_of run ++ flat_map (barred_words text_of) more

-- one more run is read from these words, up to the first that is no record, and these are left
pub record IsPushed {R : Type 0} (spelling : Spelling R) (words : List (List ℕ)) (old new : List (ℕ × List R)) (left : List (List ℕ)) : Type 0 where
  pub run : ℕ × List R
  pub more : new ≡ old ++ run ∷ []
  pub is_run : IsLineRun spelling run
  pub parts : words ≡ run_words spelling.text_of run ++ left
  pub all : StartsWithNone spelling left
