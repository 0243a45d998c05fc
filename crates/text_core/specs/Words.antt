-- Group lines word by word.
use Rattle.std.specs.Prelude.{◌≡◌, ◌≢◌, ℕ, ◌<◌, List, [], ◌∷◌, ◌++◌, length, codes, ◌⊎◌}
use Rattle.text_core.specs.Text.{Spelling}

-- a bar behind a record ends the growth
pub record EndsGrowth {R : Type 0} (word : List ℕ) (growths : List (List R)) (growth : List R) (new_growths : List (List R)) (new_growth : List R) : Type 0 where
  pub is_bar : word ≡ codes "|"
  pub filled : 0 < length growth
  pub moved : new_growths ≡ growths ++ growth ∷ []
  pub fresh : new_growth ≡ []

-- the text of a record brings it into the growth
pub record BringsRecord {R : Type 0} (spelling : Spelling R) (word : List ℕ) (growths : List (List R)) (growth : List R) (new_growths : List (List R)) (new_growth : List R) : Type 0 where
  pub record_read : R
  pub value : spelling.is_value record_read
  pub text : spelling.text_of record_read ≡ word
  pub same : new_growths ≡ growths
  pub brought : new_growth ≡ growth ++ record_read ∷ []

abbrev pub TakesWord : {R : Type 0} → Spelling R → List ℕ → List (List R) → List R → List (List R) → List R → Type 0
TakesWord spelling word growths growth new_growths new_growth =
    EndsGrowth word growths growth new_growths new_growth ⊎ BringsRecord spelling word growths growth new_growths new_growth

-- a bar that ends no growth, or the text of no record
abbrev pub IsStrayWord : {R : Type 0} → Spelling R → List ℕ → List R → Type 0
IsStrayWord {R} spelling word growth =
    ((word ≡ codes "|") × (growth ≡ [])) ⊎ ((word ≢ codes "|") × ((r : R) → spelling.is_value r → spelling.text_of r ≢ word))
