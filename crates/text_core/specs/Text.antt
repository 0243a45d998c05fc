-- The text of records: words, and lists of them with a separator between each two.
use Rattle.std.specs.Prelude.{◌≡◌, ℕ, ◌<◌, List, [], ◌∷◌, ◌++◌, length, Bool, not, ◌==◌, ◌||◌}
use Rattle.std.specs.List.{AllPass, flat_map}

-- a byte that a record's text may have: neither LF, space nor bar
abbrev pub is_word_byte : ℕ → Bool
is_word_byte b = not (b == 10 || (b == 32 || b == 124))

-- what a type's text form is: the values that it has, and the text of each
pub record Spelling (X : Type 0) : Type 1 where
  pub is_value : X → Type 0
  pub text_of : X → List ℕ

-- a text that stands as one word in a line
pub record IsWord (text : List ℕ) : Type 0 where
  pub some : 0 < length text
  pub plain : AllPass is_word_byte text

-- each value's text is one word
abbrev pub AreWords : {X : Type 0} → Spelling X → Type 0
AreWords {X} spelling = (x : X) → spelling.is_value x → IsWord (spelling.text_of x)

-- no two values have the same text
abbrev pub HasOneValue : {X : Type 0} → Spelling X → Type 0
HasOneValue {X} spelling = (x y : X) → spelling.is_value x → spelling.is_value y → spelling.text_of x ≡ spelling.text_of y → x ≡ y

-- the parts with the separator between each two
abbrev pub joined_by : List ℕ → List (List ℕ) → List ℕ
joined_by separator [] = []
joined_by separator (part ∷ []) = part
joined_by separator (part ∷ next ∷ more) = part ++ (separator ++ joined_by separator (next ∷ more))

-- a line and its LF
abbrev pub ended_line : List ℕ → List ℕ
ended_line line = line ++ 10 ∷ []

-- one record a line
abbrev pub record_lines : {R : Type 0} → (R → List ℕ) → List R → List ℕ
record_lines text_of records = flat_map (λ r. ended_line (text_of r)) records
