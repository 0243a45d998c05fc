-- What words spell.
use Rattle.std.specs.Prelude.{◌≡◌, ◌≢◌, ◌⊎◌, ℕ, ◌<◌, List, ◌∷◌, ◌++◌, length, map, codes, All, Option, Some, None}
use Rattle.std.specs.List.{AllByRecursion}
use Rattle.text_core.specs.Text.{Spelling, joined_by}
use Rattle.text_core.specs.Numbers.{number_spelling}
use Rattle.text_core.specs.declared.refusal.Refusal.TheVariants.{Memory}
use Rattle.files_core.specs.declared.fault.Word.TheVariants.{Records}
use Rattle.files_core.specs.declared.fault.FileFault.{FileFault}
use Rattle.files_core.specs.declared.fault.FileFault.TheVariants.{Word, Input}

-- the word is the text of this record
pub record IsRecord {R : Type 0} (spelling : Spelling R) (word : List ℕ) (r : R) : Type 0 where
  pub value : spelling.is_value r
  pub text : spelling.text_of r ≡ word

-- the word is this number of 64 bits
abbrev pub IsNumber : List ℕ → ℕ → Type 0
IsNumber word n = IsRecord (number_spelling 64) word n

-- the word, where there is one, is this number; else it is that other one
abbrev pub IsNumberOr : Option (List ℕ) → ℕ → ℕ → Type 0
IsNumberOr None other n = n ≡ other
IsNumberOr (Some word) other n = IsNumber word n

-- there is a word, and it is no number
abbrev pub IsNoNumber : Option (List ℕ) → Type 0
IsNoNumber None = ⊥
IsNoNumber (Some word) = (n : ℕ) → ¬ (IsNumber word n)

-- the word has these records, one at least, with a comma between each two
pub record SpellsRecords {R : Type 0} (spelling : Spelling R) (word : List ℕ) (records : List R) : Type 0 where
  pub some : 0 < length records
  pub values : AllByRecursion spelling.is_value records
  pub text : word ≡ joined_by (codes ",") (map spelling.text_of records)

-- The part stands in the word from its beginning or a comma on, up to the next comma or the end.
pub record IsWordPart (word part : List ℕ) : Type 0 where
  pub rest : List ℕ
  pub begins : (word ≡ rest) ⊎ ((front : List ℕ) × (word ≡ front ++ 44 ∷ rest))
  pub ends : (rest ≡ part) ⊎ ((behind : List ℕ) × (rest ≡ part ++ 44 ∷ behind))
  pub plain : All (λ b. b ≢ 44) part

-- Such a word wasn't read: a part of it between two commas is no record, or there was no memory.
abbrev pub IsRecordsRefusal : {R : Type 0} → Spelling R → List ℕ → FileFault → Type 0
IsRecordsRefusal {R} spelling word fault =
    ((fault ≡ Word Records) × ((part : List ℕ) × IsWordPart word part × ((r : R) → ¬ (IsRecord spelling part r))))
    ⊎ (fault ≡ Input Memory)
