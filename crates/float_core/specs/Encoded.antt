-- Lines of floats as lines of the numbers that have their bits, word by word.
use Rattle.std.specs.Prelude.{◌≡◌, ◌≢◌, ◌⊎◌, ℕ, ◌≤◌, ◌<◌, List, [], ◌∷◌, ◌++◌, length, codes, decimal, Bool, cond, ◌==◌, ◌||◌, not, true, Option, Some, None}
use Rattle.std.specs.List.{AllPass, flat_map}
use Rattle.float_core.specs.declared.float.FloatType.{FloatType}
use Rattle.float_core.specs.declared.encoding.FloatLines.{FloatLines}
use Rattle.float_core.specs.declared.encoding.FloatLines.TheVariants.{Growths, Steps}
use Rattle.float_core.specs.declared.encoding.Place.{Place}
use Rattle.float_core.specs.declared.encoding.Place.TheVariants.{Verb, Number, Record, Nowhere}
use Rattle.float_core.specs.Floats.{IsFloatText}

-- what is known of an input behind some bytes of it: what its next word is, and the bytes of that which have come
pub record Reading : Type 0 where
  pub float : FloatType
  pub lines : FloatLines
  pub place : Place
  pub held : List ℕ

-- ---- which words are floats

abbrev pub first_place : FloatLines → Place
first_place Growths = Record
first_place Steps = Verb

-- What the word behind this one is. A step has a verb, a number and records, and behind a bar a number and records; `share` has none.
abbrev pub IsBehind : FloatLines → Place → List ℕ → Place → Type 0
IsBehind Growths place word next = next ≡ Record
IsBehind Steps Verb word next = ((word ≡ codes "share") × (next ≡ Nowhere)) ⊎ ((word ≢ codes "share") × (next ≡ Number))
IsBehind Steps Number word next = next ≡ Record
IsBehind Steps Record word next = ((word ≡ codes "|") × (next ≡ Number)) ⊎ ((word ≢ codes "|") × (next ≡ Record))
IsBehind Steps Nowhere word next = next ≡ Nowhere

-- ---- what is given for words

-- the word is short enough, and the text of this float
abbrev pub IsFloatWord : FloatType → List ℕ → ℕ → Type 0
IsFloatWord float word bits = (length word ≤ 4096) × IsFloatText float word bits

-- for a record that is a float the number that has its bits; all else stays
abbrev pub IsGiven : FloatType → Place → List ℕ → List ℕ → Type 0
IsGiven float Record word given =
    ((bits : ℕ) × IsFloatWord float word bits × (given ≡ decimal bits)) ⊎ (((bits : ℕ) → ¬ (IsFloatWord float word bits)) × (given ≡ word))
IsGiven float Verb word given = given ≡ word
IsGiven float Number word given = given ≡ word
IsGiven float Nowhere word given = given ≡ word

-- the same where a word may be empty, which two blanks have between them
abbrev pub IsWordGiven : FloatType → FloatLines → Place → List ℕ → List ℕ → Place → Type 0
IsWordGiven float lines place word given next =
    ((word ≡ []) × (given ≡ []) × (next ≡ place)) ⊎ ((word ≢ []) × IsGiven float place word given × IsBehind lines place word next)

-- a blank or an LF, which ends a word
abbrev pub ends_word : ℕ → Bool
ends_word b = b == 32 || b == 10

abbrev pub IsPlain : List ℕ → Type 0
IsPlain word = AllPass (λ b. not (ends_word b)) word

-- a word, what is given for it, and what ends it; of too long a word a part, which nothing ends
pub record Turned : Type 0 where
  pub word : List ℕ
  pub given : List ℕ
  pub end : Option ℕ

abbrev pub end_bytes : Option ℕ → List ℕ
end_bytes None = []
end_bytes (Some b) = b ∷ []

abbrev pub taken_bytes : List Turned → List ℕ
taken_bytes turned = flat_map (λ t. t.word ++ end_bytes t.end) turned

abbrev pub given_bytes : List Turned → List ℕ
given_bytes turned = flat_map (λ t. t.given ++ end_bytes t.end) turned

abbrev pub IsTurnedWith : FloatType → FloatLines → Place → List ℕ → List ℕ → Option ℕ → Place → Type 0
IsTurnedWith float lines place word given None next = (4096 < length word) × (given ≡ word) × (next ≡ place)
IsTurnedWith float lines place word given (Some b) next =
    (ends_word b ≡ true) × ((mid : Place) × IsWordGiven float lines place word given mid × (next ≡ cond (b == 10) (first_place lines) mid))

abbrev pub AreTurned : FloatType → FloatLines → Place → List Turned → Place → Type 0
AreTurned float lines place [] next = next ≡ place
AreTurned float lines place (t ∷ turned) next =
    (mid : Place) × IsPlain t.word × IsTurnedWith float lines place t.word t.given t.end mid × AreTurned float lines mid turned next

-- the bytes were taken, and these were given for them and for those that had been held
pub record IsEncoded (old : Reading) (bytes own : List ℕ) (new : Reading) : Type 0 where
  pub turned : List Turned
  pub taken : old.held ++ bytes ≡ taken_bytes turned ++ new.held
  pub given : own ≡ given_bytes turned
  pub each : AreTurned old.float old.lines old.place turned new.place
  pub float : new.float ≡ old.float
  pub lines : new.lines ≡ old.lines
