-- The words of a line: what stands between its spaces.
use Rattle.std.specs.Prelude.{◌≢◌, ◌==◌, ℕ, List, [], ◌∷◌, Option, Some, None}
use Rattle.std.specs.List.{slice_split}
use Rattle.std.specs.Borrow.{Bor}
use Rattle.text_core.specs.Text.{Spelling}

abbrev pub words_of : List ℕ → List (List ℕ)
words_of line = slice_split (λ b. b == 32) line

-- those that are left, where a part of the line is
abbrev pub words_left : Option (Bor (List ℕ)) → List (List ℕ)
words_left None = []
words_left (Some text) = words_of text.now

-- the first of these words, if any, is the text of no value
abbrev pub StartsWithNone : {R : Type 0} → Spelling R → List (List ℕ) → Type 0
StartsWithNone {R} spelling words = (r : R) (more : List (List ℕ)) → spelling.is_value r → words ≢ spelling.text_of r ∷ more
