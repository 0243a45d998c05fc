-- What a search is for, and lines that answer with a number.
use Rattle.std.specs.Prelude.{◌≡◌, ◌↔◌, ℕ, List, codes, decimal, Bool, true, Option, Some, None}
use Rattle.text_core.specs.Text.{ended_line}

abbrev pub number_line : ℕ → List ℕ
number_line n = ended_line (decimal n)

-- a position, or that there is none
abbrev pub found_line : Option ℕ → List ℕ
found_line None = ended_line (codes "none")
found_line (Some position) = number_line position

-- the test holds of this record, and of no other
abbrev pub TestsFor : {R : Type 0} → R → (R → Bool) → Type 0
TestsFor {R} wanted is = (r : R) → is r ≡ true ↔ r ≡ wanted
