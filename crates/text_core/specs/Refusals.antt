-- The names of refusals, and when each of them is right.
use Rattle.std.specs.Prelude.{ℕ, ◌<◌, List, ◌++◌, length, codes, decimal}
use Rattle.text_core.specs.declared.refusal.Refusal.{Refusal}
use Rattle.text_core.specs.declared.refusal.Refusal.TheVariants as refusals
use Rattle.text_core.specs.HexLine.{IsHexLine}
use Rattle.text_core.specs.Text.{ended_line}

abbrev pub name_of : Refusal → List ℕ
name_of (refusals.Line n) = codes "line " ++ decimal n
name_of (refusals.TooLargeAtLine n) = codes "too large at line " ++ decimal n
name_of refusals.NotHex = codes "not hex"
name_of refusals.Input = codes "input"
name_of refusals.InputTooLong = codes "input too long"
name_of refusals.Memory = codes "memory"

-- the line that is printed of what refuses by this name
abbrev pub refused_line : List ℕ → List ℕ
refused_line name = codes "refused: " ++ ended_line name

abbrev pub refusal_line : Refusal → List ℕ
refusal_line refusal = refused_line (name_of refusal)

-- the bytes that an engine takes at most
abbrev pub input_limit : ℕ
input_limit = 67108864

-- A reader's bytes were not taken. That a read failed is nothing that a reader's bytes tell.
abbrev pub IsInputRefusal : List ℕ → Refusal → Type 0
IsInputRefusal input refusals.InputTooLong = input_limit < length input
IsInputRefusal input refusals.Input = Unit {0}
IsInputRefusal input refusals.Memory = Unit {0}
IsInputRefusal input (refusals.Line n) = ⊥
IsInputRefusal input (refusals.TooLargeAtLine n) = ⊥
IsInputRefusal input refusals.NotHex = ⊥

-- a hex line was refused
abbrev pub IsHexRefusal : List ℕ → Refusal → Type 0
IsHexRefusal input refusals.NotHex = (bytes : List ℕ) → ¬ (IsHexLine input bytes)
IsHexRefusal input refusals.Memory = Unit {0}
IsHexRefusal input refusals.InputTooLong = ⊥
IsHexRefusal input refusals.Input = ⊥
IsHexRefusal input (refusals.Line n) = ⊥
IsHexRefusal input (refusals.TooLargeAtLine n) = ⊥
