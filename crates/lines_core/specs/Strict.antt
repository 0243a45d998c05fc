-- Lines that are taken leniently. The strict line of one is what is left of it without a carriage return at its end, blanks and tabs at
-- its front and end, and with one blank for those in between. Each other byte stays, and so does a carriage return before another
-- byte of the line; that is refused then.
use Rattle.std.specs.Prelude.{ℕ, List, [], ◌∷◌, ◌++◌, Bool, true, false, cond, ◌==◌, ◌||◌, ◌&&◌, not}
use Rattle.lines_core.specs.declared.strict.Held.{Held}
use Rattle.lines_core.specs.Batches.{is_lf}

-- what is held back where a line begins
abbrev pub nothing_held : Held
nothing_held = record { has_begun = false; blank = false; carriage_return = false }

abbrev pub is_blank : ℕ → Bool
is_blank b = b == 32 || b == 9

abbrev pub is_return : ℕ → Bool
is_return b = b == 13

-- what is held back, where more of the line comes: one blank for all, unless they stand at the front, and the carriage return
abbrev pub held_bytes : Held → List ℕ
held_bytes held = cond (held.has_begun && held.blank) (32 ∷ []) [] ++ cond held.carriage_return (13 ∷ []) []

-- The strict bytes that are known with one more byte. An LF ends the line, and what is held back is left out. A blank or a
-- carriage return is held back, and what was held back before a carriage return stands within the line then.
abbrev pub strict_byte : Held → ℕ → List ℕ
strict_byte held b = cond (is_lf b) (b ∷ []) (cond (is_blank b || is_return b) (cond held.carriage_return (held_bytes held) []) (held_bytes held ++ b ∷ []))

-- what is held back behind that byte
abbrev pub after_byte : Held → ℕ → Held
after_byte held b = cond (is_lf b) nothing_held
    (cond (is_blank b) (record { has_begun = held.has_begun || held.carriage_return; blank = true; carriage_return = false })
    (cond (is_return b) (record { has_begun = held.has_begun || held.carriage_return; blank = held.blank && not held.carriage_return; carriage_return = true })
    (record { has_begun = true; blank = false; carriage_return = false })))

-- the same of many bytes; those held back at the end of an input are left out
abbrev pub strict_bytes : Held → List ℕ → List ℕ
strict_bytes held [] = []
strict_bytes held (b ∷ bytes) = strict_byte held b ++ strict_bytes (after_byte held b) bytes

abbrev pub after_bytes : Held → List ℕ → Held
after_bytes held [] = held
after_bytes held (b ∷ bytes) = after_bytes (after_byte held b) bytes
