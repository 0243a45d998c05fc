-- The answers of commands over files, as lines.
use Rattle.std.specs.Prelude.{ℕ, ◌-◌, List, ◌++◌, length, codes, decimal}
use Rattle.text_core.specs.Text.{ended_line}
use Rattle.segment_core.specs.declared.vector.Scanned.{Scanned}

abbrev pub created_line : List ℕ
created_line = ended_line (codes "created")

abbrev pub ok_line : List ℕ
ok_line = ended_line (codes "ok")

abbrev pub folded_line : ℕ → List ℕ
folded_line live = ended_line (codes "folded " ++ decimal live)

abbrev pub upgraded_line : ℕ → List ℕ
upgraded_line size = ended_line (codes "upgraded size " ++ decimal size)

abbrev pub copied_line : ℕ → List ℕ
copied_line size = ended_line (codes "copied size " ++ decimal size)

abbrev pub loaded_line : ℕ → ℕ → List ℕ
loaded_line growths size = ended_line ((codes "loaded " ++ decimal growths) ++ (codes " growths, size " ++ decimal size))

abbrev pub appended_line : ℕ → ℕ → List ℕ
appended_line growths size = ended_line ((codes "appended " ++ decimal growths) ++ (codes " growths, size " ++ decimal size))

-- its version, its width, and how many records it has
abbrev pub checked_front : {R : Type 0} → Scanned R → List ℕ
checked_front scanned = (codes "ok version " ++ decimal scanned.version) ++ (codes " width " ++ decimal scanned.width) ++ (codes " size " ++ decimal (length scanned.records.items))

-- these, and how many frames and live changes it has
abbrev pub checked_line : {R : Type 0} → Scanned R → List ℕ
checked_line scanned = ended_line (checked_front scanned ++ (codes " frames " ++ decimal scanned.frames) ++ (codes " live " ++ decimal (scanned.changes - scanned.folded)))
