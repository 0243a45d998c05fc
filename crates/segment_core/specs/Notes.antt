-- What is noted of a position.
use Rattle.std.specs.Prelude.{ℕ, Option}
use Rattle.std.specs.Ordering.{nat_cmp}
use Rattle.std.specs.BTreeMap.{get}
use Rattle.segment_core.specs.declared.notes.Notes.{Notes}

-- the place of the bytes that are no record, at a position that has none
abbrev pub noted : Notes → ℕ → Option ℕ
noted notes position = get nat_cmp notes.places position
