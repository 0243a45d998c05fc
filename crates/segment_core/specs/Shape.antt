-- What the header of a file says: its format, and the width of a record.
use Rattle.std.specs.Prelude.{ℕ, ◌*◌, ◌==◌, if◌then◌else◌, List, slice_index}
use Rattle.record_core.specs.Bytes.{Encoding}
use Rattle.record_core.specs.Limits.{payload_limit}
use Rattle.segment_core.specs.declared.format.Format.{Format}
use Rattle.segment_core.specs.declared.format.Format.TheVariants.{One, Two}
use Rattle.segment_core.specs.declared.format.Shape.{Shape}

abbrev pub version_of : Format → ℕ
version_of One = 1
version_of Two = 2

-- the bytes of a frame's payload at most
abbrev pub limit_of : Format → ℕ
limit_of One = payload_limit
limit_of Two = payload_limit * 16

-- a file of this format whose records have this form
abbrev pub shape_of : {R : Type 0} → Format → Encoding R → Shape
shape_of format form = record { format = format; width = form.width }

-- the format that a header names, where it names one
abbrev pub format_in : List ℕ → Format
format_in image = if slice_index image 8 == 1 then One else Two
