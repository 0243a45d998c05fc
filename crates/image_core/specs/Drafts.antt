-- A file as it is made of groups, one by one.
use Rattle.std.specs.Prelude.{◌≡◌, ℕ, ◌+◌, List, Option, Some, None, map}
use Rattle.record_core.specs.Bytes.{Encoding}
use Rattle.segment_core.specs.declared.format.Format.TheVariants.{One}
use Rattle.segment_core.specs.Shape.{shape_of}
use Rattle.segment_core.specs.Frame.{text}
use Rattle.segment_core.specs.declared.fault.ImageFault.TheVariants.{TooLarge}
use Rattle.segment_core.specs.Written.{group_frame, AllFit, IsImageRefused}

-- it has the groups so far, or this line, counted from 1, has the first group that is too large
abbrev pub IsDraft : {R : Type 0} → Encoding R → List (List (List R)) → List ℕ → Option ℕ → Type 0
IsDraft form groups file None = AllFit form.width groups × (file ≡ text (shape_of One form) (map (group_frame form) groups))
IsDraft form groups file (Some line) = (k : ℕ) × IsImageRefused form.width groups (TooLarge k) × (line ≡ k + 1)
