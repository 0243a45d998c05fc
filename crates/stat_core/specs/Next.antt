-- What is read of the frame at a gate.
use Rattle.std.specs.Prelude.{◌≡◌, ◌≤◌, ℕ, ◌+◌, true, List, length, Option, Some, None, Result, Ok, Err}
use Rattle.segment_core.specs.declared.fault.ScanFault.{ScanFault}
use Rattle.segment_core.specs.declared.format.Shape.{Shape}
use Rattle.segment_core.specs.declared.tally.Tally.{Tally}
use Rattle.segment_core.specs.Frame.{open_gate, frame_head_len}
use Rattle.segment_core.specs.Frame as frames
use Rattle.segment_core.specs.Fault.{first_line, order_lines, frame_fault, is_closed}
use Rattle.stat_core.specs.declared.outline.Outline.{Outline}
use Rattle.stat_core.specs.declared.outline.Outline.TheVariants.{Group, Change, Shrink, Fold}
use Rattle.stat_core.specs.Outline.{IsOutlined, MayStand, HasNumber, outline_kind, outline_len}

-- a Shrink or a Fold may not come now, and this says why
abbrev pub IsOrderFault : ℕ → Tally → Outline → ScanFault → Type 0
IsOrderFault at tally (Group growths records) fault = ⊥
IsOrderFault at tally (Change runs records) fault = ⊥
IsOrderFault at tally (Shrink n) fault = first_line (order_lines at tally (frames.Shrink n)) ≡ Some fault
IsOrderFault at tally (Fold count) fault = first_line (order_lines at tally (frames.Fold count)) ≡ Some fault

-- what is answered of the frame whose gate is at p, where bytes is the image from there on
abbrev pub IsNextOutline : Shape → ℕ → Tally → List ℕ → Result (Option (Outline × ℕ)) ScanFault → Type 0
IsNextOutline shape at tally bytes (Ok None) = is_closed bytes ≡ true
IsNextOutline shape at tally bytes (Ok (Some next)) = IsOutlined shape bytes next.0 × MayStand tally next.0 × (next.1 ≡ outline_len shape next.0)
IsNextOutline shape at tally bytes (Err fault) = frame_fault shape at tally bytes ≡ Some fault

-- that payload, of a frame of this kind, has this outline
pub record IsOutlineOf (shape : Shape) (kind : ℕ) (payload : List ℕ) (outline : Outline) : Type 0 where
  pub kind_is : outline_kind outline ≡ kind
  pub len : outline_len shape outline ≡ length payload
  pub number : HasNumber shape.format payload outline

-- what is known of the frame whatever the file
pub record IsSized (shape : Shape) (tally : Tally) (left : ℕ) (next : Outline × ℕ) : Type 0 where
  pub len : next.1 ≡ outline_len shape next.0
  pub inside : frame_head_len + next.1 ≤ left
  pub stands : MayStand tally next.0
