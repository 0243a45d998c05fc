-- What the one writer of a file keeps at each moment.
use Rattle.std.specs.Prelude.{◌≡◌, ◌≢◌, ◌⊎◌, ℕ, ◌+◌, ◌<◌, ◌≤◌, ◌^◌, List, ◌++◌, length, slice_index}
use Rattle.segment_core.specs.declared.format.Shape.{Shape}
use Rattle.segment_core.specs.Frame.{Frame, text, open_gate, header_len}
use Rattle.segment_core.specs.Tally.{AreLegal}
use Rattle.beside_core.specs.MayDiffer.{MayDiffer}

-- The file of a pen. At moment t it has the frames `frames t`, as they were first written, and a closed gate behind them.
-- What stands behind that gate is anything.
pub record IsPensFile (shape : Shape) (held : ℕ → List ℕ) (frames : ℕ → List Frame) : Type 0 where
  pub wide : 0 < shape.width
  pub narrow : shape.width < 2 ^ 16
  pub legal : (t : ℕ) → AreLegal shape (frames t)
  -- no frame is taken back
  pub grows : (s t : ℕ) → s ≤ t → (more : List Frame) × (frames t ≡ frames s ++ more)
  -- only home bytes of positions that a later change covers are written again
  pub stands : (t j : ℕ) → j < length (text shape (frames t))
      → (slice_index (held t) j ≡ slice_index (text shape (frames t)) j) ⊎ ((i : ℕ) × (j ≡ header_len + i) × MayDiffer shape 0 (frames t) i)
  pub closed : (t : ℕ) → slice_index (held t) (length (text shape (frames t))) ≢ open_gate
