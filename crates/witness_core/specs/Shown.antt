-- The frames that a file shows a reader, call by call.
use Rattle.std.specs.Prelude.{◌≡◌, ◌≢◌, ◌⊎◌, ℕ, zero, suc, ◌+◌, ◌<◌, List, [], ◌∷◌, ◌++◌, length, slice_index}
use Rattle.disk_core.specs.State.{State}
use Rattle.disk_core.specs.Calls.{bytes_of}
use Rattle.segment_core.specs.declared.format.Shape.{Shape}
use Rattle.segment_core.specs.Frame.{Frame, text, open_gate, header_len}
use Rattle.segment_core.specs.Tally.{AreLegal}
use Rattle.beside_core.specs.MayDiffer.{MayDiffer}

-- The bytes are those of a file with these frames, as they were first written, but for home bytes that a later change
-- covers; and a closed gate stands behind them.
pub record ShowsFrames (shape : Shape) (frames : List Frame) (bytes : List ℕ) : Type 0 where
  pub legal : AreLegal shape frames
  pub stands : (j : ℕ) → j < length (text shape frames)
      → (slice_index bytes j ≡ slice_index (text shape frames) j) ⊎ ((i : ℕ) × (j ≡ header_len + i) × MayDiffer shape 0 frames i)
  pub closed : slice_index bytes (length (text shape frames)) ≢ open_gate

-- one frame more is shown, and no byte has changed but its gate
pub record OpensGate (shape : Shape) (before behind : List Frame) (old new : List ℕ) : Type 0 where
  pub frame : Frame
  pub behind_is : behind ≡ before ++ frame ∷ []
  pub gate_alone : (j : ℕ) → j ≢ length (text shape before) → slice_index new j ≡ slice_index old j

-- Behind the last n calls of a disk its file shows these frames. Before them, and behind each, it showed frames too; and no
-- call did more than to open the next gate.
abbrev pub HasShown : Shape → ℕ → List State → List Frame → Type 0
HasShown shape zero states frames = ShowsFrames shape frames (bytes_of states)
HasShown shape (suc n) [] frames = ⊥
HasShown shape (suc n) (s ∷ earlier) frames =
    (before : List Frame) × HasShown shape n earlier before × ShowsFrames shape frames s.seen × ((frames ≡ before) ⊎ OpensGate shape before frames (bytes_of earlier) s.seen)
