-- The frames that bytes hold, and what these say, as functions of the bytes: what is seen of a file whose frames end at a
-- known gate.
use Rattle.std.specs.Prelude.{ℕ, zero, suc, ◌+◌, List, [], ◌∷◌, take, drop, Option, Some, None}
use Rattle.segment_core.specs.declared.format.Shape.{Shape}
use Rattle.segment_core.specs.Frame.{Frame, header_len, frame_head_len}
use Rattle.segment_core.specs.Tally.{tally_of}
use Rattle.segment_core.specs.Layout.{frame_in}
use Rattle.segment_core.specs.Vector.{place_of}
use Rattle.segment_core.specs.Fault.{kind_in, payload_len_in, payload_in}

-- the frames whose text these bytes are, at most so many
abbrev pub frames_from : Shape → ℕ → List ℕ → List Frame
frames_from shape zero bytes = []
frames_from shape (suc n) [] = []
frames_from shape (suc n) (b ∷ bytes) = frame_in shape (kind_in (b ∷ bytes)) (payload_in (b ∷ bytes)) ∷ frames_from shape n (drop (frame_head_len + payload_len_in (b ∷ bytes)) (b ∷ bytes))

-- the frames between the header and the gate
unfoldable pub frames_before : Shape → ℕ → List ℕ → List Frame
frames_before shape gate bytes = frames_from shape gate (drop header_len (take gate bytes))

abbrev pub cell_at : ℕ → List ℕ → Option ℕ → List ℕ
cell_at width bytes None = []
cell_at width bytes (Some place) = take width (drop place bytes)

-- the bytes of n records that the frames say, from position i on
abbrev pub cells_from : Shape → ℕ → List Frame → List ℕ → ℕ → List (List ℕ)
cells_from shape zero frames bytes i = []
cells_from shape (suc n) frames bytes i = cell_at shape.width bytes (place_of shape frames i) ∷ cells_from shape n frames bytes (suc i)

-- the vector that they leave, each record as its bytes
unfoldable pub vector_before : Shape → ℕ → List ℕ → List (List ℕ)
vector_before shape gate bytes = let frames = frames_before shape gate bytes in cells_from shape (tally_of frames).size frames bytes 0
