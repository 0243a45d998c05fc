-- What is read of a file beside its writer.
use Rattle.std.specs.Prelude.{◌≡◌, ℕ, ◌<◌, ◌≤◌, List, [], ◌∷◌, ◌++◌, length, Result, MatchResult}
use Rattle.std.specs.Global.{Vec}
use Rattle.std.specs.List.{flat_map}
use Rattle.disk_core.specs.Shared.{InTurn}
use Rattle.segment_core.specs.declared.format.Shape.{Shape}
use Rattle.segment_core.specs.Frame.{Frame, text, kind_of, frame_text, closed_gate}
use Rattle.segment_core.specs.Tally.{tally_from, tally_of, AreLegalFrom}
use Rattle.beside_core.specs.declared.fault.LookFault.{LookFault}
use Rattle.beside_core.specs.Fault.{IsNoDamage}
use Rattle.beside_core.specs.PensFile.{IsPensFile}
use Rattle.beside_core.specs.Replay.{replayed, vector_left}

-- bytes from a place on were read behind others, one after the other
pub record ReadBehind (kept : Type 0) (held : ℕ → List ℕ) (from to place : ℕ) (before after : List ℕ) : Type 0 where
  pub got : List ℕ
  pub after_is : after ≡ before ++ got
  pub there : kept → InTurn held from to place got

abbrev pub IsAmong : Frame → List Frame → Type 0
IsAmong frame frames = (before : List Frame) × (after : List Frame) × (frames ≡ before ++ frame ∷ after)

-- From the gate behind the known frames on, a look has read the text of the frames that came until one moment in it, each
-- with the home bytes that stood there; and a closed gate. Replayed, they make of the known vector that of the moment.
pub record LookedOn (shape : Shape) (frames : ℕ → List Frame) (known : List Frame) (from to gate : ℕ) (bytes : List ℕ) : Type 0 where
  pub moment : ℕ
  pub since : from ≤ moment
  pub until : moment ≤ to
  pub came : List Frame
  pub frames_are : frames moment ≡ known ++ came
  pub gate_is : gate ≡ length (text shape (frames moment))
  pub reads : List Frame
  pub text_is : bytes ≡ flat_map (frame_text shape.format) reads ++ closed_gate ∷ []
  pub many : length reads ≡ length came
  pub legal : AreLegalFrom shape (tally_of known) reads
  pub tally_is : tally_from (tally_of known) reads ≡ tally_of (frames moment)
  pub vector_is : replayed shape.width (vector_left shape.width known) reads ≡ vector_left shape.width (frames moment)
  -- a frame that is no group was read as it was written
  pub others : (frame : Frame) → 1 < kind_of frame → IsAmong frame reads → IsAmong frame came

-- what a look from this gate on answers of the file of a pen, whatever the frames before the gate
abbrev pub LooksFrom : Shape → (ℕ → List ℕ) → ℕ → ℕ → ℕ → Result (ℕ × Vec ℕ) LookFault → Type 0
LooksFrom shape held from to at result =
    (frames : ℕ → List Frame) (known : List Frame) → IsPensFile shape held frames → at ≡ length (text shape known) → (more : List Frame) × (frames from ≡ known ++ more)
    → MatchResult result (λ found. LookedOn shape frames known from to found.0 found.1.items) IsNoDamage
