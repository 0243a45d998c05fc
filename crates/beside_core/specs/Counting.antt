-- Frames that are counted by their heads.
use Rattle.std.specs.Prelude.{◌≡◌, ℕ, ◌+◌, List, length}
use Rattle.disk_core.specs.Shared.{WereThere}
use Rattle.segment_core.specs.Frame.{frame_head_len}
use Rattle.segment_core.specs.Fault.{payload_len_in}

-- a head was read at a gate, and this is the place behind a frame with it
pub record StepsOver (held : ℕ → List ℕ) (from to gate next : ℕ) : Type 0 where
  pub head : List ℕ
  pub long : length head ≡ frame_head_len
  pub there : WereThere held from to gate head
  pub next_is : next ≡ gate + (frame_head_len + payload_len_in head)
