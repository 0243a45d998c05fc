-- How many records a block has, and why so many are no block.
use Rattle.std.specs.Prelude.{◌≡◌, ℕ, ◌+◌, ◌*◌, ◌<◌, ◌≤◌}
use Rattle.record_core.specs.Limits.{payload_limit}
use Rattle.block_core.specs.declared.fault.FreshFault.{FreshFault}
use Rattle.block_core.specs.declared.fault.FreshFault.TheVariants.{Empty, TooLarge, Memory}

-- the bytes of the payload of a frame with one growth of so many records: the count of growths, the one length, the
-- records
abbrev pub payload_len : ℕ → ℕ → ℕ
payload_len width n = 8 + n * width

-- so many records of this width are a block: at least one, and few enough for one frame
pub record IsBlockLength (width n : ℕ) : Type 0 where
  pub some : 0 < n
  pub fits : payload_len width n ≤ payload_limit

-- the fault of a length that is none of a block
abbrev pub IsLengthFault : ℕ → ℕ → FreshFault → Type 0
IsLengthFault width n Empty = n ≡ 0
IsLengthFault width n TooLarge = payload_limit < payload_len width n
IsLengthFault width n Memory = ⊥

-- the fault with which a block of so many records is refused
abbrev pub IsBlockRefusal : ℕ → ℕ → FreshFault → Type 0
IsBlockRefusal width n Empty = n ≡ 0
IsBlockRefusal width n TooLarge = payload_limit < payload_len width n
IsBlockRefusal width n Memory = IsBlockLength width n
