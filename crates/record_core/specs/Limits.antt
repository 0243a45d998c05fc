-- What bounds a growth and a vector.
use Rattle.std.specs.Prelude.{ℕ, ◌^◌}

-- the bytes of one frame's payload at most
abbrev pub payload_limit : ℕ
payload_limit = 2 ^ 20

-- the records of a vector at most
abbrev pub record_limit : ℕ
record_limit = 2 ^ 32
