-- The room of a phase: how many growths it may have.
use Rattle.std.specs.Prelude.{◌≡◌, ◌⊎◌, ℕ, ◌<◌}
use Rattle.directory_core.specs.Limits.{growth_limit}

-- a phase has that room where so many growths are asked for: just so much, or, past what needs no wide reservation, so much as that
abbrev pub IsRoomFor : ℕ → ℕ → Type 0
IsRoomFor growths room = (room ≡ growths) ⊎ ((growth_limit < growths) × (room ≡ growth_limit))
