-- Which bucket and which place a growth has.
use Rattle.std.specs.Prelude.{◌≡◌, ℕ, ◌+◌, ◌-◌, ◌*◌, ◌^◌, ◌<◌}

-- the places of a bucket: 8 of the first, and twice as many of each next one
abbrev pub span : ℕ → ℕ
span bucket = 8 * 2 ^ bucket

-- the places of all buckets before it
abbrev pub places_before : ℕ → ℕ
places_before bucket = 8 * (2 ^ bucket - 1)

-- growth g stands in that bucket at that place
pub record IsSpot (g bucket place : ℕ) : Type 0 where
  pub inside : place < span bucket
  pub at : places_before bucket + place ≡ g
