-- Writes laid over bytes.
use Rattle.std.proofs.Common.{◌≡◌, ℕ, ◌+◌, ◌-◌, ◌≤◌, ◌<◌, List, ◌++◌, length, take, drop, get_or, ◌∙◌, arith}
use Rattle.std.proofs.lemmas.List.{length-append, length-take-le, get_or_append_left, get_or-append_right}
use Rattle.disk_core.specs.State.{overlay}

pub overlaid : (old : List ℕ) (at : ℕ) (bytes : List ℕ) (j : ℕ) → at ≤ length old → at ≤ j → j < at + length bytes
    → get_or (overlay old at bytes) j 0 ≡ get_or bytes (j - at) 0
overlaid old at bytes j le from lt =
    let t = length-take-le at old le in
    get_or_append_left (take at old ++ bytes) (drop (at + length bytes) old) 0 j (omega (arith, length-append (take at old) bytes))
    ∙ get_or-append_right (take at old) bytes at j 0 t from
