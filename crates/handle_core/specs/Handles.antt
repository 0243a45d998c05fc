-- What a handle has, and what a call makes of it.
use Rattle.std.specs.Prelude.{◌≡◌, ℕ, Option, None, Some, if◌then◌else◌}
use Rattle.c_core.specs.declared.refusal.Refusal.{Refusal}
use Rattle.c_core.specs.declared.refusal.Refusal.TheVariants.{NotSo}
use Rattle.c_core.specs.Refusal.{code_of}
use Rattle.handle_core.specs.declared.end.End.{End}
use Rattle.handle_core.specs.declared.handle.Handle.{Handle}

-- the end that the handle has, if any
abbrev pub end_of : Handle → Option End
end_of handle = if handle.full then handle.kept.end else None

-- Why the call is refused, by its number, and what stands: it had nothing and has nothing; or it had an end, and has one,
-- and these are so related.
abbrev pub Refused : (Refusal → End → End → Type 0) → ℕ → Option End → Option End → Type 0
Refused P code None None = code ≡ code_of NotSo
Refused P code (Some old) (Some new) = (refusal : Refusal) × (code ≡ code_of refusal) × P refusal old new
Refused P code old new = ⊥
