-- Lines that are taken leniently, byte by byte.
use Rattle.std.proofs.Common.{◌≡◌, ℕ, List, [], ◌∷◌, ◌++◌, refl, sym, ap, ◌∙◌}
use Rattle.std.proofs.lemmas.List.{append_assoc, append-nil}
use Rattle.lines_core.specs.declared.strict.Held.{Held}
use Rattle.lines_core.specs.Strict.{after_byte, after_bytes, strict_byte, strict_bytes}

pub strict_push : (held : Held) (bytes : List ℕ) (b : ℕ) → strict_bytes held (bytes ++ b ∷ []) ≡ strict_bytes held bytes ++ strict_byte (after_bytes held bytes) b
strict_push held [] b = append-nil (strict_byte held b)
strict_push held (x ∷ bytes) b =
    ap (λ l. strict_byte held x ++ l) (strict_push (after_byte held x) bytes b)
    ∙ sym (append_assoc (strict_byte held x) (strict_bytes (after_byte held x) bytes) (strict_byte (after_bytes (after_byte held x) bytes) b))

pub after_push : (held : Held) (bytes : List ℕ) (b : ℕ) → after_bytes held (bytes ++ b ∷ []) ≡ after_byte (after_bytes held bytes) b
after_push held [] b = refl
after_push held (x ∷ bytes) b = after_push (after_byte held x) bytes b
