use Rattle.std.proofs.Common.{rules, ◌≡◌, ◌&&◌, ℕ, List, false, subst, ◌∷◌, ◌++◌, [], refl, sym}
use Rattle.text_core.proofs.Known.{Appends_then}
use Rattle.float_core.specs.Decoded.{Writing, IsNumberGiven, may_be_record}
use Rattle.float_core.specs.Floats.{is_digit}
use Rattle.float_core.proofs.Decodes.{decoded_byte, decoded_number, empty_from}
use Rattle.float_core.proofs.decoding.Decoder.write_other.Goals as goal

pub returns-then-is_empty : goal.returns-then-is_empty
returns-then-is_empty g c =
    rw (← c.self.view_is)
    (c.args.byte ∷ [], c.in_ok-write_all.ensures.bytes, decoded_byte _ _ c.args.byte (empty_from _ c.if-is_empty.ensures) (subst (λ (w : Writing). (is_digit c.args.byte && may_be_record w.spot) ≡ false) (sym c.self.view_is) c.requires) refl c.behind-self-inside.ensures (empty_from _ c.if-is_empty.ensures))

pub returns : goal.returns
returns g c =
    rw (← c.self.view_is) (
      c.in_ok-write_given.ensures.0 ++ c.args.byte ∷ [],
      Appends_then _ _ _ _ _ c.in_ok-write_given.ensures.1 c.in_ok-write_all-2.ensures.bytes,
      decoded_number _ _ c.args.byte c.in_ok-write_given.ensures.0 c.self.invariant (search rules) (subst (λ (w : Writing). (is_digit c.args.byte && may_be_record w.spot) ≡ false) (sym c.self.view_is) c.requires)
          (subst (λ (digits : List ℕ). IsNumberGiven c.self.inside.float digits c.in_ok-write_given.ensures.0) c.as_slice.ensures.value c.in_ok-write_given.ensures.2) refl c.behind-self-inside-2.ensures c.clear.ensures,
    )
