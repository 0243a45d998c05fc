use Rattle.std.proofs.Common.{rules, ◌≡◌, true, subst, ◌∷◌, ◌++◌, [], refl, sym}
use Rattle.text_core.proofs.Known.{Appends_then, Appends_as}
use Rattle.float_core.specs.Decoded.{Writing, may_be_record}
use Rattle.float_core.proofs.Decodes.{decoded_part, one_more}
use Rattle.float_core.proofs.decoding.Decoder.take_digit.Goals as goal

pub returns : goal.returns
returns g c =
    rw (← c.self.view_is) (
      c.self.inside.digits.items ++ c.args.digit ∷ [],
      Appends_then _ _ _ _ _ (Appends_as _ _ _ _ c.as_slice.ensures.value c.in_ok-write_all.ensures.bytes) c.in_ok-write_all-2.ensures.bytes,
      decoded_part _ _ c.args.digit (one_more _ _ c.args.digit c.self.invariant c.requires.0 (subst (λ (w : Writing). may_be_record w.spot ≡ true) (sym c.self.view_is) c.requires.1)) (search rules) refl refl c.clear.ensures,
    )
