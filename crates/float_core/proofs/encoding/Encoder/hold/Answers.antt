use Rattle.std.proofs.Common.{◌++◌, ◌∙◌, refl, ap, ℕ, List, arith, length-append}
use Rattle.std.proofs.lemmas.List.{append_assoc}
use Rattle.float_core.proofs.Encodes.{encoded_part, plain_then}
use Rattle.float_core.proofs.encoding.Encoder.hold.Goals as goal

pub returns : goal.returns
returns c =
    rw (← c.self.view_is) (
      c.self.inside.held.items ++ c.args.bytes.now,
      c.in_ok-extend_from_slice-2.ensures.items ∙ ap (λ (bs : List ℕ). bs ++ c.args.bytes.now) (c.in_ok-extend_from_slice.ensures.items ∙ ap (λ (bs : List ℕ). c.args.out.now.items ++ bs) c.as_slice.ensures.value) ∙ append_assoc c.args.out.now.items c.self.inside.held.items c.args.bytes.now,
      encoded_part _ _ c.args.bytes.now (plain_then _ _ c.self.invariant.0 c.requires) (rw (length-append c.self.inside.held.items c.args.bytes.now) (omega (arith, c.if-saturating_add-le-WORD_LIMIT.false, c.saturating_add.ensures, c.len.ensures))) refl refl refl c.clear.ensures.items,
    )
