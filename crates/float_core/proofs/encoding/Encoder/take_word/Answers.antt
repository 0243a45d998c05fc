use Rattle.std.proofs.Common.{ℕ, List, [], ◌∷◌, ◌++◌, ◌∙◌, sym, ap}
use Rattle.std.proofs.lemmas.List.{append_assoc}
use Rattle.float_core.specs.Encoded.{Reading, first_place}
use Rattle.float_core.proofs.Encodes.{encoded_word, begins_line, goes_on}
use Rattle.float_core.proofs.encoding.Encoder.take_word.Goals as goal

pub returns-then-end-eq10 : goal.returns-then-end-eq10
returns-then-end-eq10 c =
    let given = c.in_ok-end_word.ensures.given in
    let same = c.in_ok-end_word.ensures.same in
    let lines = ap (λ (r : Reading). r.lines) c.self.view_is ∙ same.1 in (
      given.0 ++ c.args.end ∷ [],
      c.in_ok-push.ensures.items ∙ ap (λ (bs : List ℕ). bs ++ c.args.end ∷ []) given.1 ∙ append_assoc c.args.out.now.items given.0 (c.args.end ∷ []),
      encoded_word c.args.self.now _ c.args.tail.now given.0 c.args.end c.end_word.new.self.place c.in_ok-end_word.ensures.plain c.requires.1 given.2
          (ap (λ (r : Reading). r.float) c.self.view_is ∙ same.0) lines (c.first_place-self-inside.ensures ∙ ap first_place lines ∙ sym (begins_line _ _ _ c.if-end-eq10.true)) (ap (λ (r : Reading). r.held) c.self.view_is ∙ given.3),
    )

pub returns-else-end-eq10 : goal.returns-else-end-eq10
returns-else-end-eq10 c =
    let given = c.in_ok-end_word.ensures.given in
    let same = c.in_ok-end_word.ensures.same in (
      given.0 ++ c.args.end ∷ [],
      c.in_ok-push.ensures.items ∙ ap (λ (bs : List ℕ). bs ++ c.args.end ∷ []) given.1 ∙ append_assoc c.args.out.now.items given.0 (c.args.end ∷ []),
      encoded_word c.args.self.now _ c.args.tail.now given.0 c.args.end c.end_word.new.self.place c.in_ok-end_word.ensures.plain c.requires.1 given.2
          same.0 same.1 (sym (goes_on _ _ _ c.if-end-eq10.false)) given.3,
    )
