use Rattle.std.proofs.Common.{[], ℕ, List, ◌++◌, ◌∙◌, ap, subst, refl, sym}
use Rattle.std.proofs.lemmas.List.{append-nil, append_assoc}
use Rattle.std.proofs.lemmas.Result.{on_ok_weaker}
use Rattle.float_core.specs.Encoded.{IsEncoded}
use Rattle.float_core.proofs.Encodes.{encoded_none, encodes_then, split_at}
use Rattle.float_core.proofs.encoding.Encoder.append_encoded.Goals as goal

pub loop-at-init : goal.loop-at-init
loop-at-init c = ([], [], refl, sym (append-nil _), encoded_none _)

pub loop-at-preserved : goal.loop-at-preserved
loop-at-preserved c =
    let before = c.loop-at.invariant in
    let all = encodes_then c.args.self.now c.loop-at.self c.take_word.new.self before.0 _ c.args.out.now.items c.loop-at.out.items c.take_word.new.out.items before.1 before.3 before.4 c.in_ok-take_word.ensures in
    (_, all.0, before.2 ∙ ap (λ (bs : List ℕ). before.0 ++ bs) (split_at c.loop-at.rest.now c.in-Some.at c.in-Some.ensures.0) ∙ sym (append_assoc before.0 _ _), all.1, all.2)

pub returns : goal.returns
returns c =
    let before = c.loop-at.invariant in
    on_ok_weaker c.hold.result (λ ok.
    let all = encodes_then c.args.self.now c.loop-at.self c.hold.new.self before.0 c.loop-at.rest.now c.args.out.now.items c.loop-at.out.items c.hold.new.out.items before.1 before.3 before.4 ok in
    (all.0, all.1, subst (λ (bs : List ℕ). IsEncoded c.args.self.now bs all.0 c.hold.new.self) (sym before.2) all.2)) c.hold.ensures
