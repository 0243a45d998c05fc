use Rattle.std.proofs.Common.{◌≡◌, Some, sym, ap, ◌∙◌, rules}
use Rattle.hex.specs.Hex.{encode_lower}
use Rattle.text_core.proofs.InHexLemmas.{decoded, IfNone_at}
use Rattle.text_core.proofs.in_hex.record_of_hex.Goals as goal
use Rattle.text_core.proofs.in_hex.record_of_hex.Goals.{then-is_err-via-then-is_err, then-is_err-via-else-is_err+then-not-is_hex_of}

pub returns-then-is_err-clause-refused : goal.returns-then-is_err-clause-refused
returns-then-is_err-clause-refused g c = λ r so is.
    let laws = g.met.R.Record g.world.𝓛 g.world.𝓜 g.world.𝓡 ((λ s x. x), (λ x. x), (λ x. x), λ x. x) in
    let width = laws.width_is in
    let len = laws.width_of_bytes r in
    let read = decoded g.R.Record.form r c.args.text.now _ _ _ so (search rules) is c.decode_to_slice.ensures.value in
    let good = read.0 in
    let same : c.args.text.now ≡ encode_lower c.decode_to_slice.new.out = sym is ∙ ap encode_lower (sym read.1) in
    elim c.then-is_err.branch [
      | then-is_err-via-then-is_err w ↦ let bad = w.if-is_err.true in let is_bad = c.is_err.ensures.value in search rules
      | then-is_err-via-else-is_err+then-not-is_hex_of w ↦ let other = w.if-not-is_hex_of.true in let hex = w.is_hex_of.ensures.1 same in search rules
    ]

pub returns-clause-refused : goal.returns-clause-refused
returns-clause-refused g c = IfNone_at c.take.result _ (λ none r so is.
    let laws = g.met.R.Record g.world.𝓛 g.world.𝓜 g.world.𝓡 ((λ s x. x), (λ x. x), (λ x. x), λ x. x) in
    let width = laws.width_is in
    let len = laws.width_of_bytes r in
    let read = decoded g.R.Record.form r c.args.text.now _ _ _ so (search rules) is c.decode_to_slice.ensures.value in
    let some : c.take.result ≡ Some r = c.take.ensures ∙ ap g.R.Record.form.value_of read.1 ∙ so.again in
    cc (sym none ∙ some))
