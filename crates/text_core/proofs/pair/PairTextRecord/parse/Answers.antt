use Rattle.std.specs.Fmt.{signed_decimal}
use Rattle.text_core.proofs.Small.{IfNone_from}
use Rattle.text_core.proofs.KeyedLemmas.{no_colon, no_key, not_behind}
use Rattle.text_core.proofs.pair.PairTextRecord.parse.Goals as goal

pub returns-in_err-key_text-clause-refused : goal.returns-in_err-key_text-clause-refused
returns-in_err-key_text-clause-refused c = IfNone_from c.from_residual.result _ (λ r so. no_colon c.args.text.now c.in_err-key_text.ensures.none r.key (signed_decimal r.value))

pub returns-in_err-key-clause-refused : goal.returns-in_err-key-clause-refused
returns-in_err-key-clause-refused c = IfNone_from c.from_residual-in_err-key.result _ (λ r so.
    no_key c.args.text.now c.in_ok-key_text.key_text.now c.in_ok-key_text.value_text.now c.in_ok-key_text.ensures.found.0
    c.in_ok-key_text.ensures.found.1 c.in_err-key.ensures.refused r.key (signed_decimal r.value) so.0)

pub returns-in_err-value-clause-refused : goal.returns-in_err-value-clause-refused
returns-in_err-value-clause-refused c = IfNone_from c.from_residual-in_err-value.result _ (λ r so.
    not_behind c.args.text.now c.in_ok-key_text.key_text.now c.in_ok-key_text.value_text.now c.in_ok-key_text.ensures.found.0
    c.in_ok-key_text.ensures.found.1 r.key (signed_decimal r.value) so.0 (c.in_err-value.ensures.refused r.value so.1))
