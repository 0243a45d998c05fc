use Rattle.text_core.specs.Flags.{flag_text}
use Rattle.text_core.proofs.Small.{IfNone_from}
use Rattle.text_core.proofs.KeyedLemmas.{no_colon, no_key, not_behind}
use Rattle.text_core.proofs.flagged.FlaggedTextRecord.parse.Goals as goal

pub returns-in_err-key_text-clause-refused : goal.returns-in_err-key_text-clause-refused
returns-in_err-key_text-clause-refused c = IfNone_from c.from_residual.result _ (λ r small. no_colon c.args.text.now c.in_err-key_text.ensures.none r.key (flag_text r.flag))

pub returns-in_err-key-clause-refused : goal.returns-in_err-key-clause-refused
returns-in_err-key-clause-refused c = IfNone_from c.from_residual-in_err-key.result _ (λ r small.
    no_key c.args.text.now c.in_ok-key_text.key_text.now c.in_ok-key_text.flag_text.now c.in_ok-key_text.ensures.found.0
    c.in_ok-key_text.ensures.found.1 c.in_err-key.ensures.refused r.key (flag_text r.flag) small)

pub returns-in_err-flag-clause-refused : goal.returns-in_err-flag-clause-refused
returns-in_err-flag-clause-refused c = IfNone_from c.from_residual-in_err-flag.result _ (λ r small.
    not_behind c.args.text.now c.in_ok-key_text.key_text.now c.in_ok-key_text.flag_text.now c.in_ok-key_text.ensures.found.0
    c.in_ok-key_text.ensures.found.1 r.key (flag_text r.flag) small (c.in_err-flag.ensures.refused r.flag))
