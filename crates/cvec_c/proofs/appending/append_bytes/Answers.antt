use Rattle.std.proofs.Common.{◌≡◌, ◌⊎◌, ◌/◌, ℕ, length, None, MatchOption, sym, ap, subst, ◌∙◌}
use Rattle.c_core.specs.Refusal.{code_of}
use Rattle.cvec_c.specs.Append.{first_refusal, append_lines}
use Rattle.cvec_c.proofs.Append.{answered}
use Rattle.cvec_c.proofs.appending.append_bytes.Goals as goal

pub returns-in-Ok-clause-answer : goal.returns-in-Ok-clause-answer
returns-in-Ok-clause-answer g c =
    let form = g.R.Record.form in
    let old = c.args.stat.now in
    let room = length c.args.out.now in
    let laws = g.met.R.Record g.world.𝓛 g.world.𝓜 g.world.𝓡 ((λ s x. x), (λ x. x), (λ x. x), λ x. x) in
    let none : first_refusal (append_lines form.width old (length c.args.bytes.now / form.width) room) ≡ None =
    ap (λ w. first_refusal (append_lines form.width old (length c.args.bytes.now / w) room)) (sym c.width_of.ensures.is) ∙ sym c.refusal.ensures ∙ c.in_default.is in
    answered form old c.args.bytes.now room c.append.result c.in-Ok.records.items laws.width_in_range.0 c.in-Ok.ensures.are none
    (subst (λ (n : ℕ). MatchOption (first_refusal (append_lines form.width old n room)) ((c.append.result ≡ 0) ⊎ (c.append.result ≡ 6)) (λ refusal. c.append.result ≡ code_of refusal))
    (ap length c.deref.ensures.value) c.append.ensures.answer)
