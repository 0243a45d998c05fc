use Rattle.std.proofs.Common.{◌≡◌, ℕ, ◌+◌, ◌-◌, List, ◌++◌, length, take, drop, refl, subst, sym, ap, ◌∙◌, arith}
use Rattle.std.proofs.lemmas.List.{take_at}
use Rattle.cvec_c.specs.declared.stat.CvecStat.{CvecStat}
use Rattle.cvec_c.specs.Append.{append_len, AppendsTo}
use Rattle.cvec_c.proofs.Append.{allowed, stays, has_grown}
use Rattle.cvec_c.proofs.appending.append.Goals as goal

pub returns-clause-done : goal.returns-clause-done
returns-clause-done g c = λ _. (
    let form = g.R.Record.form in
    let old = c.args.stat.now in
    let new = c.args.records.now in
    let bytes : List ℕ = c.in-Ok.bytes.items in
    let laws = g.met.R.Record g.world.𝓛 g.world.𝓜 g.world.𝓡 ((λ s x. x), (λ x. x), (λ x. x), λ x. x) in
    let may = allowed form.width old (length new) (length c.args.out.now) (sym c.refusal.ensures ∙ c.in_default.is) in
    let long : length bytes ≡ append_len form.width (length new) = c.in-Ok.ensures.len in
    let copied : c.copy_from_slice.new.self ≡ bytes = c.copy_from_slice.ensures.after ∙ c.deref.ensures.value in
    let written =
    ap (λ (bs : List ℕ). take (append_len form.width (length new)) (bs ++ drop c.len-len.result c.args.out.now)) copied
    ∙ take_at bytes (drop c.len-len.result c.args.out.now) (append_len form.width (length new)) long in
    let next : CvecStat = record old { size = old.size + length new; frames = c.saturating_add.result; gate = old.gate + (c.len-len.result - 1) } in
    let gate : next.gate + 1 ≡ old.gate + length bytes = (let n = c.len-len.ensures in omega arith) in
    subst (λ (bs : List ℕ). AppendsTo form old new bs next) (sym written) (record {
      before = λ image other records stat same shut. stays form old image other records stat same shut;
      after =
          λ image other records stat same stands.
          has_grown form old image other records stat same new bytes next laws.width_in_range.0 laws.width_of_bytes
          may.some c.in-Ok.ensures.text c.in-Ok.ensures.read_again may.short may.fits stands
          refl refl refl refl refl (λ few. (let n = c.saturating_add.ensures in omega arith)) may.placed gate;
      next_gate = gate;
    }))
