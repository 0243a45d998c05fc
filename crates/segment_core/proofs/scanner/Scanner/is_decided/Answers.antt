use Rattle.std.proofs.lemmas.Grind.{common_steps}
use Rattle.std.proofs.Common.{◌≡◌, ◌≢◌, ◌++◌, true, false, sym, ap, ◌∙◌, inl, inr, arith}
use Rattle.std.specs.Prelude.{not}
use Rattle.segment_core.specs.declared.fault.ScanFault.TheVariants.{Memory}
use Rattle.segment_core.specs.declared.scanner.ScanStage.TheVariants as stages
use Rattle.segment_core.proofs.Fed.{fed_at, fed_by, refused_more, ended_more}
use Rattle.segment_core.proofs.Decided.{decided_by_fault, decided_at_end, cut_short}
use Rattle.segment_core.proofs.scanner.Scanner.is_decided.Goals as goal
use Rattle.segment_core.proofs.scanner.Scanner.is_decided.Goals.{in-Memory, in_default}

pub returns-in-Header-clause-cut : goal.returns-in-Header-clause-cut
returns-in-Header-clause-cut g c = λ no image fed. (
    let form = g.R.Record.form in
    elim c.in-Header.is [
      | inl is ↦ inr (inl (fed_at form image c.args.self.now stages.Header is fed).short)
      | inr is ↦ inr (cut_short form image c.args.self.now (fed_at form image c.args.self.now stages.Open is fed))
    ])

pub returns-in-Closed-clause-fed : goal.returns-in-Closed-clause-fed
returns-in-Closed-clause-fed g c = λ yes image more fed. (
    let form = g.R.Record.form in
    fed_by form (image ++ more) c.args.self.now stages.Closed c.in-Closed.is (ended_more form image more c.args.self.now (fed_at form image c.args.self.now stages.Closed c.in-Closed.is fed)))

pub returns-in-Closed-clause-same : goal.returns-in-Closed-clause-same
returns-in-Closed-clause-same g c = λ yes image fed. (
    let form = g.R.Record.form in
    let laws = g.met.R.Record g.world.𝓛 g.world.𝓜 g.world.𝓡 ((λ s x. x), (λ x. x), (λ x. x), λ x. x) in
    decided_at_end form image c.args.self.now laws.width_in_range.1 (fed_at form image c.args.self.now stages.Closed c.in-Closed.is fed))

pub returns-after-matches-clause-fed : goal.returns-after-matches-clause-fed
returns-after-matches-clause-fed g c = λ yes image more fed. (
    let form = g.R.Record.form in
    let stage = stages.Refused c.in-Refused.fault in
    fed_by form (image ++ more) c.args.self.now stage c.in-Refused.is (refused_more form image more c.in-Refused.fault (fed_at form image c.args.self.now stage c.in-Refused.is fed)))

pub returns-after-matches-clause-same : goal.returns-after-matches-clause-same
returns-after-matches-clause-same g c = λ yes image fed. (
    let form = g.R.Record.form in
    let stage = stages.Refused c.in-Refused.fault in
    let laws = g.met.R.Record g.world.𝓛 g.world.𝓜 g.world.𝓡 ((λ s x. x), (λ x. x), (λ x. x), λ x. x) in
    let other : c.in-Refused.fault ≢ Memory = elim c.match-matches.branch [
      | in-Memory w ↦ (let clash : false ≡ true = ap not (sym w.matches-is) ∙ yes in absurd cc)
      | in_default w ↦ w.in_default.not-Memory
    ] in
    decided_by_fault form image c.in-Refused.fault laws.width_in_range.1 other (fed_at form image c.args.self.now stage c.in-Refused.is fed))

pub returns-after-matches-clause-cut : goal.returns-after-matches-clause-cut
returns-after-matches-clause-cut g c = grind (arith, common_steps)

pub returns-in-Header-clause-same : goal.returns-in-Header-clause-same
returns-in-Header-clause-same g c = grind (arith, common_steps)
