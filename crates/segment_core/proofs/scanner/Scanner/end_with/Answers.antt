use Rattle.std.proofs.lemmas.Grind.{common_steps}
use Rattle.std.proofs.Common.{ap, arith}
use Rattle.std.proofs.lemmas.Result.{err_from_is_err_and}
use Rattle.segment_core.specs.declared.tally.Tally.{Tally}
use Rattle.segment_core.proofs.Fed.{is_whole, refused_at_end}
use Rattle.segment_core.proofs.scanner.Scanner.end_with.Goals as goal

pub returns-in_err-records-clause-answer : goal.returns-in_err-records-clause-answer
returns-in_err-records-clause-answer g c =
    let p = err_from_is_err_and c.from_residual-in_err-records.result c.from_residual-in_err-records.ensures.1 in
    rw (p.1, p.2) (λ image fed. (
    let ended = c.in_ok-check_end.ensures.answer image fed in
    let whole = is_whole g.R.Record.form image c.args.self ended in
    refused_at_end g.R.Record.form image c.args.self.walk ended.frames c.in_err-records.field-0.0 whole
    (c.in_err-records.ensures.vector c.args.self.walk.shape.format ended.frames image ended.behind.found whole.begins)))

pub returns-clause-answer : goal.returns-clause-answer
returns-clause-answer g c = λ image fed. (
    let ended = c.in_ok-check_end.ensures.answer image fed in
    let whole = is_whole g.R.Record.form image c.args.self ended in (
      record {
        format = c.args.self.walk.shape.format;
        frames = ended.frames;
        vector = record { framed = whole.framed; read = c.in_ok-records.ensures.vector c.args.self.walk.shape.format ended.frames image ended.behind.found whole.begins };
        version_is = c.version.ensures;
        width_is = ended.behind.width_is;
        frames_are = ended.behind.frames_are;
        changes_are = ap (λ (t : Tally). t.changes) ended.behind.tally_is;
        folded_is = ap (λ (t : Tally). t.folded) ended.behind.tally_is;
        gate_is = whole.gate_is;
      },
      c.in_ok-records.ensures.homes c.args.self.walk.shape.format ended.frames ended.behind.found,
    ))

pub overflow_cast-scanned : goal.overflow_cast-scanned
overflow_cast-scanned g c =
    let laws = g.met.R.Record g.world.𝓛 g.world.𝓜 g.world.𝓡 ((λ s x. x), (λ x. x), (λ x. x), λ x. x) in
    let ended = c.in_ok-check_end.ensures.answer c.requires.0 c.requires.1 in
    omega (arith, ended.behind.width_is, laws.width_in_range.1)

pub returns-clause-lost : goal.returns-clause-lost
returns-clause-lost g c = grind (arith, common_steps)
