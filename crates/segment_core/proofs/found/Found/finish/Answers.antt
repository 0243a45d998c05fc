use Rattle.std.proofs.lemmas.Grind.{common_steps}
use Rattle.std.specs.List.{flat_map}
use Rattle.std.proofs.Common.{◌≡◌, List, length, sym, subst, rules, inl, inr, ap, ◌∙◌, arith}
use Rattle.std.proofs.lemmas.Result.{err_from_is_err_and}
use Rattle.segment_core.specs.Vector.{IsVectorOf}
use Rattle.segment_core.specs.Found.{AreLaid, pairs_of}
use Rattle.segment_core.proofs.FoundEnd.{vector_found, first_bad_found, live_wide, came_back}
use Rattle.segment_core.proofs.found.Found.finish.Goals as goal

pub lay_live-requires-clause-wide : goal.lay_live-requires-clause-wide
lay_live-requires-clause-wide g c κs within = live_wide g.R.Record.form c.requires.0 c.requires.1 c.args.self c.requires.2

pub returns-in_err-lay_live-clause-vector : goal.returns-in_err-lay_live-clause-vector
returns-in_err-lay_live-clause-vector g c = λ format frames image is begins. (
    let form = g.R.Record.form in
    let p = err_from_is_err_and c.from_residual.result c.from_residual.ensures.1 in
    let same : length c.lay_live.new.records ≡ length c.args.self.records.items = search rules in
    rw (p.1, p.2) (elim c.in_err-lay_live.ensures [
      | inl bad ↦ inl (first_bad_found form format frames image begins.0 c.args.self c.lay_live.new.records c.lay_live.new.notes c.in_err-lay_live.field-0.0 is begins.1 same
          (subst (λ (rs : List g.row.R.Denot). AreLaid form c.args.self.live.items rs c.args.self.notes c.lay_live.new.records c.lay_live.new.notes) c.deref_mut.ensures.value bad.0) bad.1)
      | inr memory ↦ inr memory
    ]))

pub returns-clause-vector : goal.returns-clause-vector
returns-clause-vector g c = λ format frames image is begins. (
    let form = g.R.Record.form in
    let same : length c.lay_live.new.records ≡ length c.args.self.records.items = search rules in
    let len : c.args.self.records.len ≡ length c.args.self.records.items = search rules in
    let laid = c.in_ok-lay_live.ensures in
    subst (λ (rs : List g.row.R.Denot). IsVectorOf format form image frames rs) (sym (came_back c.args.self.records.len c.lay_live.new.records c.args.self.records.items len same))
    (vector_found form format frames image begins.0 c.args.self c.lay_live.new.records c.lay_live.new.notes is begins.1 same
    (subst (λ (rs : List g.row.R.Denot). AreLaid form c.args.self.live.items rs c.args.self.notes c.lay_live.new.records c.lay_live.new.notes) c.deref_mut.ensures.value laid.0) laid.1))

pub returns-clause-homes : goal.returns-clause-homes
returns-clause-homes g c = λ format frames found. record {
  homes_are = found.homes;
  live_is = c.in-Ok.ensures ∙ ap (flat_map pairs_of) found.live_is;
}

pub returns-in_default-clause-vector : goal.returns-in_default-clause-vector
returns-in_default-clause-vector g c = grind (arith, common_steps)
