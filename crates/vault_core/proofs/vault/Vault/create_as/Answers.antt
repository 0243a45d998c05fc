use Rattle.std.proofs.Common.{ℕ, subst, rules}
use Rattle.std.proofs.lemmas.Result.{err_from_is_err_and}
use Rattle.segment_core.specs.declared.format.Shape.{Shape}
use Rattle.pen_core.specs.Births.{IsNew, StaysUnbornOrEmpty}
use Rattle.vault_core.proofs.vault.Vault.create_as.Goals as goal

pub returns : goal.returns
returns g c =
    let e = c.in_ok-pen.ensures in
    let shape : ℕ → Shape = λ w. record { format = c.args.format; width = w } in
    record {
      created = search rules;
      sure = search rules;
      born = λ now. subst (λ w. StaysUnbornOrEmpty (shape w) (g.D.Disk.states c.args.disk) (g.D.Disk.states c.in_ok-pen.pen.disk)) c.width_of.ensures.is (e.born now);
      none_existed = e.none_existed;
      existed = tt;
      exists = tt;
      refused = tt;
      time = e.time;
      later = e.later;
      calls = e.calls;
      failed = e.faults;
      model = e.model;
    }

pub returns-in_err-pen : goal.returns-in_err-pen
returns-in_err-pen g c =
    let e = c.in_err-pen.ensures in
    let p = err_from_is_err_and c.from_residual.result c.from_residual.ensures.1 in
    let shape : ℕ → Shape = λ w. record { format = c.args.format; width = w } in
    rw (p.1, p.2) record {
      created = tt;
      sure = tt;
      born = λ now. subst (λ w. StaysUnbornOrEmpty (shape w) (g.D.Disk.states c.args.disk) (g.D.Disk.states c.in_err-pen.field-0.0.0)) c.width_of.ensures.is (e.born now);
      none_existed = tt;
      existed = e.existed;
      exists = e.exists;
      refused = e.refused;
      time = e.time;
      later = e.later;
      calls = e.calls;
      failed = e.faults;
      model = e.model;
    }
