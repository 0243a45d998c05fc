use Rattle.std.proofs.Common.{refl, sym, ap, ◌∙◌}
use Rattle.load_core.specs.Dealt.{behind_slice}
use Rattle.load_core.proofs.Phases.{handed_on, on_as, refusal_as, so_far_as}
use Rattle.load_core.proofs.loading.load_slices.Goals as goal

pub loop-alloc-init : goal.loop-alloc-init
loop-alloc-init g c = record { growers_same = refl; growths_same = refl; so_far = λ disk so. c.in_ok-vault.ensures {u = tt} disk so }

pub loop-alloc-preserved : goal.loop-alloc-preserved
loop-alloc-preserved g c =
    let inv = c.loop-alloc.invariant in
    let goes = c.go_on.ensures.goes c.loop-alloc-test.true in
    let growers = c.go_on.ensures.same.0 ∙ inv.growers_same in
    let growths = c.go_on.ensures.same.1 ∙ inv.growths_same in
    record {
      growers_same = growers;
      growths_same = growths;
      so_far = λ disk so.
          on_as g.R.Record.form g.D.Disk.keeps g.D.Disk.states g.D.Disk.faults disk growths growers c.in_ok-vault-2.vault c.load_slice-in-loop-alloc.new.appended
          (ap (λ n. behind_slice n (g.S.Deck.left_of c.go_on.new.self)) growers)
          (c.in_ok-vault-2.ensures {u = tt} disk
          (so_far_as g.R.Record.form g.D.Disk.keeps g.D.Disk.states g.D.Disk.faults disk (sym growths) (sym growers) c.loop-alloc.vault c.loop-alloc.appended
          (ap (λ n. behind_slice n (g.S.Deck.left_of c.loop-alloc.deck)) (sym inv.growers_same) ∙ sym goes.0) (inv.so_far disk so).0));
    }

pub returns : goal.returns
returns g c disk so =
    let inv = c.loop-alloc.invariant in
    on_as g.R.Record.form g.D.Disk.keeps g.D.Disk.states g.D.Disk.faults disk refl refl c.loop-alloc.vault c.loop-alloc.appended
    (ap (λ n. behind_slice n (g.S.Deck.left_of c.loop-alloc.deck)) (sym inv.growers_same) ∙ c.go_on.ensures.ends c.loop-alloc-test.false) (inv.so_far disk so)

pub returns-in_err-vault : goal.returns-in_err-vault
returns-in_err-vault g c disk so = handed_on _ _ c.from_residual.result c.in_err-vault.field-0.0 c.from_residual.ensures.1 (c.in_err-vault.ensures {u = tt} disk so)

pub returns-in_err-vault-2 : goal.returns-in_err-vault-2
returns-in_err-vault-2 g c disk so =
    let inv = c.loop-alloc.invariant in
    let goes = c.go_on.ensures.goes c.loop-alloc-test.true in
    let growers = c.go_on.ensures.same.0 ∙ inv.growers_same in
    let growths = c.go_on.ensures.same.1 ∙ inv.growths_same in
    handed_on _ _ c.from_residual-in_err-vault-2.result c.in_err-vault-2.field-0.0 c.from_residual-in_err-vault-2.ensures.1
    (refusal_as g.R.Record.form g.D.Disk.keeps g.D.Disk.states g.D.Disk.faults disk growths growers c.in_err-vault-2.field-0.0.0 c.load_slice-in-loop-alloc.new.appended c.in_err-vault-2.field-0.0.1
    (c.in_err-vault-2.ensures {u = tt} disk
    (so_far_as g.R.Record.form g.D.Disk.keeps g.D.Disk.states g.D.Disk.faults disk (sym growths) (sym growers) c.loop-alloc.vault c.loop-alloc.appended
    (ap (λ n. behind_slice n (g.S.Deck.left_of c.loop-alloc.deck)) (sym inv.growers_same) ∙ sym goes.0) (inv.so_far disk so).0)))
