use Rattle.std.proofs.Common.{ℕ, suc, ◌+◌, ◌<◌, length, Err, ap, subst, ◌∙◌, arith}
use Rattle.vault_core.specs.Vault.{list_of}
use Rattle.files_core.specs.Changing.{IsResized}
use Rattle.files_core.specs.Lengthened.{HasComeNear, IsLengthenFault}
use Rattle.files_core.proofs.Lengthened.{AnswersResize, length-resized-up, next_refused, some_fit, told_err}
use Rattle.files_core.proofs.lengthening.come_near.Goals as goal

pub loop-vault-smaller : goal.loop-vault-smaller
loop-vault-smaller g c =
    let some : 0 < c.args.piece =
    some_fit _ g.R.Record.form.width c.args.piece (omega (arith, c.width_of-width.ensures.range.1, c.width_of-width.ensures.is)) c.requires.greatest in
    let long = ap length c.in_ok-resize.ensures.list ∙ length-resized-up (c.len-in-loop-vault.result + c.args.piece) c.args.asked.now.filler (list_of c.loop-vault.vault)
    (omega (arith, c.len-in-loop-vault.ensures.is)) in
    omega (arith, some, long, c.len-in-loop-vault.ensures.is, c.len.ensures.is, c.saturating_sub.ensures, c.loop-vault-test.true)

pub loop-vault-preserved : goal.loop-vault-preserved
loop-vault-preserved g c =
    let e = c.in_ok-resize.ensures in
    let long = ap length e.list ∙ length-resized-up (c.len-in-loop-vault.result + c.args.piece) c.args.asked.now.filler (list_of c.loop-vault.vault)
    (omega (arith, c.len-in-loop-vault.ensures.is)) in
    let done : IsResized g.R.Record.form g.D.Disk.keeps g.D.Disk.states g.D.Disk.faults (c.len-in-loop-vault.result + c.args.piece) c.args.asked.now.filler c.loop-vault.vault c.resize.new.self =
    record { list = e.list; up = e.up; down = e.down; same = λ same. (e.nothing same).0 } in (
      suc c.loop-vault.invariant.0,
      (
        c.loop-vault.vault,
        c.loop-vault.invariant.1,
        subst (λ (m : ℕ). IsResized g.R.Record.form g.D.Disk.keeps g.D.Disk.states g.D.Disk.faults (m + c.args.piece) c.args.asked.now.filler c.loop-vault.vault c.resize.new.self)
            c.len-in-loop-vault.ensures.is done,
      ),
      λ more. omega (arith, long, c.len-in-loop-vault.ensures.is, c.len.ensures.is, c.saturating_sub.ensures, c.loop-vault-test.true),
    )

pub returns-in_err-resize-clause-refused : goal.returns-in_err-resize-clause-refused
returns-in_err-resize-clause-refused g c =
    let form = g.R.Record.form in
    let keeps = g.D.Disk.keeps in
    let n = c.args.asked.now.len in
    let r = c.args.asked.now.filler in
    let u = c.loop-vault.vault in
    let e = c.in_err-resize.ensures in
    let fault = c.in_err-resize.field-0.0 in
    let some : 0 < c.args.piece =
    some_fit _ form.width c.args.piece (omega (arith, c.width_of-width.ensures.range.1, c.width_of-width.ensures.is)) c.requires.greatest in
    let came : HasComeNear form keeps g.D.Disk.states g.D.Disk.faults n r c.args.vault.now u = record {
      piece = c.args.piece;
      greatest = c.requires.greatest;
      growths = c.loop-vault.invariant.0;
      grown = c.loop-vault.invariant.1;
      short = c.loop-vault.invariant.2;
      at_once = λ past. absurd (omega (arith, past, c.requires.within));
    } in
    let next : ℕ = c.len-in-loop-vault.result + c.args.piece in
    let answers : AnswersResize form keeps g.D.Disk.states g.D.Disk.faults r u c.resize.new.self next (Err fault) =
    record { list = e.list; up = e.up; down = e.down; nothing = e.nothing } in
    told_err c.from_residual.result fault (IsLengthenFault form keeps g.D.Disk.states g.D.Disk.faults n r c.args.vault.now c.resize.new.self) c.from_residual.ensures.1
    (next_refused form keeps g.D.Disk.states g.D.Disk.faults r u c.resize.new.self n c.args.vault.now came next fault some
    (omega (arith, c.len-in-loop-vault.ensures.is)) (omega (arith, c.len-in-loop-vault.ensures.is, c.len.ensures.is, c.saturating_sub.ensures, c.loop-vault-test.true)) answers)

pub returns-clause-near : goal.returns-clause-near
returns-clause-near g c = (
  record {
    piece = c.args.piece;
    greatest = c.requires.greatest;
    growths = c.loop-vault.invariant.0;
    grown = c.loop-vault.invariant.1;
    short = c.loop-vault.invariant.2;
    at_once = λ past. absurd (omega (arith, past, c.requires.within));
  },
  omega (arith, c.len.ensures.is, c.saturating_sub.ensures, c.loop-vault-test.false),
)
