use Rattle.std.proofs.Common.{◌≡◌, ℕ, List, ◌++◌, length, take, drop, subst, sym, ap, ◌∙◌}
use Rattle.std.proofs.lemmas.List.{length-take-le, take_at}
use Rattle.cvec_c.specs.declared.stat.CvecStat.{CvecStat}
use Rattle.cvec_c.specs.Empty.{Creates}
use Rattle.cvec_c.proofs.Creates.{creates}
use Rattle.cvec_c.proofs.creating.empty.Goals as goal

pub copy_from_slice-requires : goal.copy_from_slice-requires
copy_from_slice-requires g c = length-take-le 12 c.args.out.now c.if-out-lt-EMPTY_FILE_LEN.false ∙ sym (ap length c.empty_file.ensures)

pub returns-clause-done : goal.returns-clause-done
returns-clause-done g c = λ _. (
    let bytes : List ℕ = c.empty_file.result in
    let long : length bytes ≡ 12 = ap length c.empty_file.ensures in
    let written = ap (λ (bs : List ℕ). take 12 (bs ++ drop 12 c.args.out.now)) c.copy_from_slice.ensures.after ∙ take_at bytes (drop 12 c.args.out.now) 12 long in
    let stat : CvecStat = record { size = 0; frames = 0; changes = 0; folded = 0; gate = 11; width = c.width_of-width.result; version = c.args.version } in
    subst (λ (bs : List ℕ). Creates bs stat _ g.R.Record.form) (sym written)
    (creates c.in-Some.format g.R.Record.form bytes c.args.version c.width_of-width.result c.width_of-width.ensures.is c.empty_file.ensures c.in-Some.ensures.known))
