use Rattle.std.proofs.Common.{ℕ, List, inr, sym, subst}
use Rattle.std.proofs.lemmas.Result.{MatchResult-weaker}
use Rattle.disk_core.specs.State.{now, IsImage}
use Rattle.disk_core.specs.Moments.{LeavesOnly}
use Rattle.disk_core.proofs.JoinedMoments.{LeavesOnly-start}
use Rattle.vault_core.specs.Vault.{MayHold}
use Rattle.files_core.proofs.Folded.{same_disk, began_images, both_ok, folds_all}
use Rattle.files_core.proofs.folding.fold_vault.Goals as goal

pub returns-in_err-begin_fold-clause-images : goal.returns-in_err-begin_fold-clause-images
returns-in_err-begin_fold-clause-images g c = λ model.
    let v = c.args.vault.now in
    let same = c.in_err-begin_fold.ensures.unchanged.disk_same in
    let own = subst g.D.Disk.keeps same model in
    subst (λ d. LeavesOnly (g.D.Disk.states v.pen.disk) (g.D.Disk.states d) (MayHold g.R.Record.form v)) (sym same)
    (LeavesOnly-start (g.D.Disk.states v.pen.disk) (MayHold g.R.Record.form v)
    (subst (λ d. g.D.Disk.keeps d → (image : List ℕ) → IsImage (now (g.D.Disk.states d)) image → MayHold g.R.Record.form v image) c.disk-disk.ensures.disk c.disk-disk.ensures.images own))

pub returns-clause-images : goal.returns-clause-images
returns-clause-images g c =
    λ model. began_images g.R.Record.form g.D.Disk.keeps g.D.Disk.states c.args.vault.now c.begin_fold.new.self c.settle.new.self.pen.disk
    (same_disk _ _ _ c.in_ok-begin_fold.ensures.begun) c.begin_fold.ensures.list.0 c.begin_fold.ensures.list.1 (c.settle.ensures.images model)

pub returns-clause-refused : goal.returns-clause-refused
returns-clause-refused g c =
    MatchResult-weaker c.settle.result c.settle.ensures.refused (λ _ x. x)
    (λ fault why. inr (c.begin_fold.new.self.pen, same_disk _ _ _ c.in_ok-begin_fold.ensures.begun, why))

pub returns-clause-folded : goal.returns-clause-folded
returns-clause-folded g c =
    λ no_job. both_ok c.settle.result c.settle.ensures.idle c.settle.ensures.file
    (λ idle stands. folds_all _ c.args.vault.now.pen c.begin_fold.new.self.pen c.settle.new.self.pen _ no_job c.in_ok-begin_fold.ensures.begun idle
    stands)
