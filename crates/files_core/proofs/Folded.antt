-- Files that are folded.
use Rattle.std.proofs.Common.{◌≡◌, ℕ, ◌≤◌, Bool, true, false, List, None, Result, Ok, Err, OnOk, IfSome, ◌⊎◌, inl, inr, subst, sym, ap, refl, ◌∙◌, arith}
use Rattle.record_core.specs.Bytes.{Encoding}
use Rattle.disk_core.specs.State.{State, now, IsImage}
use Rattle.disk_core.specs.Calls.{bytes_of}
use Rattle.disk_core.specs.Moments.{LeavesOnly}
use Rattle.segment_core.specs.Written.{joined}
use Rattle.disk_core.proofs.JoinedMoments.{LeavesOnly-join, LeavesOnly-weaker}
use Rattle.pen_core.specs.Opening.{OnlySyncs}
use Rattle.pen_core.specs.PenOf.{PenOf}
use Rattle.pen_core.specs.Pen.{IsFoldAnswer}
use Rattle.pen_core.specs.Typed.{OpensTo}
use Rattle.pen_core.proofs.Pieces.{bytes_stay}
use Rattle.vault_core.specs.declared.fault.VaultFault.{VaultFault}
use Rattle.vault_core.specs.declared.fault.VaultFault.TheVariants.{Pen, Unsettled, WrongPhase}
use Rattle.vault_core.specs.Commands.{IsVaultFoldFault, failed}
use Rattle.vault_core.specs.Vault.{VaultOf, MayHold, OpensToEither, list_of}
use Rattle.segment_core.specs.Frame.{Fold}
use Rattle.segment_core.specs.Tally.{after}
use Rattle.segment_core.specs.declared.tally.Tally.{Tally}
use Rattle.vault_core.specs.Settles.{IsFiledBy, IsIdle, IsOrderly, StandsInFile, with_fold, with_job}
use Rattle.files_core.specs.Folding.{IsAllFolded, KeepsList}
use Rattle.files_core.specs.Opened.{IsOpenedOn}
use Rattle.files_core.proofs.Opened.{opened_list, opened_again, opens_same}

-- a fold that was barred made no call
pub none_failed : {D : Type 0} (pen : PenOf D) (fault : VaultFault) → IsVaultFoldFault pen fault → failed fault ≡ 0
none_failed pen (Pen fault) (inl (inl broken)) = ap (λ f. failed (Pen f)) broken.0
none_failed pen (Pen fault) (inl (inr (inl busy))) = ap (λ f. failed (Pen f)) busy.0
none_failed pen (Pen fault) (inl (inr (inr full))) = ap (λ f. failed (Pen f)) full.0
none_failed pen (Pen fault) (inr memory) = ap (λ f. failed (Pen f)) memory.0
none_failed pen (Unsettled number) barred = absurd barred
none_failed pen WrongPhase barred = absurd barred

pub same_disk : {D : Type 0} (old new : PenOf D) (begun : Bool) → IsFoldAnswer old new begun → new.disk ≡ old.disk
same_disk old new true begins = begins.disk_same
same_disk old new false none = ap (λ p. p.disk) none.1

-- where a fold is settled that was begun with no job in hand no change is live, nor where none was to be folded
pub folds_all : {D : Type 0} (keeps : Type 0) (old mid new : PenOf D) (begun : Bool) → old.job ≡ None → IsFoldAnswer old mid begun → IsIdle new
    → StandsInFile keeps mid new → IsAllFolded new
folds_all keeps old mid new true no_job begins idle stands = (idle, none_live)
  where
    job : mid.job ≡ None
    job = begins.job_same ∙ no_job

    orderly : IsOrderly mid
    orderly = subst (λ j. IfSome j (λ job. IsFiledBy job.frame mid.fold)) (sym job) tt

    tally : new.tally ≡ after mid.tally (Fold old.tally.changes)
    tally = stands.tally_is orderly ∙ ap (λ j. with_fold after mid.fold (with_job after j mid.tally)) job ∙ ap (λ f. with_fold after f mid.tally) begins.fold_is

    changes : new.tally.changes ≡ old.tally.changes
    changes = ap (λ (t : Tally). t.changes) tally ∙ ap (λ (t : Tally). t.changes) begins.tally_same

    folded : new.tally.folded ≡ old.tally.changes
    folded = ap (λ (t : Tally). t.folded) tally

    none_live : new.tally.changes ≤ new.tally.folded
    none_live = omega (arith, changes, folded)
folds_all keeps old mid new false no_job none idle stands = (idle, none_live)
  where
    job : mid.job ≡ None
    job = ap (λ p. p.job) none.1 ∙ no_job

    fold : mid.fold ≡ None
    fold = ap (λ p. p.fold) none.1 ∙ none.0.1

    orderly : IsOrderly mid
    orderly = subst (λ j. IfSome j (λ job. IsFiledBy job.frame mid.fold)) (sym job) tt

    tally : new.tally ≡ old.tally
    tally = stands.tally_is orderly ∙ ap (λ j. with_fold after mid.fold (with_job after j mid.tally)) job ∙ ap (λ f. with_fold after f mid.tally) fold ∙ ap (λ p. p.tally) none.1

    none_live : new.tally.changes ≤ new.tally.folded
    none_live = omega (arith, ap (λ (t : Tally). t.changes) tally, ap (λ (t : Tally). t.folded) tally, none.0.2)

pub both_ok : {X E : Type 0} {A B C : Type 0} (result : Result X E) → OnOk result A → OnOk result B → (A → B → C) → OnOk result C
both_ok (Ok x) a b make = make a b
both_ok (Err e) a b make = tt

module _ {R D : Type 0} (form : Encoding R) (keeps : D → Type 0) (states : D → List State) where
  -- from the vault on that begins, which has the same list on the same disk
  pub began_images : (v mid : VaultOf R D) (left : D) → mid.pen.disk ≡ v.pen.disk → mid.blocks ≡ v.blocks → mid.sure ≡ v.sure
      → LeavesOnly (states mid.pen.disk) (states left) (MayHold form mid) → LeavesOnly (states v.pen.disk) (states left) (MayHold form v)
  began_images v mid left same blocks sure leaves =
      subst (λ d. LeavesOnly (states d) (states left) (MayHold form v)) same
      (subst (λ bs. LeavesOnly (states mid.pen.disk) (states left) (OpensToEither form v.sure (joined bs))) blocks
      (subst (λ s. LeavesOnly (states mid.pen.disk) (states left) (OpensToEither form s (list_of mid))) sure leaves))

  -- a file that was scanned and opened, and whose list stays in all images
  pub stays_by : {faults : D → ℕ} (disk mid left : D) (v : VaultOf R D) → IsImage (now (states disk)) (bytes_of (states disk))
      → OnlySyncs (states disk) (states mid) → IsOpenedOn form keeps states faults mid v → keeps v.pen.disk
      → LeavesOnly (states v.pen.disk) (states left) (MayHold form v) → KeepsList form states disk left
  stays_by disk mid left v reads first opened before leaves = record {
    records = list_of v;
    file = subst (λ bs. OpensTo form bs (list_of v)) (bytes_stay (states disk) (states mid) first) (opened_list form (bytes_of (states mid)) v.pen (list_of v) (opened.opened before));
    images = LeavesOnly-join (states disk) (states v.pen.disk) (states left) (λ image. IsImage (now (states disk)) image ⊎ OpensTo form image (list_of v))
        (LeavesOnly-weaker (states disk) (states v.pen.disk) (IsImage (now (states disk)))
        (λ image. IsImage (now (states disk)) image ⊎ OpensTo form image (list_of v)) (λ image is. inl is)
        (opened_again (states disk) (states mid) (states v.pen.disk) reads first (opened.only_syncs before)))
        (LeavesOnly-weaker (states v.pen.disk) (states left) (MayHold form v)
        (λ image. IsImage (now (states disk)) image ⊎ OpensTo form image (list_of v)) (λ image may. inr (one image may)) leaves);
    settled = λ image is. one image (leaves.newest image is);
  }
    where
      one : (image : List ℕ) → MayHold form v image → OpensTo form image (list_of v)
      one image may = opens_same form v.sure (list_of v) (list_of v) image (opened.sure before) refl may
