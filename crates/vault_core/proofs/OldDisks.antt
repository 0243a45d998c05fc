-- An old file that was opened, and its disk behind a copy.
use Rattle.std.proofs.Common.{◌≡◌, ◌∙◌, ◌-◌, ◌+◌, ℕ, arith, List, length, ap, subst, sym}
use Rattle.disk_core.specs.State.{State}
use Rattle.disk_core.specs.Calls.{bytes_of}
use Rattle.disk_core.specs.Moments.{clock}
use Rattle.segment_core.specs.declared.format.Format.{Format}
use Rattle.segment_core.specs.Vector.{HasVector}
use Rattle.record_core.specs.Bytes.{Encoding}
use Rattle.pen_core.specs.PenOf.{PenOf}
use Rattle.pen_core.specs.Opening.{IsOpened, OnlySyncs, AreCallsDone}
use Rattle.vault_core.specs.Upgrading.{IsFileOfFormat}

-- the bytes that were opened are a file of the pen's version
pub opened_file : {R D : Type 0} {form : Encoding R} {bytes : List ℕ} {pen : PenOf D} {records : List R} {format : Format} → IsOpened form bytes pen records
    → pen.shape.format ≡ format → IsFileOfFormat format form bytes records
opened_file {form = form} {bytes = bytes} {records = records} opened is =
    (opened.found, subst (λ (f : Format). HasVector f form bytes opened.found records) (ap (λ s. s.format) (sym opened.shape_is) ∙ is) opened.vector)

-- the old disk is given back as it was opened
module _ {D : Type 0} (keeps : D → Type 0) (states : D → List State) (faults : D → ℕ) (old : D) {own left : D} (same : left ≡ own) where
  pub back_stays : (keeps own → OnlySyncs (states old) (states own)) → keeps left → OnlySyncs (states old) (states left)
  back_stays stays = subst (λ d. keeps d → OnlySyncs (states old) (states d)) (sym same) stays

  pub back_calls : (len : ℕ) × (keeps own → len ≡ length (bytes_of (states old))) × AreCallsDone len (clock (states own) - clock (states old))
      → (len : ℕ) × (keeps left → len ≡ length (bytes_of (states old))) × AreCallsDone len (clock (states left) - clock (states old))
  back_calls calls =
      subst (λ d. (len : ℕ) × (keeps d → len ≡ length (bytes_of (states old))) × AreCallsDone len (clock (states d) - clock (states old))) (sym same) calls

  pub back_faults : faults own ≡ faults old → faults left ≡ faults old
  back_faults none = ap faults same ∙ none

  pub back_no_fault : faults own ≡ faults old → faults left ≡ faults old + 0
  back_no_fault none = let is = back_faults none in omega (arith, is)

  pub back_model : (keeps own → keeps old) → keeps left → keeps old
  back_model model kept = model (subst keeps same kept)
