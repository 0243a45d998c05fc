-- Commands that put one list in the place of another.
use Rattle.std.specs.Prelude.{◌≡◌, ℕ, ◌+◌, ◌-◌, ◌*◌, ◌<◌, List, ◌∷◌, [], length, replicate, Ok, Err}
use Rattle.record_core.specs.Bytes.{Encoding}
use Rattle.disk_core.specs.State.{State, now, IsImage}
use Rattle.disk_core.specs.Calls.{bytes_of}
use Rattle.segment_core.specs.Frame.{Shrink}
use Rattle.segment_core.specs.Written.{group_frame}
use Rattle.pen_core.specs.Refusals.{group_lines, shrink_lines, change_lines, one_run}
use Rattle.pen_core.specs.Pen.{IsKept}
use Rattle.pen_core.specs.Typed.{OpensTo}
use Rattle.vault_core.specs.declared.fault.VaultFault.{VaultFault}
use Rattle.vault_core.specs.Commands.{IsCommand, StandsCommanded, changed_frame, resized}
use Rattle.vault_core.specs.Touched.{IsTouched}
use Rattle.vault_core.specs.Vault.{VaultOf, OpensToEither, list_of}
use Rattle.files_core.specs.Given.{given_from}
use Rattle.files_core.specs.declared.fault.FileFault.{FileFault}
use Rattle.files_core.specs.declared.fault.FileFault.TheVariants.{Word, Input, Open, Vault, Grower, Upgrade}
use Rattle.files_core.specs.Opened.{IsOpenedOn, IsNotOpened, LeavesBeforeOr}

-- The file on the disk had one list, and has another that is made of it: each image meanwhile opens to the one or the
-- other, and each that a crash may leave now to the other.
pub record Replaces {R D : Type 0} (form : Encoding R) (states : D → List State) (IsMadeOf : List R → List R → Type 0) (disk left : D) : Type 0 where
  pub was : List R
  pub behind : List R
  pub file : OpensTo form (bytes_of (states disk)) was
  pub made : IsMadeOf was behind
  pub images : LeavesBeforeOr (states disk) (states left) (OpensToEither form was behind)
  pub settled : (image : List ℕ) → IsImage (now (states left)) image → OpensTo form image behind

module _ {R D : Type 0} (form : Encoding R) (keeps : D → Type 0) (states : D → List State) (faults : D → ℕ) where
  -- Why it was refused: at opening, and then nothing was written; or by the vault that was opened, for that reason.
  abbrev pub IsWorkFault : (VaultOf R D → VaultOf R D → VaultFault → Type 0) → D → D → FileFault → Type 0
  IsWorkFault why disk left (Open fault) = IsNotOpened form keeps states faults disk left fault
  IsWorkFault why disk left (Vault fault) = (v w : VaultOf R D) × IsOpenedOn form keeps states faults disk v × (w.pen.disk ≡ left) × why v w fault
  IsWorkFault why disk left (Word word) = ⊥
  IsWorkFault why disk left (Input refusal) = ⊥
  IsWorkFault why disk left (Grower stopped) = ⊥
  IsWorkFault why disk left (Upgrade fault) = ⊥

  -- Why records weren't put in the place of others. Behind a fault of the disk they are in the vault's list, and its file opens
  -- to that or to the old one; behind another the list is the old one. That there is none is no reason.
  pub record IsSetFault (start : ℕ) (records : List R) (v w : VaultOf R D) (fault : VaultFault) : Type 0 where
    pub some : 0 < length records
    pub command : IsCommand form keeps states faults (changed_frame form (one_run start (length records)) (list_of w)) (change_lines v.pen (one_run start (length records))) v w (Err fault)
    pub list : StandsCommanded (IsTouched (given_from start records) (one_run start (length records)) (list_of v) (list_of w)) (w.blocks ≡ v.blocks) fault

  -- why a vault wasn't cleared
  pub record IsClearFault (v w : VaultOf R D) (fault : VaultFault) : Type 0 where
    pub command : IsCommand form keeps states faults (Shrink 0) (shrink_lines v.pen 0) v w (Err fault)
    pub list : StandsCommanded (list_of w ≡ []) (w.blocks ≡ v.blocks) fault

  -- why its length wasn't made n: more copies weren't appended, or records weren't taken away
  pub record IsResizeFault (n : ℕ) (r : R) (v w : VaultOf R D) (fault : VaultFault) : Type 0 where
    pub up : length (list_of v) < n → IsCommand form keeps states faults (group_frame form (replicate (n - length (list_of v)) r ∷ []))
        (group_lines v.pen (n - length (list_of v)) (8 + (n - length (list_of v)) * form.width)) v w (Err fault)
    pub down : n < length (list_of v) → IsCommand form keeps states faults (Shrink n) (shrink_lines v.pen n) v w (Err fault)
    pub other : n ≡ length (list_of v) → ⊥
    pub list : StandsCommanded (list_of w ≡ resized n r (list_of v)) (w.blocks ≡ v.blocks) fault

  -- ---- what was done

  -- The file was opened as one vault, and is that of another, which was made of it so: the frames that the other has more were
  -- written, and none else.
  pub record HasWorked (IsDone : VaultOf R D → VaultOf R D → Type 0) (disk left : D) : Type 0 where
    pub before : VaultOf R D
    pub after : VaultOf R D
    pub opened : IsOpenedOn form keeps states faults disk before
    pub disk_is : after.pen.disk ≡ left
    pub kept : keeps left → IsKept (states left) after.pen
    pub done : IsDone before after

  -- records were put in the place of those from a position on, as one change of just these, or there was none
  pub record IsSet (start : ℕ) (records : List R) (v w : VaultOf R D) : Type 0 where
    pub list : IsTouched (given_from start records) (one_run start (length records)) (list_of v) (list_of w)
    pub some : 0 < length records
        → IsCommand form keeps states faults (changed_frame form (one_run start (length records)) (list_of w)) (change_lines v.pen (one_run start (length records))) v w (Ok tt)
    pub none : records ≡ [] → w ≡ v

  -- its length was made n: by one growth of copies, by a shrink, or it was n already
  pub record IsResized (n : ℕ) (r : R) (v w : VaultOf R D) : Type 0 where
    pub list : list_of w ≡ resized n r (list_of v)
    pub up : length (list_of v) < n → IsCommand form keeps states faults (group_frame form (replicate (n - length (list_of v)) r ∷ []))
        (group_lines v.pen (n - length (list_of v)) (8 + (n - length (list_of v)) * form.width)) v w (Ok tt)
    pub down : n < length (list_of v) → IsCommand form keeps states faults (Shrink n) (shrink_lines v.pen n) v w (Ok tt)
    pub same : n ≡ length (list_of v) → w ≡ v

  -- all records were taken away, by a shrink, or there was none
  pub record IsCleared (v w : VaultOf R D) : Type 0 where
    pub list : list_of w ≡ []
    pub some : 0 < length (list_of v) → IsCommand form keeps states faults (Shrink 0) (shrink_lines v.pen 0) v w (Ok tt)
    pub none : list_of v ≡ [] → w ≡ v
