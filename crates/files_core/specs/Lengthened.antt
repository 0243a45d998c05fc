-- A length that is reached in parts: by growths of copies of a record, one behind the other, each of them committed.
use Rattle.std.specs.Prelude.{◌≡◌, ◌⊎◌, ℕ, zero, suc, ◌+◌, ◌-◌, ◌<◌, ◌≤◌, ◌^◌, List, ◌++◌, length, replicate}
use Rattle.record_core.specs.Bytes.{Encoding}
use Rattle.disk_core.specs.State.{State, now, IsImage}
use Rattle.disk_core.specs.Calls.{bytes_of}
use Rattle.pen_core.specs.Typed.{OpensTo}
use Rattle.vault_core.specs.declared.fault.VaultFault.{VaultFault}
use Rattle.vault_core.specs.Commands.{resized}
use Rattle.vault_core.specs.Upgrading.{IsGreatestPiece}
use Rattle.vault_core.specs.Vault.{VaultOf, list_of}
use Rattle.files_core.specs.declared.fault.FileFault.{FileFault}
use Rattle.files_core.specs.declared.fault.FileFault.TheVariants.{Word, Input, Open, Vault, Grower, Upgrade}
use Rattle.files_core.specs.Changing.{IsResized, IsResizeFault, IsWorkFault}
use Rattle.files_core.specs.Opened.{IsNotOpened, LeavesBeforeOr}

-- ---- what a crash may leave

-- the image opens to a list with some copies of a record behind it, so many at most
abbrev pub OpensToLonger : {R : Type 0} → Encoding R → List R → ℕ → R → List ℕ → Type 0
OpensToLonger form was most r image = (k : ℕ) × (k ≤ most) × OpensTo form image (was ++ replicate k r)

-- to that with no more copies than the length n asks for, or to the list of this length
abbrev pub OpensToPart : {R : Type 0} → Encoding R → List R → ℕ → R → List ℕ → Type 0
OpensToPart form was n r image = OpensToLonger form was (n - length was) r image ⊎ OpensTo form image (resized n r was)

-- The file on the disk had a list, whose length was to become n: each image meanwhile, and each that a crash may leave now, opens to
-- a part of that.
pub record StandsInPart {R D : Type 0} (form : Encoding R) (states : D → List State) (n : ℕ) (r : R) (disk left : D) : Type 0 where
  pub was : List R
  pub file : OpensTo form (bytes_of (states disk)) was
  pub images : LeavesBeforeOr (states disk) (states left) (OpensToPart form was n r)
  pub stands : (image : List ℕ) → IsImage (now (states left)) image → OpensToPart form was n r image

-- Its length became n: each image now opens to the list of that length.
pub record StandsWhole {R D : Type 0} (form : Encoding R) (states : D → List State) (n : ℕ) (r : R) (disk left : D) : Type 0 where
  pub meanwhile : StandsInPart form states n r disk left
  pub settled : (image : List ℕ) → IsImage (now (states left)) image → OpensTo form image (resized n r meanwhile.was)

module _ {R D : Type 0} (form : Encoding R) (keeps : D → Type 0) (states : D → List State) (faults : D → ℕ) where
  -- so many growths of as many copies each were appended, one behind the other: each is a resize
  abbrev pub HasGrownBy : ℕ → ℕ → R → VaultOf R D → VaultOf R D → Type 0
  HasGrownBy zero piece r v w = w ≡ v
  HasGrownBy (suc growths) piece r v w = (u : VaultOf R D) × HasGrownBy growths piece r v u × IsResized form keeps states faults (length (list_of u) + piece) r u w

  module _ (n : ℕ) (r : R) where
    -- Growths of as many copies as a frame takes were appended, all of them short of the length n. There are none where no vector is
    -- so long.
    pub record HasComeNear (v near : VaultOf R D) : Type 0 where
      pub piece : ℕ
      pub greatest : IsGreatestPiece v.pen.shape.format form.width piece
      pub growths : ℕ
      pub grown : HasGrownBy growths piece r v near
      pub short : 0 < growths → length (list_of near) < n
      pub at_once : 2 ^ 32 < n → growths ≡ 0

    -- A vault's length was made n by such growths and one resize, which takes one more of them at most.
    pub record IsLengthened (v w : VaultOf R D) : Type 0 where
      pub list : list_of w ≡ resized n r (list_of v)
      pub near : VaultOf R D
      pub came : HasComeNear v near
      pub enough : n ≤ 2 ^ 32 → n ≤ length (list_of near) + came.piece
      pub last : IsResized form keeps states faults n r near w

    -- Why it wasn't: behind such growths, which stand, the next one of them was refused, or the last resize.
    pub record IsLengthenFault (v w : VaultOf R D) (fault : VaultFault) : Type 0 where
      pub near : VaultOf R D
      pub came : HasComeNear v near
      pub next : ℕ
      pub next_is : (next ≡ n) ⊎ ((next ≡ length (list_of near) + came.piece) × (next < n))
      pub why : IsResizeFault form keeps states faults next r near w fault

    -- Why the file's length wasn't made n: at opening, and then nothing was written; or by the vault that was opened.
    abbrev pub IsLengthenRefusal : D → D → FileFault → Type 0
    IsLengthenRefusal disk left (Open fault) = IsNotOpened form keeps states faults disk left fault
    IsLengthenRefusal disk left (Vault fault) = (keeps left → StandsInPart form states n r disk left) × IsWorkFault form keeps states faults IsLengthenFault disk left (Vault fault)
    IsLengthenRefusal disk left (Word word) = ⊥
    IsLengthenRefusal disk left (Input refusal) = ⊥
    IsLengthenRefusal disk left (Grower stopped) = ⊥
    IsLengthenRefusal disk left (Upgrade fault) = ⊥
