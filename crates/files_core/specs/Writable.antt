-- A file that is opened to be written, and records that are put in the place of others of it.
use Rattle.std.specs.Prelude.{◌≡◌, ℕ, true, false, List, [], ◌∷◌, IsSome}
use Rattle.record_core.specs.Bytes.{Encoding}
use Rattle.disk_core.specs.State.{State}
use Rattle.pen_core.specs.PenOf.{PenOf}
use Rattle.vault_core.specs.declared.fault.VaultFault.{VaultFault}
use Rattle.vault_core.specs.Vault.{VaultOf, IsVault, vault_of}
use Rattle.files_core.specs.Changing.{IsSet, IsSetFault}
use Rattle.files_core.specs.Opened.{IsOpenedOn}

-- any bytes are read as a record
abbrev pub ReadsAny : {R : Type 0} → Encoding R → Type 0
ReadsAny form = (bytes : List ℕ) → IsSome (form.value_of bytes)

-- where not all are, nothing is said
pub none_read : {R : Type 0} (form : Encoding R) → false ≡ true → ReadsAny form
none_read form is = absurd cc

-- the vault of this pen and this list
abbrev pub vault_with : {R D : Type 0} → Encoding R → PenOf D → List R → VaultOf R D
vault_with form pen list = vault_of form pen (list ∷ [])

module _ {R D : Type 0} (form : Encoding R) (keeps : D → Type 0) (states : D → List State) (faults : D → ℕ) where
  -- The pen was opened on the disk, over a file that has these records.
  pub record IsWritable (disk : D) (pen : PenOf D) : Type 0 where
    pub records : List R
    pub opened : IsOpenedOn form keeps states faults disk (vault_with form pen records)
    pub kept : IsVault (keeps pen.disk) form (vault_with form pen records)

  -- Records were put in the place of those of a list from a position on, and this is what it has become.
  pub record IsPutFrom (start : ℕ) (records list : List R) (old new : PenOf D) : Type 0 where
    pub behind : List R
    pub set : IsSet form keeps states faults start records (vault_with form old list) (vault_with form new behind)
    pub kept : IsVault (keeps new.disk) form (vault_with form new behind)

  -- they weren't
  pub record IsNotPut (start : ℕ) (records list : List R) (old new : PenOf D) (fault : VaultFault) : Type 0 where
    pub behind : List R
    pub refused : IsSetFault form keeps states faults start records (vault_with form old list) (vault_with form new behind) fault
