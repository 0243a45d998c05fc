-- Which calls of a disk with a fuse pass, by how many came before.
use Rattle.std.proofs.Common.{◌≡◌, ℕ, zero, suc, ◌≤◌, ◌<◌, refl, arith}
use Rattle.disk_core.specs.declared.blow.Blow.{Blow}
use Rattle.disk_core.specs.declared.blow.Blow.TheVariants.{Stop, FailOnce}
use Rattle.disk_core.specs.declared.blow.Fuse.{Fuse}
use Rattle.disk_core.specs.declared.blow.Fuse.TheVariants.{Whole, Stopped, Spent}
use Rattle.disk_core.specs.declared.blow.Fate.TheVariants.{Passes, Fails, Breaks}
use Rattle.disk_core.specs.Fuse.{fate_of, burnt}

-- the fuse after so many calls
abbrev pub burnt_by : ℕ → Fuse → Fuse
burnt_by zero fuse = fuse
burnt_by (suc n) fuse = burnt_by n (burnt fuse)

-- so many calls pass
pub fate_of-before : (n calls : ℕ) (blow : Blow) → n < calls → fate_of (burnt_by n (Whole calls blow)) ≡ Passes
fate_of-before zero zero blow lt = absurd (omega arith)
fate_of-before zero (suc calls) blow lt = refl
fate_of-before (suc n) zero blow lt = absurd (omega arith)
fate_of-before (suc n) (suc calls) blow lt = fate_of-before n calls blow (omega arith)

fate_of-stopped : (n : ℕ) → fate_of (burnt_by n Stopped) ≡ Fails
fate_of-stopped zero = refl
fate_of-stopped (suc n) = fate_of-stopped n

fate_of-spent : (n : ℕ) → fate_of (burnt_by n Spent) ≡ Passes
fate_of-spent zero = refl
fate_of-spent (suc n) = fate_of-spent n

-- then all fail
pub fate_of-stop : (n calls : ℕ) → calls ≤ n → fate_of (burnt_by n (Whole calls Stop)) ≡ Fails
fate_of-stop zero zero le = refl
fate_of-stop zero (suc calls) le = absurd (omega arith)
fate_of-stop (suc n) zero le = fate_of-stopped n
fate_of-stop (suc n) (suc calls) le = fate_of-stop n calls (omega arith)

-- or one does
pub fate_of-once : (calls arriving : ℕ) → fate_of (burnt_by calls (Whole calls (FailOnce arriving))) ≡ Breaks arriving
fate_of-once zero arriving = refl
fate_of-once (suc calls) arriving = fate_of-once calls arriving

-- and the later ones pass
pub fate_of-after : (n calls arriving : ℕ) → calls < n → fate_of (burnt_by n (Whole calls (FailOnce arriving))) ≡ Passes
fate_of-after zero calls arriving lt = absurd (omega arith)
fate_of-after (suc n) zero arriving lt = fate_of-spent n
fate_of-after (suc n) (suc calls) arriving lt = fate_of-after n calls arriving (omega arith)
