-- Why looks may be refused.
use Rattle.std.proofs.Common.{ℕ, ◌≤◌, List, arith}
use Rattle.record_core.specs.Bytes.{Encoding}
use Rattle.segment_core.specs.declared.format.Shape.{Shape}
use Rattle.segment_core.specs.Frame.{Frame}
use Rattle.beside_core.specs.declared.fault.LookFault.{LookFault}
use Rattle.beside_core.specs.declared.fault.LookFault.TheVariants.{Disk, Scan, NoRecord, TooFar, Memory}
use Rattle.beside_core.specs.Fault.{IsNoDamage}
use Rattle.beside_core.specs.Since.{MayRefuse}

-- what may be refused between two moments may be refused between wider ones
pub refused_earlier : {R : Type 0} (form : Encoding R) (shape : Shape) (frames : ℕ → List Frame) (begin from to : ℕ) (fault : LookFault) → begin ≤ from
    → MayRefuse form shape frames from to fault → MayRefuse form shape frames begin to fault
refused_earlier form shape frames begin from to (Disk fault) le may = tt
refused_earlier form shape frames begin from to (Scan fault) le may = may
refused_earlier form shape frames begin from to (NoRecord i) le may = let since = may.1 in (may.0, omega (arith, le, since), may.2, may.3, may.4, may.5)
refused_earlier form shape frames begin from to TooFar le may = tt
refused_earlier form shape frames begin from to Memory le may = tt

-- what no bytes of the file are the reason of may be refused
pub without_damage : {R : Type 0} (form : Encoding R) (shape : Shape) (frames : ℕ → List Frame) (from to : ℕ) (fault : LookFault) → IsNoDamage fault → MayRefuse form shape frames from to fault
without_damage form shape frames from to (Disk fault) clear = tt
without_damage form shape frames from to (Scan fault) clear = absurd clear
without_damage form shape frames from to (NoRecord i) clear = absurd clear
without_damage form shape frames from to TooFar clear = tt
without_damage form shape frames from to Memory clear = tt
