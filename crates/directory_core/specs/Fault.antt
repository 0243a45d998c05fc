-- Why a growth isn't published.
use Rattle.std.specs.Prelude.{◌≡◌, ◌+◌, ◌<◌, ◌≤◌, List, length}
use Rattle.block_core.specs.Growth.{Growth}
use Rattle.directory_core.specs.declared.fault.DirFault.{DirFault}
use Rattle.directory_core.specs.declared.fault.DirFault.TheVariants.{Taken, Full, Strayed, Memory}
use Rattle.directory_core.specs.Chain.{total}
use Rattle.directory_core.specs.Identity.{Identity}

-- the directory has room for a growth behind these
abbrev pub DirectoryHasRoom : {R : Type 0} → Identity → List (Growth R) → Type 0
DirectoryHasRoom directory known = length known < directory.room

-- with that growth behind these its records keep within the limit
abbrev pub DirectoryKeepsLimit : {R : Type 0} → Identity → List (Growth R) → Growth R → Type 0
DirectoryKeepsLimit directory known e = total known + length e.records ≤ directory.limit

-- the fault with which a growth behind these is refused. `Full` comes exactly where there is no room, and where
-- the limit would be passed, and there is room, only `Strayed` of the growth's number
abbrev pub IsPublishRefusal : {R : Type 0} → Identity → List (Growth R) → Growth R → DirFault → Type 0
IsPublishRefusal directory known e Taken = DirectoryHasRoom directory known × DirectoryKeepsLimit directory known e
IsPublishRefusal directory known e Full = directory.room ≤ length known
IsPublishRefusal directory known e (Strayed n) = DirectoryHasRoom directory known × (n ≡ length known)
IsPublishRefusal directory known e Memory = DirectoryHasRoom directory known × DirectoryKeepsLimit directory known e
