-- A disk that tells how far it was read, by its parts.
use Rattle.files_core.specs.declared.watched.Watched.{Watched}

-- the disk below
abbrev pub below : {D P : Type 0} → Watched D P → D
below w = w.inner
