-- What the end of a phase takes memory for.
use Rattle.std.specs.Prelude.{◌≡◌, ◌+◌, ◌≤◌, length, vec_capacity}
use Rattle.record_core.specs.Limits.{record_limit}
use Rattle.directory_core.specs.Chain.{grown_records, total}
use Rattle.book_core.specs.Lists.{Phase}
use Rattle.flush_core.specs.Flusher.{FlusherOf}
use Rattle.vault_core.specs.declared.space.Space.{Space}

-- Rows with room for the blocks from before the phase and one more, and for their ends; and in that one the records of all
-- growths that the flusher knows.
pub record IsSpaceFor {R D : Type 0} (live : Phase R) (f : FlusherOf R D) (space : Space R) : Type 0 where
  pub row : (length space.row.items ≡ 0) × (length live.blocks + 1 ≤ vec_capacity space.row)
  pub ends : (length space.ends.items ≡ 0) × (length live.blocks + 1 ≤ vec_capacity space.ends)
  pub copied : space.last.items ≡ grown_records f.pass.entries
  pub in_limit : f.before + total f.pass.entries ≤ record_limit
