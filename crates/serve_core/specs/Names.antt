-- The names of why a server stops, which `Display` writes.
use Rattle.std.specs.Prelude.{ℕ, List, codes}
use Rattle.pen_core.specs.Names.{open_name}
use Rattle.flush_core.specs.Names.{flush_name}
use Rattle.vault_core.specs.Names.{vault_name}
use Rattle.serve_core.specs.declared.fault.ServeFault.{ServeFault}
use Rattle.serve_core.specs.declared.fault.ServeFault.TheVariants.{Open, Share, Thread, Flush}

abbrev pub serve_name : ServeFault → List ℕ
serve_name (Open fault) = open_name fault
serve_name (Share fault) = vault_name fault
serve_name Thread = codes "thread"
serve_name (Flush fault) = flush_name fault
