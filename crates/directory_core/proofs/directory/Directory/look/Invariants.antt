use Rattle.std.proofs.Common.{◌≡◌, false}
use Rattle.directory_core.specs.Chain.{IsPrefix}
use Rattle.directory_core.specs.Known.{KnowsAll}
use Rattle.directory_core.proofs.directory.Directory.look.Given as goal

abbrev pub invariant-loop : goal.invariant-loop
invariant-loop g l = (l.pass.of ≡ l.self) × IsPrefix l.fn.pass.entries l.pass.entries × (l.pass.strayed ≡ false)
    × (KnowsAll l.fn.pass → l.pass ≡ record l.fn.pass { strayed = false })
