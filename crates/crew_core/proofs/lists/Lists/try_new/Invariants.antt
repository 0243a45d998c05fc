use Rattle.std.proofs.Common.{◌<◌, ◌^◌, vec_len}
use Rattle.std.specs.List.{AllWithin}
use Rattle.crew_core.proofs.lists.Lists.try_new.Given as goal

abbrev pub invariant-loop-k : goal.invariant-loop-k
invariant-loop-k g l = AllWithin (λ blocks. vec_len blocks < 2 ^ 32) l.lists 0 l.k
