use Rattle.std.proofs.Common.{◌≡◌, ◌++◌, take}
use Rattle.lines_core.specs.Strict.{after_bytes, strict_bytes}
use Rattle.lines_core.proofs.strict.Held.append_strict.Given as goal

abbrev pub invariant-loop-at : goal.invariant-loop-at
invariant-loop-at l = (l.out.items ≡ l.fn.out.items ++ strict_bytes l.fn.self (take l.at l.bytes)) × (l.self ≡ after_bytes l.fn.self (take l.at l.bytes))
