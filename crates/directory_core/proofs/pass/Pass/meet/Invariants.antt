use Rattle.std.proofs.Common.{◌≡◌, false, take, length}
use Rattle.directory_core.proofs.pass.Pass.meet.Given as goal

abbrev pub invariant-loop-number : goal.invariant-loop-number
invariant-loop-number g l = (l.self ≡ l.fn.self) × (l.other ≡ l.fn.other) × (take l.number l.fn.self.entries ≡ take l.number l.fn.other.entries)

abbrev pub invariant-loop-number-then-mine-theirs : goal.invariant-loop-number-then-mine-theirs
invariant-loop-number-then-mine-theirs g l = (l.self.of ≡ l.fn.self.of) × (l.other ≡ l.fn.other) × (l.self.entries ≡ take l.number l.fn.other.entries)
    × (take (length l.fn.self.entries) l.fn.other.entries ≡ l.fn.self.entries) × (l.self.ended ≡ false) × (l.fn.self.ended ≡ false)
