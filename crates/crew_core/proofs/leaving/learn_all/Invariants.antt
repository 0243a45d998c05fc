use Rattle.std.proofs.Common.{◌≡◌, length, take}
use Rattle.std.specs.List.{AllWithin}
use Rattle.directory_core.specs.Chain.{IsPrefix}
use Rattle.book_core.specs.Lists.{StandInList}
use Rattle.flush_core.specs.Flusher.{FlusherLearns}
use Rattle.vault_core.specs.Gathering.{most_known}
use Rattle.crew_core.proofs.leaving.learn_all.Given as goal

-- The flusher knows what the first seats know.
abbrev pub invariant-loop-k : goal.invariant-loop-k
invariant-loop-k g l = record {
  same : l.seats ≡ l.fn.seats;
  learns : FlusherLearns l.fn.flusher l.flusher;
  known : length l.flusher.pass.entries ≡ most_known (take l.k l.fn.seats) (length l.fn.flusher.pass.entries);
  begin : AllWithin (λ seat. IsPrefix seat.pass.entries l.flusher.pass.entries) l.fn.seats 0 l.k;
  stand : AllWithin StandInList l.fn.seats 0 l.k;
}
