use Rattle.std.proofs.Common.{◌+◌, ◌-◌, ◌*◌}
use Rattle.search_core.proofs.slices.+counting.Given as goal

abbrev pub decreases-count_by_threads : goal.decreases-count_by_threads
decreases-count_by_threads g l = 2 * l.threads

abbrev pub decreases-theirs : goal.decreases-theirs
decreases-theirs g l = 2 * l.fewer + 1

abbrev pub decreases-ours : goal.decreases-ours
decreases-ours g l = 2 * (l.threads - l.fewer) + 1
