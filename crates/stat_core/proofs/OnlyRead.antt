-- What reading alone leaves of a disk.
use Rattle.std.proofs.Common.{List, refl, ap, subst, ◌∙◌}
use Rattle.disk_core.specs.State.{State, now, IsImage}
use Rattle.disk_core.specs.Calls.{Stays}
use Rattle.disk_core.proofs.JoinedMoments.{LeavesOnly-start, LeavesOnly-more, LeavesOnly-join, LeavesOnly-weaker}
use Rattle.stat_core.specs.Window.{OnlyReads}

pub reads_nothing : (states : List State) → OnlyReads states states
reads_nothing states = record { same = refl; images = LeavesOnly-start states (IsImage (now states)) (λ image is. is) }

pub reads_once : (old new : List State) → Stays old new → OnlyReads old new
reads_once old new stays = record {
  same = ap now stays;
  images = LeavesOnly-more old old new (now old) (IsImage (now old)) (LeavesOnly-start old (IsImage (now old)) (λ image is. is)) stays (λ image is. is);
}

pub reads_on : (old mid new : List State) → OnlyReads old mid → OnlyReads mid new → OnlyReads old new
reads_on old mid new first then = record {
  same = then.same ∙ first.same;
  images =
      LeavesOnly-join old mid new (IsImage (now old)) first.images
      (LeavesOnly-weaker mid new (IsImage (now mid)) (IsImage (now old)) (λ image is. subst (λ s. IsImage s image) first.same is) then.images);
}
