-- What a crash leaves around one call, from what the call's contract says of the states. Runs of calls are joined by `LeavesOnly-join`.
use Rattle.std.proofs.Common.{ℕ, List, length, Result, Ok, Err, OnOk, OnErr, sym, subst}
use Rattle.disk_core.specs.declared.fault.DiskFault.{DiskFault}
use Rattle.disk_core.specs.State.{State, now, settled, touched, written, overlay, IsImage}
use Rattle.disk_core.specs.Calls.{bytes_of, Stays, Writes, TearsWrite, Settles}
use Rattle.disk_core.specs.Moments.{LeavesOnly}
use Rattle.disk_core.proofs.JoinedMoments.{LeavesOnly-start, LeavesOnly-more}
use Rattle.disk_core.proofs.ImageLemmas.{IsImage-settled, IsImage-touched, touched_more, torn_images}

module _ (old new : List State) (P : List ℕ → Type 0) where
  -- a read, or the length
  pub LeavesOnly-stays : Stays old new → ((image : List ℕ) → IsImage (now old) image → P image) → LeavesOnly old new P
  LeavesOnly-stays stays here = LeavesOnly-more old old new (now old) P (LeavesOnly-start old P here) stays here

  -- a write, whether it failed or not
  pub LeavesOnly-write : {T : Type 0} (r : Result T DiskFault) (at : ℕ) (bytes : List ℕ) → OnOk r (Writes at bytes old new) → OnErr r (TearsWrite at (length bytes) old new)
      → ((image : List ℕ) → IsImage (touched (now old) at (length bytes) (bytes_of old)) image → P image) → LeavesOnly old new P
  LeavesOnly-write (Ok value) at bytes done torn here =
      let s = now old in
      let start = LeavesOnly-start old P (λ image is. here image (touched_more s at (length bytes) s.seen image is)) in
      LeavesOnly-more old old new (written s at bytes) P start done (λ image is. here image (IsImage-touched s at (length bytes) (overlay s.seen at bytes) s.seen image is))
  LeavesOnly-write (Err fault) at bytes done torn here =
      let s = now old in
      let start = LeavesOnly-start old P (λ image is. here image (touched_more s at (length bytes) s.seen image is)) in
      LeavesOnly-more old old new torn.0 P start torn.1 (λ image is. here image (torn_images at (length bytes) s torn.0 s.seen image torn.2 is))

  -- a sync, whether it failed or not, of a disk whose bytes as they read are an image
  pub LeavesOnly-sync : {T : Type 0} (r : Result T DiskFault) → OnOk r (Settles old new) → OnErr r (Stays old new) → IsImage (now old) (bytes_of old)
      → ((image : List ℕ) → IsImage (now old) image → P image) → LeavesOnly old new P
  LeavesOnly-sync (Ok value) done same readable here =
      LeavesOnly-more old old new (settled (bytes_of old)) P (LeavesOnly-start old P here) done (λ image is. subst P (sym (IsImage-settled (bytes_of old) image is)) (here (bytes_of old) readable))
  LeavesOnly-sync (Err fault) done same readable here = LeavesOnly-stays same here
