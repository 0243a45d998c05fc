-- A tick of the homes, whatever step the log is at: what its images open to, and that the log's step stays.
use Rattle.std.proofs.Common.{◌≡◌, ℕ, ◌+◌, ◌≤◌, ◌<◌, inl, inr, List, [], ◌∷◌, length, get_or, Result, OnOk, OnErr, sym, subst, ◌∙◌, arith}
use Rattle.std.proofs.lemmas.Bool.{cases_order}
use Rattle.disk_core.specs.declared.fault.DiskFault.{DiskFault}
use Rattle.disk_core.specs.State.{State, now, overlay, settled, touched, written, IsImage}
use Rattle.disk_core.specs.Calls.{bytes_of, Stays, Writes, TearsWrite, Settles}
use Rattle.disk_core.specs.Moments.{LeavesOnly}
use Rattle.disk_core.proofs.ImageLemmas.{length-overlay, get_or-overlay}
use Rattle.disk_core.proofs.CallLemmas.{LeavesOnly-write, LeavesOnly-sync}
use Rattle.segment_core.specs.declared.format.Shape.{Shape}
use Rattle.segment_core.specs.Frame.{Frame}
use Rattle.segment_core.specs.Folding.{IsLoose}
use Rattle.pen_core.specs.declared.step.PenStep.{PenStep}
use Rattle.pen_core.specs.declared.step.PenStep.TheVariants.{Body, BodySync, Gate, GateSync}
use Rattle.pen_core.specs.Step.{body_of}
use Rattle.pen_core.specs.Held.{IsBeingFolded, gate_of}
use Rattle.pen_core.specs.Known.{IsFileOf, IsWritten, IsBeforeOrAfter}
use Rattle.pen_core.specs.Inside.{IsBodyOf, IsAtStep}
use Rattle.pen_core.proofs.Again.{folded_loose, Holds-again}
use Rattle.pen_core.proofs.Held.{opened_at, opened_elsewhere}
use Rattle.pen_core.proofs.Calls.{PendingIsFolded-touched, shut_after_sync, written_after_sync, on_disk_after_sync}
use Rattle.pen_core.proofs.HomeWrites.{fast_stays, same_length, shut_after_home, images_of_home_shut, written_after_home, on_disk_after_home, images_of_home_open}
use Rattle.pen_core.proofs.Ticks.{images_at}
use Rattle.pen_core.proofs.Overlaid.{overlaid}

module _ (shape : Shape) (count : ℕ) (frames next : List Frame) (before after : List (List ℕ)) (job : List ℕ) where
  abbrev p : ℕ
  p = gate_of shape frames

  abbrev P : List ℕ → Type 0
  P = IsBeforeOrAfter shape frames next before after

  abbrev body : List ℕ
  body = body_of job

  -- ---- the sync of the homes: nothing is pending behind it

  pub settled_file : (bytes : List ℕ) → IsFileOf shape count frames before (settled bytes) → IsFileOf shape 0 frames before (settled bytes)
  settled_file bytes file = record { holds = file.holds; gate_synced = file.gate_synced; pending_is_folded = λ j lt is. absurd cc }

  settled_written : (bytes : List ℕ) → IsWritten shape count frames next after (settled bytes) → IsWritten shape 0 frames next after (settled bytes)
  settled_written bytes wrote =
      record {
        longer = wrote.longer;
        holds = wrote.holds;
        closed = wrote.closed;
        inside = wrote.inside;
        pending_is_folded = λ j lt is. absurd cc;
      }

  pub step_after_sync : (step : PenStep) (s : State) → IsImage s s.seen → IsAtStep shape count p frames next after job step s
      → IsAtStep shape 0 p frames next after job step (settled s.seen)
  step_after_sync Body s readable at = (
    shut_after_sync shape count frames next before after s readable p at.0,
    record {
      some = at.1.some;
      size = at.1.size;
      closed = at.1.closed;
      pending_is_folded = λ j lt is. absurd cc;
      holds = at.1.holds;
    },
  )
  step_after_sync BodySync s readable at = (
    shut_after_sync shape count frames next before after s readable p at.0,
    settled_written s.seen (written_after_sync shape count frames next before after s readable at.1),
  )
  step_after_sync Gate s readable at = (
    shut_after_sync shape count frames next before after s readable p at.0,
    settled_written s.seen (written_after_sync shape count frames next before after s readable at.1),
    on_disk_after_sync shape count frames next before after s readable at.1,
  )
  step_after_sync GateSync s readable at = (
    settled_written s.seen (written_after_sync shape count frames next before after s readable at.0),
    on_disk_after_sync shape count frames next before after s readable at.0,
    at.2,
  )

  pub home_sync_leaves : {T : Type 0} (step : PenStep) (old new : List State) (r : Result T DiskFault)
      → IsFileOf shape count frames before (now old) → IsAtStep shape count p frames next after job step (now old)
      → IsImage (now old) (bytes_of old)
      → OnOk r (Settles old new) → OnErr r (Stays old new) → LeavesOnly old new P
  home_sync_leaves step old new r file at readable done same =
      LeavesOnly-sync old new P r done same readable
      (images_at shape count frames next before after job step (now old) file at readable)

  -- ---- a home write

  module _ (s : State) (at : ℕ) (bytes : List ℕ) (file : IsFileOf shape count frames before s) (readable : IsImage s s.seen)
      (below : at + length bytes ≤ p)
      (folded : (j : ℕ) → at ≤ j → j < at + length bytes → IsBeingFolded shape count frames j)
      (folded' : (j : ℕ) → at ≤ j → j < at + length bytes → IsBeingFolded shape count next j) where
    abbrev seen' : List ℕ
    seen' = overlay s.seen at bytes

    body_after_home : IsBodyOf shape count p frames next after body s → IsBodyOf shape count p frames next after body (written s at bytes)
    body_after_home is = record {
      some = is.some;
      size = is.size;
      closed = is.closed;
      pending_is_folded =
          PendingIsFolded-touched shape count frames before s at (length bytes) seen' next is.pending_is_folded
          (λ j lt from upto. folded' j from upto);
      holds =
          let g : p < length s.seen = omega (arith, file.gate_synced, readable.no_shorter) in
          let l = same_length shape count frames before s at bytes file readable below folded in
          let size = is.size in
          let some = is.some in
          let lb = length-overlay s.seen (p + 1) body (omega arith) in
          let lb' = length-overlay seen' (p + 1) body (omega arith) in
          let lo' = length-overlay (overlay seen' (p + 1) body) p (1 ∷ []) (omega arith) in
          let loose' : (k : ℕ) → at ≤ k → k < at + length bytes → IsLoose shape next k =
          λ k from upto. folded_loose shape count next k (folded' k from upto) in
          Holds-again shape next after (overlay (overlay s.seen (p + 1) body) p (1 ∷ []))
          (overlay (overlay seen' (p + 1) body) p (1 ∷ [])) is.holds (omega arith) (λ j lt fast. elim (cases_order j p) [
            | inl here ↦ subst
                (λ k.
                get_or (overlay (overlay seen' (p + 1) body) p (1 ∷ [])) k 0 ≡ get_or
                (overlay (overlay s.seen (p + 1) body) p (1 ∷ [])) k 0)
                (sym here)
                (opened_at (overlay seen' (p + 1) body) p (omega arith) ∙ sym (opened_at (overlay s.seen (p + 1) body) p (omega arith)))
            | inr (inl low) ↦ opened_elsewhere (overlay seen' (p + 1) body) p j (omega arith) (omega arith) (λ e. omega arith)
                ∙ get_or-overlay seen' (p + 1) body j (omega arith) (omega arith) (inl (omega arith))
                ∙ fast_stays shape count frames before s at bytes file readable below folded (IsLoose shape next) loose' j (omega arith) fast
                ∙ sym
                (opened_elsewhere (overlay s.seen (p + 1) body) p j (omega arith) (omega arith) (λ e. omega arith)
                ∙ get_or-overlay s.seen (p + 1) body j (omega arith) (omega arith) (inl (omega arith)))
            | inr (inr high) ↦ opened_elsewhere (overlay seen' (p + 1) body) p j (omega arith) (omega arith) (λ e. omega arith)
                ∙ overlaid seen' (p + 1) body j (omega arith) (omega arith) (omega arith)
                ∙ sym
                (opened_elsewhere (overlay s.seen (p + 1) body) p j (omega arith) (omega arith) (λ e. omega arith)
                ∙ overlaid s.seen (p + 1) body j (omega arith) (omega arith) (omega arith))
          ]);
    }

    pub step_after_home : (step : PenStep) → IsAtStep shape count p frames next after job step s
        → IsAtStep shape count p frames next after job step (written s at bytes)
    step_after_home Body is = (shut_after_home shape count frames before s at bytes file readable below folded is.0, body_after_home is.1)
    step_after_home BodySync is = (
      shut_after_home shape count frames before s at bytes file readable below folded is.0,
      written_after_home shape count frames before s at bytes file readable below folded next after folded' is.1,
    )
    step_after_home Gate is = (
      shut_after_home shape count frames before s at bytes file readable below folded is.0,
      written_after_home shape count frames before s at bytes file readable below folded next after folded' is.1,
      on_disk_after_home shape count frames before s at bytes file readable below folded next after folded' is.1 is.2,
    )
    step_after_home GateSync is = (
      written_after_home shape count frames before s at bytes file readable below folded next after folded' is.0,
      on_disk_after_home shape count frames before s at bytes file readable below folded next after folded' is.0 is.1,
      get_or-overlay s.seen at bytes p (omega (arith, file.gate_synced, readable.no_shorter))
          (omega (arith, file.gate_synced, readable.no_shorter)) (inr below)
          ∙ is.2,
    )

    pub home_images : (step : PenStep) → IsAtStep shape count p frames next after job step s → (image : List ℕ)
        → IsImage (touched s at (length bytes) s.seen) image → P image
    home_images Body is image of = inl (images_of_home_shut shape count frames before s at bytes file readable below folded is.0 image of)
    home_images BodySync is image of = inl (images_of_home_shut shape count frames before s at bytes file readable below folded is.0 image of)
    home_images Gate is image of = inl (images_of_home_shut shape count frames before s at bytes file readable below folded is.0 image of)
    home_images GateSync is image of = images_of_home_open shape count frames before s at bytes file readable below folded next after folded' is.0 is.1 image of

  pub home_write_leaves : {T : Type 0} (step : PenStep) (old new : List State) (r : Result T DiskFault) (at : ℕ)
      (bytes : List ℕ) (file : IsFileOf shape count frames before (now old)) (readable : IsImage (now old) (bytes_of old))
      (below : at + length bytes ≤ p)
      (folded : (j : ℕ) → at ≤ j → j < at + length bytes → IsBeingFolded shape count frames j)
      (folded' : (j : ℕ) → at ≤ j → j < at + length bytes → IsBeingFolded shape count next j)
      → IsAtStep shape count p frames next after job step (now old)
      → OnOk r (Writes at bytes old new) → OnErr r (TearsWrite at (length bytes) old new) → LeavesOnly old new P
  home_write_leaves step old new r at bytes file readable below folded folded' is done torn =
      LeavesOnly-write old new P r at bytes done torn
      (home_images (now old) at bytes file readable below folded folded' step is)
