-- A tick of the log: what its images open to, and what is known of the disk then.
use Rattle.std.proofs.Common.{◌≡◌, ℕ, ◌+◌, ◌≤◌, ◌<◌, ◌⊎◌, inl, inr, true, List, [], ◌∷◌, length, Some, None, Result, OnOk, OnErr, refl, sym, ap, subst, arith}
use Rattle.std.proofs.lemmas.Bool.{cases_Bool, both_ways}
use Rattle.std.proofs.lemmas.Option.{same_Some}
use Rattle.disk_core.specs.declared.fault.DiskFault.{DiskFault}
use Rattle.disk_core.specs.State.{State, now, settled, touched, written, has_place, is_within, IsImage, IsTornWrite}
use Rattle.disk_core.specs.Calls.{bytes_of}
use Rattle.disk_core.specs.Moments.{LeavesOnly}
use Rattle.disk_core.proofs.CallLemmas.{LeavesOnly-write, LeavesOnly-sync}
use Rattle.disk_core.proofs.ImageLemmas.{torn_images}
use Rattle.segment_core.specs.declared.format.Shape.{Shape}
use Rattle.segment_core.specs.Frame.{Frame}
use Rattle.pen_core.specs.declared.step.PenStep.{PenStep}
use Rattle.pen_core.specs.declared.step.PenStep.TheVariants.{Body, BodySync, Gate, GateSync}
use Rattle.pen_core.specs.Step.{step_after, body_of, Calls, FailsCall}
use Rattle.pen_core.specs.Held.{HoldsFrames, gate_of}
use Rattle.pen_core.specs.Known.{IsFileOf, IsShut, IsBeforeOrAfter}
use Rattle.pen_core.specs.Inside.{IsAtStep}
use Rattle.pen_core.proofs.Held.{covered_inside, images_shut, images_open}
use Rattle.pen_core.proofs.Calls.{file_after_body, shut_after_body, written_after_body, images_of_body, holds_of_body, file_after_sync, shut_after_sync, written_after_sync, on_disk_after_sync}
use Rattle.pen_core.proofs.Calls.{next_after_sync, file_after_gate, written_after_gate, on_disk_after_gate, open_after_gate, images_of_gate, holds_of_gate}

-- the gate may be pending at these steps
abbrev pub IsOpening : PenStep → Type 0
IsOpening step = (step ≡ Gate) ⊎ (step ≡ GateSync)

-- a failed write behind the gate or at it leaves the file
torn_file : (shape : Shape) (count : ℕ) (frames : List Frame) (vector : List (List ℕ)) (at len : ℕ) (s left : State)
    → IsFileOf shape count frames vector s → IsTornWrite at len s left → HoldsFrames shape frames vector left.seen
    → gate_of shape frames ≤ at
    → IsFileOf shape count frames vector left
torn_file shape count frames vector at len s left file torn holds past = record {
  holds = holds;
  gate_synced = subst (λ bs. gate_of shape frames < length bs) (sym torn.synced) file.gate_synced;
  pending_is_folded = λ j lt is. elim (cases_Bool (is_within s.pending j)) [
    | inl old ↦ file.pending_is_folded j lt old
    | inr out ↦ elim (cases_Bool (has_place (record { at = at; len = len }) j)) [
      | inl new ↦ (let i = covered_inside at len j new in absurd (omega (arith, i.0)))
      | inr apart ↦ absurd (both_ways (is_within left.pending j) (torn.pending j out apart) is)
    ]
  ];
}

module _ (shape : Shape) (count : ℕ) (frames next : List Frame) (before after : List (List ℕ)) (bytes : List ℕ) where
  abbrev p : ℕ
  p = gate_of shape frames

  abbrev body : List ℕ
  body = body_of bytes

  abbrev P : List ℕ → Type 0
  P = IsBeforeOrAfter shape frames next before after

  pub images_at : (step : PenStep) (s : State) → IsFileOf shape count frames before s
      → IsAtStep shape count p frames next after bytes step s → IsImage s s.seen → (image : List ℕ) → IsImage s image
      → P image
  images_at Body s file at readable image is = inl (images_shut shape count frames before s file readable image is at.0)
  images_at BodySync s file at readable image is = inl (images_shut shape count frames before s file readable image is at.0)
  images_at Gate s file at readable image is = inl (images_shut shape count frames before s file readable image is at.0)
  images_at GateSync s file at readable image is = images_open shape count frames next before after s file at.0 at.1 readable image is

  shut_kept : (s : State) → IsShut p s → is_within s.pending p ≡ true → ⊥
  shut_kept s shut is = both_ways (is_within s.pending p) shut.kept is

  pub gate_at : (step : PenStep) (s : State) → IsAtStep shape count p frames next after bytes step s → is_within s.pending p ≡ true → IsOpening step
  gate_at Body s at is = absurd (shut_kept s at.0 is)
  gate_at BodySync s at is = absurd (shut_kept s at.0 is)
  gate_at Gate s at is = inl refl
  gate_at GateSync s at is = inr refl

  pub tick_leaves : {T : Type 0} (step : PenStep) (old new : List State) (r : Result T DiskFault)
      → IsFileOf shape count frames before (now old) → IsAtStep shape count p frames next after bytes step (now old)
      → IsImage (now old) (bytes_of old)
      → OnOk r (Calls step p bytes old new) → OnErr r (FailsCall step p bytes old new) → LeavesOnly old new P
  tick_leaves Body old new r file at readable done failed =
      LeavesOnly-write old new P r (p + 1) body done failed
      (λ image is. inl (images_of_body shape count frames next before after (now old) body file at.0 readable image is))
  tick_leaves BodySync old new r file at readable done failed = LeavesOnly-sync old new P r done failed readable (images_at BodySync (now old) file at readable)
  tick_leaves Gate old new r file at readable done failed =
      LeavesOnly-write old new P r p (1 ∷ []) done failed
      (images_of_gate shape count frames next before after (now old) file at.1 at.2 readable)
  tick_leaves GateSync old new r file at readable done failed = LeavesOnly-sync old new P r done failed readable (images_at GateSync (now old) file at readable)

  -- what a step leaves for the one behind it
  pub record StandsAt (step : PenStep) (s : State) : Type 0 where
    pub file : IsFileOf shape count frames before s
    pub at : IsAtStep shape count p frames next after bytes step s

  pub tick_next : (step : PenStep) (old new : List State) → IsFileOf shape count frames before (now old)
      → IsAtStep shape count p frames next after bytes step (now old) → IsImage (now old) (bytes_of old)
      → Calls step p bytes old new
      → (behind : PenStep) → step_after step ≡ Some behind → StandsAt behind (now new)
  tick_next Body old new file at readable call behind is =
      let s = now old in
      let made : now new ≡ written s (p + 1) body = ap now call in
      subst (λ t. StandsAt behind t) (sym made) (subst (λ b. StandsAt b (written s (p + 1) body)) (same_Some BodySync behind is) (record {
        file = file_after_body shape count frames next before after s body file at.0 readable;
        at = (
          shut_after_body shape count frames next before after s body file at.0 readable,
          written_after_body shape count frames next before after s body file at.0 readable at.1.pending_is_folded
              at.1.size at.1.some at.1.closed at.1.holds,
        );
      }))
  tick_next BodySync old new file at readable call behind is =
      let s = now old in
      let made : now new ≡ settled s.seen = ap now call in
      subst (λ t. StandsAt behind t) (sym made) (subst (λ b. StandsAt b (settled s.seen)) (same_Some Gate behind is) (record {
        file = file_after_sync shape count frames next before after s readable file;
        at = (
          shut_after_sync shape count frames next before after s readable p at.0,
          written_after_sync shape count frames next before after s readable at.1,
          on_disk_after_sync shape count frames next before after s readable at.1,
        );
      }))
  tick_next Gate old new file at readable call behind is =
      let s = now old in
      let made : now new ≡ written s p (1 ∷ []) = ap now call in
      subst (λ t. StandsAt behind t) (sym made) (subst (λ b. StandsAt b (written s p (1 ∷ []))) (same_Some GateSync behind is) (record {
        file = file_after_gate shape count frames next before after s file at.1 at.2 readable;
        at = (
          written_after_gate shape count frames next before after s file at.1 at.2 readable,
          on_disk_after_gate shape count frames next before after s file at.1 at.2 readable,
          open_after_gate shape count frames next before after s file at.1 at.2 readable,
        );
      }))
  tick_next GateSync old new file at readable call behind is = absurd cc

  pub tick_done : (step : PenStep) (old new : List State) → IsAtStep shape count p frames next after bytes step (now old)
      → IsImage (now old) (bytes_of old) → Calls step p bytes old new → step_after step ≡ None
      → IsFileOf shape count next after (now new) × IsShut (gate_of shape next) (now new)
  tick_done Body old new at readable call is = absurd cc
  tick_done BodySync old new at readable call is = absurd cc
  tick_done Gate old new at readable call is = absurd cc
  tick_done GateSync old new at readable call is =
      let made : now new ≡ settled (now old).seen = ap now call in
      subst (λ t. IsFileOf shape count next after t × IsShut (gate_of shape next) t) (sym made)
      (next_after_sync shape count frames next before after (now old) readable at.0 at.2)

  -- a call that failed leaves the same file, no other image, and nothing more pending than its step may leave so
  pub record Failed (step : PenStep) (s : State) : Type 0 where
    pub file : IsFileOf shape count frames before s
    pub images : (image : List ℕ) → IsImage s image → P image
    pub gate_pending : is_within s.pending p ≡ true → IsOpening step

  pub tick_failed : (step : PenStep) (old new : List State) → IsFileOf shape count frames before (now old)
      → IsAtStep shape count p frames next after bytes step (now old) → IsImage (now old) (bytes_of old)
      → IsImage (now new) (bytes_of new) → FailsCall step p bytes old new
      → Failed step (now new)
  tick_failed Body old new file at readable reads torn =
      let s = now old in
      let left = torn.0 in
      let made : now new ≡ left = ap now torn.1 in
      let before_it : (image : List ℕ) → IsImage left image → IsImage (touched s (p + 1) (length body) s.seen) image =
      λ image is. torn_images (p + 1) (length body) s left s.seen image torn.2 is in
      let reads' : IsImage left left.seen = subst (λ t. IsImage t t.seen) made reads in
      subst (λ t. Failed Body t) (sym made) (record {
        file =
            torn_file shape count frames before (p + 1) (length body) s left file torn.2
            (holds_of_body shape count frames next before after s body file at.0 readable left.seen
            (before_it left.seen reads'))
            (omega arith);
        images = λ image is. inl (images_of_body shape count frames next before after s body file at.0 readable image (before_it image is));
        gate_pending = λ is. elim (cases_Bool (has_place (record { at = p + 1; len = length body }) p)) [
          | inl new ↦ (let i = covered_inside (p + 1) (length body) p new in absurd (omega (arith, i.0)))
          | inr apart ↦ absurd (both_ways (is_within left.pending p) (torn.2.pending p at.0.kept apart) is)
        ];
      })
  tick_failed Gate old new file at readable reads torn =
      let s = now old in
      let left = torn.0 in
      let made : now new ≡ left = ap now torn.1 in
      let before_it : (image : List ℕ) → IsImage left image → IsImage (touched s p 1 s.seen) image =
      λ image is. torn_images p 1 s left s.seen image torn.2 is in
      let reads' : IsImage left left.seen = subst (λ t. IsImage t t.seen) made reads in
      subst (λ t. Failed Gate t) (sym made) (record {
        file =
            torn_file shape count frames before p 1 s left file torn.2
            (holds_of_gate shape count frames next before after s file at.1 at.2 readable left.seen
            (before_it left.seen reads'))
            (omega arith);
        images = λ image is. images_of_gate shape count frames next before after s file at.1 at.2 readable image (before_it image is);
        gate_pending = λ is. inl refl;
      })
  tick_failed BodySync old new file at readable reads same =
      let made : now new ≡ now old = ap now same in
      subst (λ t. Failed BodySync t) (sym made)
      (record {
        file = file;
        images = images_at BodySync (now old) file at readable;
        gate_pending = gate_at BodySync (now old) at;
      })
  tick_failed GateSync old new file at readable reads same =
      let made : now new ≡ now old = ap now same in
      subst (λ t. Failed GateSync t) (sym made)
      (record {
        file = file;
        images = images_at GateSync (now old) file at readable;
        gate_pending = gate_at GateSync (now old) at;
      })
