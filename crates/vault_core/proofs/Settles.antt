-- The work in hand, done to its end.
use Rattle.std.proofs.Common.{◌≡◌, ◌⊎◌, ℕ, zero, suc, ◌+◌, ◌-◌, ◌*◌, ◌<◌, ◌≤◌, List, Bool, true, false, Option, Some, None, inl, inr, refl, sym, ap, subst, ◌∙◌, arith}
use Rattle.std.specs.Prelude.{if◌then◌else◌}
use Rattle.std.specs.Option.{is_some}
use Rattle.std.proofs.lemmas.Bool.{lt-ltb}
use Rattle.record_core.specs.Bytes.{Encoding}
use Rattle.disk_core.specs.State.{State}
use Rattle.disk_core.specs.Moments.{LeavesOnly, clock}
use Rattle.disk_core.proofs.JoinedMoments.{LeavesOnly-weaker, LeavesOnly-join}
use Rattle.segment_core.specs.Frame.{Frame, Group, Change, Shrink, Fold}
use Rattle.segment_core.specs.Written.{joined}
use Rattle.pen_core.specs.Step.{fault_of, steps_left}
use Rattle.pen_core.specs.declared.stage.FoldStage.{FoldStage}
use Rattle.pen_core.specs.declared.stage.FoldStage.TheVariants as stages
use Rattle.pen_core.specs.declared.stage.Ticked.TheVariants as ticks
use Rattle.pen_core.specs.declared.stage.HomeTicked.TheVariants as home_ticks
use Rattle.pen_core.specs.PenOf.{PenOf, FoldOf}
use Rattle.pen_core.specs.InHand.{has_call, stage_after, home_fault}
use Rattle.pen_core.specs.Pen.{IsTicked, IsHomeTicked, fold_behind, log_left, fold_stage}
use Rattle.flush_core.specs.declared.lane.Lane.TheVariants.{Log, Home}
use Rattle.flush_core.specs.declared.lane.Tick.{Tick}
use Rattle.flush_core.specs.declared.lane.Tick.TheVariants.{Idle, Step, Done, Filed, Waiting}
use Rattle.flush_core.specs.Refusals.{IsLaneTicked}
use Rattle.vault_core.specs.declared.fault.VaultFault.{VaultFault}
use Rattle.vault_core.specs.declared.fault.VaultFault.TheVariants.{Pen, Unsettled, WrongPhase}
use Rattle.pen_core.specs.Typed.{OpensTo}
use Rattle.vault_core.specs.Vault.{VaultOf, MayHold, OpensToEither, list_of}
use Rattle.vault_core.specs.Commands.{IsVaultLaneFault}
use Rattle.vault_core.specs.Settles.{CarriesOn, fold_ticks, work_left, LessensWork, IsSettleFault, HasTicked, fold_calls, calls_left}
use Rattle.pen_core.proofs.Settled.{log_left-step}
use Rattle.vault_core.proofs.Carried.{carries-trans}

-- ---- stretches

-- of a later stretch, where the pen broke in none before
settle_fault_behind : {D : Type 0} (old mid new : PenOf D) → old.broken ≡ false → mid.broken ≡ false → (fault : VaultFault) → IsSettleFault mid new fault → IsSettleFault old new fault
settle_fault_behind old mid new was whole (Pen fault) is = elim is [
  | inl barred ↦ absurd (let yes = barred.1 in cc)
  | inr broke ↦ inr (broke.0, broke.1, was, broke.3)
]
settle_fault_behind old mid new was whole (Unsettled number) is = is
settle_fault_behind old mid new was whole WrongPhase is = is

module _ {R D : Type 0} (form : Encoding R) (keeps : D → Type 0) (states : D → List State) (faults : D → ℕ) where
  -- what a vault that is sure may hold, one of the same list may
  holds_list : (old mid : VaultOf R D) → mid.blocks ≡ old.blocks → mid.sure ≡ list_of mid → (image : List ℕ) → MayHold form mid image → MayHold form old image
  holds_list old mid same sure image holds = elim holds [
    | inl before ↦ inr (subst (λ records. OpensTo form image records) (sure ∙ ap joined same) before)
    | inr after ↦ inr (subst (λ records. OpensTo form image records) (ap joined same) after)
  ]

  join_images : (old mid new : VaultOf R D) → HasTicked form keeps states faults old mid → keeps mid.pen.disk
      → LeavesOnly (states mid.pen.disk) (states new.pen.disk) (MayHold form mid)
      → LeavesOnly (states old.pen.disk) (states new.pen.disk) (MayHold form old)
  join_images old mid new goes model images =
      LeavesOnly-join (states old.pen.disk) (states mid.pen.disk) (states new.pen.disk) (MayHold form old) (goes.images model)
      (LeavesOnly-weaker (states mid.pen.disk) (states new.pen.disk) (MayHold form mid) (MayHold form old) (holds_list old mid goes.blocks_same (goes.sure model)) images)

  module _ (old mid new : VaultOf R D) (so_far : (mid ≡ old) ⊎ HasTicked form keeps states faults old mid) where
    pub settles_images : (keeps new.pen.disk → keeps mid.pen.disk)
        → (keeps new.pen.disk → LeavesOnly (states mid.pen.disk) (states new.pen.disk) (MayHold form mid)) → keeps new.pen.disk
        → LeavesOnly (states old.pen.disk) (states new.pen.disk) (MayHold form old)
    settles_images model images now = elim so_far [
      | inl same ↦ subst (λ (v : VaultOf R D). LeavesOnly (states v.pen.disk) (states new.pen.disk) (MayHold form v)) same (images now)
      | inr first ↦ join_images old mid new first (model now) (images now)
    ]

    pub settles_carries : (keeps new.pen.disk → keeps mid.pen.disk) → CarriesOn (keeps new.pen.disk) mid.pen new.pen → CarriesOn (keeps new.pen.disk) old.pen new.pen
    settles_carries model more = elim so_far [
      | inl same ↦ subst (λ (v : VaultOf R D). CarriesOn (keeps new.pen.disk) v.pen new.pen) same more
      | inr first ↦ carries-trans (keeps mid.pen.disk) (keeps new.pen.disk) model old.pen mid.pen new.pen first.carries more
    ]

    pub settles_blocks : new.blocks ≡ mid.blocks → new.blocks ≡ old.blocks
    settles_blocks is = elim so_far [ inl same ↦ is ∙ ap (λ (v : VaultOf R D). v.blocks) same | inr first ↦ is ∙ first.blocks_same ]

    pub settles_model : (keeps new.pen.disk → keeps mid.pen.disk) → keeps new.pen.disk → keeps old.pen.disk
    settles_model model now = elim so_far [
      | inl same ↦ subst (λ (v : VaultOf R D). keeps v.pen.disk) same (model now)
      | inr first ↦ first.model (model now)
    ]

    pub settles_on : (keeps mid.pen.disk → keeps new.pen.disk) → keeps old.pen.disk → keeps new.pen.disk
    settles_on goes was = elim so_far [
      | inl same ↦ goes (subst (λ (v : VaultOf R D). keeps v.pen.disk) (sym same) was)
      | inr first ↦ goes (first.goes_on was)
    ]

    pub settles_faults : (n : ℕ) → faults new.pen.disk ≡ faults mid.pen.disk + n → faults new.pen.disk ≡ faults old.pen.disk + n
    settles_faults n is = elim so_far [
      | inl same ↦ is ∙ ap (λ (v : VaultOf R D). faults v.pen.disk + n) same
      | inr first ↦ is ∙ ap (λ k. k + n) first.no_fault
    ]

    pub settles_whole : mid.pen.broken ≡ false → old.pen.broken ≡ false
    settles_whole whole = elim so_far [
      | inl same ↦ sym (ap (λ (v : VaultOf R D). v.pen.broken) same) ∙ whole
      | inr first ↦ first.whole.0
    ]

    -- so many calls are behind it, and so many are left
    pub settles_time : (n : ℕ) → clock (states new.pen.disk) + n ≤ clock (states mid.pen.disk) + calls_left mid.pen
        → clock (states new.pen.disk) + n ≤ clock (states old.pen.disk) + calls_left old.pen
    settles_time n le = elim so_far [
      | inl same ↦ subst (λ (v : VaultOf R D). clock (states new.pen.disk) + n ≤ clock (states v.pen.disk) + calls_left v.pen) same le
      | inr first ↦ (let before = first.time in omega (arith, le, before))
    ]

    -- what is sure behind a fault
    pub settles_sure : (keeps new.pen.disk → keeps mid.pen.disk) → new.blocks ≡ mid.blocks → keeps new.pen.disk
        → (new.sure ≡ mid.sure) ⊎ (new.sure ≡ list_of new) → (new.sure ≡ old.sure) ⊎ (new.sure ≡ list_of new)
    settles_sure model blocks now is = elim is [
      | inr list ↦ inr list
      | inl same ↦ elim so_far [
        | inl none ↦ inl (same ∙ ap (λ (v : VaultOf R D). v.sure) none)
        | inr first ↦ inr (same ∙ first.sure (model now) ∙ ap joined (sym blocks))
      ]
    ]

    pub settles_refused : (fault : VaultFault) → IsSettleFault mid.pen new.pen fault → IsSettleFault old.pen new.pen fault
    settles_refused fault is = elim so_far [
      | inl same ↦ subst (λ (v : VaultOf R D). IsSettleFault v.pen new.pen fault) same is
      | inr first ↦ settle_fault_behind old.pen mid.pen new.pen first.whole.0 first.whole.1 fault is
    ]

    -- one more
    pub settles_more : (keeps new.pen.disk → LeavesOnly (states mid.pen.disk) (states new.pen.disk) (MayHold form mid))
        → CarriesOn (keeps new.pen.disk) mid.pen new.pen → new.blocks ≡ mid.blocks → (keeps new.pen.disk → new.sure ≡ list_of new)
        → (mid.pen.broken ≡ false) × (new.pen.broken ≡ false)
        → clock (states new.pen.disk) + calls_left new.pen ≤ clock (states mid.pen.disk) + calls_left mid.pen
        → faults new.pen.disk ≡ faults mid.pen.disk
        → (keeps new.pen.disk → keeps mid.pen.disk) → (keeps mid.pen.disk → keeps new.pen.disk) → HasTicked form keeps states faults old new
    settles_more images carries blocks sure whole time calls model goes_on = record {
      images = settles_images model images;
      carries = settles_carries model carries;
      blocks_same = settles_blocks blocks;
      sure = sure;
      whole = (settles_whole whole.0, whole.1);
      time = settles_time (calls_left new.pen) time;
      no_fault = calls ∙ elim so_far [ inl same ↦ ap (λ (v : VaultOf R D). faults v.pen.disk) same | inr first ↦ first.no_fault ];
      model = settles_model model;
      goes_on = settles_on goes_on;
    }
