-- The begin of a fold, from what a pen's begin promises.
use Rattle.std.proofs.Common.{[], ◌∷◌, List, ◌≡◌, inl, inr, ℕ, ◌≤◌, ◌<◌, ◌^◌, Bool, true, false, nat_lt, nat_le, Option, Some, None, refl, sym, ap, subst, arith, is_some, lt-ltb, le-leb, leb-true, ltb-true}
use Rattle.std.specs.Prelude.{IfSome}
use Rattle.disk_core.specs.State.{IsImage, now}
use Rattle.pen_core.specs.PenOf.{PenOf, FoldOf}
use Rattle.pen_core.specs.Folds.{IsWholeFold}
use Rattle.pen_core.specs.Pen.{MayOpen, IsFoldAnswer, IsFoldRefusal, IsFoldBarred, IsReadyToFold, BeginsFold, gate_behind_fold}
use Rattle.pen_core.specs.declared.fault.PenFault.{PenFault}
use Rattle.pen_core.specs.declared.fault.PenFault.TheVariants as pen
use Rattle.drive_core.specs.declared.fault.StepFault.TheVariants.{Vault}
use Rattle.vault_core.specs.declared.fault.VaultFault.TheVariants as vault
use Rattle.drive_core.specs.declared.fault.StepFault.{StepFault}
use Rattle.drive_core.specs.Line.{Line, When, Allows}
use Rattle.drive_core.specs.Step.{Answer}
use Rattle.drive_core.specs.Step as step
use Rattle.drive_core.specs.World.{World, hand_of, is_live}
use Rattle.drive_core.specs.Outcome.{Outcome}
use Rattle.drive_core.specs.LaneRows.{fold_lines, FoldsFile, IsFold, HasBegun}
use Rattle.drive_core.proofs.Hands.{hand_begun}
use Rattle.drive_core.proofs.Tables.{passes, stops}

-- a test that doesn't hold
pub not_le : (a b : ℕ) → b < a → nat_le a b ≡ false
not_le a b less = at (nat_le a b) refl
  where
    at : (c : Bool) → nat_le a b ≡ c → c ≡ false
    at true is = let le = leb-true a b is in absurd (omega (arith, le, less))
    at false is = refl

pub not_lt : (a b : ℕ) → b ≤ a → nat_lt a b ≡ false
not_lt a b le = at (nat_lt a b) refl
  where
    at : (c : Bool) → nat_lt a b ≡ c → c ≡ false
    at true is = let less = ltb-true a b is in absurd (omega (arith, le, less))
    at false is = refl

module _ {D : Type 0} where
  -- whether a change is live
  live_of : (p : PenOf D) (ready : Bool) → IsReadyToFold p ready → is_live (hand_of p).file ≡ ready
  live_of p true ready = lt-ltb p.tally.folded p.tally.changes ready.2
  live_of p false ready = not_lt p.tally.folded p.tally.changes ready.2

  -- ---- the table

  abbrev FoldRefuses : PenOf D → Bool → PenFault → Type 0
  FoldRefuses p live fault = Allows (fold_lines (hand_of p) live) (Some (Vault (vault.Pen fault)))

  -- neither broken nor with a fold in hand
  past_two : (p : PenOf D) (lines : List Line) (answer : Option StepFault) → p.broken ≡ false → p.fold ≡ None → Allows lines answer
      → Allows (When p.broken (Vault (vault.Pen pen.Broken)) ∷ When (is_some p.fold) (Vault (vault.Pen pen.Busy)) ∷ lines) answer
  past_two p lines answer whole none allows =
      passes p.broken (Vault (vault.Pen pen.Broken)) _ answer whole (passes (is_some p.fold) (Vault (vault.Pen pen.Busy)) lines answer (ap is_some none) allows)

  ready_lines : (p : PenOf D) (ready : Bool) → IsReadyToFold p ready → Allows (fold_lines (hand_of p) ready) None
  ready_lines p true ready = past_two p _ None ready.0 ready.1 (passes _ (Vault (vault.Pen pen.FileFull)) _ None (not_le (2 ^ 48) (gate_behind_fold p) ready.3) (inr refl))
  ready_lines p false ready = past_two p [] None ready.0 ready.1 refl

  full_lines : (p : PenOf D) (live : Bool) → live ≡ true → p.broken ≡ false → p.fold ≡ None → 2 ^ 48 ≤ gate_behind_fold p → FoldRefuses p live pen.FileFull
  full_lines p true is whole none full = past_two p _ _ whole none (stops _ (Vault (vault.Pen pen.FileFull)) _ (le-leb (2 ^ 48) (gate_behind_fold p) full))
  full_lines p false is whole none full = absurd cc

  memory_lines : (p : PenOf D) (live : Bool) → live ≡ true → IsReadyToFold p true → FoldRefuses p live pen.Memory
  memory_lines p true is ready = past_two p _ _ ready.0 ready.1
      (passes _ (Vault (vault.Pen pen.FileFull)) _ _ (not_le (2 ^ 48) (gate_behind_fold p) ready.3) (inl (Vault (vault.Pen pen.Memory), refl, refl)))
  memory_lines p false is ready = absurd cc

  broken_lines : (p : PenOf D) (live : Bool) → p.broken ≡ true → FoldRefuses p live pen.Broken
  broken_lines p true broken = stops p.broken (Vault (vault.Pen pen.Broken)) _ broken
  broken_lines p false broken = stops p.broken (Vault (vault.Pen pen.Broken)) _ broken

  busy_lines : (p : PenOf D) (live : Bool) → p.broken ≡ false → is_some p.fold ≡ true → FoldRefuses p live pen.Busy
  busy_lines p true whole busy = passes p.broken (Vault (vault.Pen pen.Broken)) _ _ whole (stops _ (Vault (vault.Pen pen.Busy)) _ busy)
  busy_lines p false whole busy = passes p.broken (Vault (vault.Pen pen.Broken)) _ _ whole (stops _ (Vault (vault.Pen pen.Busy)) _ busy)

  barred_lines : (p : PenOf D) (fault : PenFault) → IsFoldBarred p fault → FoldRefuses p (is_live (hand_of p).file) fault
  barred_lines p fault why = let live : Bool = is_live (hand_of p).file in elim why [
    | inl broken ↦ subst (FoldRefuses p live) (sym broken.0) (broken_lines p live broken.1)
    | inr other ↦ elim other [
      | inl busy ↦ subst (FoldRefuses p live) (sym busy.0) (busy_lines p live busy.1 busy.2)
      | inr full ↦ subst (FoldRefuses p live) (sym full.0) (full_lines p live (lt-ltb p.tally.folded p.tally.changes full.3) full.1 full.2 full.4)
    ]
  ]

  refused_lines : (p : PenOf D) (fault : PenFault) → IsFoldRefusal p fault → FoldRefuses p (is_live (hand_of p).file) fault
  refused_lines p fault why = let live : Bool = is_live (hand_of p).file in elim why [
    | inl barred ↦ barred_lines p fault barred
    | inr memory ↦ subst (FoldRefuses p live) (sym memory.0) (memory_lines p live (live_of p true memory.1) memory.1)
  ]

module _ {R D : Type 0} (w : World R) (old new : PenOf D) (hand_is : w.hand ≡ hand_of old) where
  -- the world behind it
  abbrev pub behind_fold : World R
  behind_fold = record w { hand = hand_of new }

  -- the same world, by the pen's hand
  abbrev by_pen : World R
  by_pen = record w { hand = hand_of old }

  same : w ≡ by_pen
  same i = record w { hand = hand_is i }

  -- the writes that were planned are those of the file, where the disk keeps its model
  abbrev pub Plans : Type 0 → Type 0
  Plans keeps = keeps → IfSome new.fold (λ fold. IsWholeFold old.shape old.frames old.vector fold.left)

  abbrev pub Opening : Type 0 → Type 0
  Opening keeps = keeps → (image : List ℕ) → IsImage (now w.disk.states) image → MayOpen old image

  folds_file : (by : BeginsFold old new) → IfSome new.fold (λ fold. IsWholeFold old.shape old.frames old.vector fold.left)
      → ((image : List ℕ) → IsImage (now w.disk.states) image → MayOpen old image) → FoldsFile by_pen by.left
  folds_file by planned opens = record {
    frames = old.frames;
    vector = old.vector;
    opens = opens;
    whole = subst (λ (f : Option FoldOf). IfSome f (λ fold. IsWholeFold old.shape old.frames old.vector fold.left)) by.fold_is planned;
  }

  begun_is : (keeps : Type 0) → Plans keeps → Opening keeps → (begun : Bool) → IsFoldAnswer old new begun → HasBegun keeps by_pen begun behind_fold
  begun_is keeps plans opens true by = (by.left, by.some, (λ kept. folds_file by (plans kept) (opens kept)), λ i. record w { hand = hand_begun old new by i })
  begun_is keeps plans opens false by = λ i. record w { hand = hand_of (by.1 i) }

  ready_of : (begun : Bool) → IsFoldAnswer old new begun → IsReadyToFold old begun
  ready_of true by = by.ready
  ready_of false by = by.0

  abbrev FoldAt : Type 0 → Bool → Bool → Type 0
  FoldAt keeps begun live =
      Outcome {R = R} (fold_lines (hand_of old) live) (step.Begun begun)
      ((◌≡◌ {A = Answer R} (step.Begun begun) (step.Begun live)) × HasBegun keeps by_pen live behind_fold) (λ fault. behind_fold ≡ by_pen)

  at_live : (keeps : Type 0) → Plans keeps → Opening keeps → (begun live : Bool) → live ≡ begun → IsFoldAnswer old new begun → FoldAt keeps begun live
  at_live keeps plans opens begun live is by = subst (λ b. FoldAt keeps begun b) (sym is) (inl (ready_lines old begun (ready_of begun by), (refl, begun_is keeps plans opens begun by)))

  pub fold_answered : (keeps : Type 0) → Plans keeps → Opening keeps → (begun : Bool) → IsFoldAnswer old new begun → IsFold keeps w (step.Begun begun) behind_fold
  fold_answered keeps plans opens begun by =
      subst (λ (x : World R). IsFold keeps x (step.Begun begun) behind_fold) (sym same)
      (at_live keeps plans opens begun (is_live (hand_of old).file) (live_of old begun (ready_of begun by)) by)

  pub fold_refused : (keeps : Type 0) (fault : PenFault) → IsFoldRefusal old fault → IsFold keeps w (step.Refused (Vault (vault.Pen fault))) w
  fold_refused keeps fault why = subst (λ (x : World R). IsFold keeps x (step.Refused (Vault (vault.Pen fault))) x) (sym same) (inr (Vault (vault.Pen fault), refused_lines old fault why, refl, refl))

  -- the disk is as it was
  pub begun_disk : (begun : Bool) → IsFoldAnswer old new begun → new.disk ≡ old.disk
  begun_disk true by = by.disk_same
  begun_disk false by = ap (λ (p : PenOf D). p.disk) by.1

  pub begun_job : (begun : Bool) → IsFoldAnswer old new begun → new.job ≡ old.job
  begun_job true by = by.job_same
  begun_job false by = ap (λ (p : PenOf D). p.job) by.1
