-- Why clients aren't served.
use Rattle.std.proofs.Common.{◌≡◌, ◌⊎◌, ℕ, ◌<◌, ◌≤◌, min, List, [], ◌∷◌, Bool, false, Option, None, Result, Ok, Err, IfErr, is_some, inl, inr, sym, ap, subst, ◌∙◌, arith}
use Rattle.record_core.specs.Bytes.{Encoding}
use Rattle.disk_core.specs.Fault.{CountsFailures}
use Rattle.disk_core.specs.State.{State, IsImage, now}
use Rattle.pen_core.specs.declared.fault.PenFault.{PenFault}
use Rattle.pen_core.specs.declared.fault.PenFault.TheVariants as pens
use Rattle.pen_core.specs.PenOf.{PenOf, JobOf}
use Rattle.pen_core.specs.Opening.{IsAtRest}
use Rattle.pen_core.specs.Refusals.{first_refusal, ready_lines}
use Rattle.directory_core.specs.Limits.{growth_limit}
use Rattle.book_core.specs.Beginning.{seat_limit}
use Rattle.book_core.specs.Lists.{Phase}
use Rattle.flush_core.specs.declared.fault.FlushFault.{FlushFault}
use Rattle.flush_core.specs.declared.fault.FlushFault.TheVariants as flushes
use Rattle.flush_core.specs.Flusher.{FlusherOf}
use Rattle.flush_core.specs.Serving.{IsServeFault}
use Rattle.vault_core.specs.declared.fault.VaultFault.{VaultFault}
use Rattle.vault_core.specs.declared.fault.VaultFault.TheVariants as vaults
use Rattle.vault_core.specs.Vault.{VaultOf}
use Rattle.vault_core.specs.Sharing.{IsShareFault, IsNotShared, IsTooLarge}
use Rattle.serve_core.specs.declared.fault.ServeFault.{ServeFault}
use Rattle.serve_core.specs.declared.fault.ServeFault.TheVariants.{Open, Share, Thread, Flush}
use Rattle.serve_core.specs.Serving.{IsShareRefusal, IsFlusherStop, IsServeRefusal, ComesBack, IsPhaseLeft, serve_failures}

-- a pen that rests may begin a job
ready : {D : Type 0} (width size : ℕ) (pen : PenOf D) → IsAtRest width size pen → first_refusal (ready_lines pen) ≡ None
ready width size pen rest =
    ap (λ (broken : Bool). first_refusal ((broken, pens.Broken) ∷ (is_some pen.job, pens.Busy) ∷ [])) rest.whole
    ∙ ap (λ (job : Option JobOf). first_refusal ((false, pens.Broken) ∷ (is_some job, pens.Busy) ∷ [])) rest.no_job

too_large : (clients seats : ℕ) → seats ≡ min clients 65535 → IsTooLarge growth_limit seats → (clients ≡ 0) ⊎ (seat_limit < clients)
too_large clients seats is (inl none) = absurd (omega (arith, none))
too_large clients seats is (inr (inl above)) = absurd (omega (arith, above))
too_large clients seats is (inr (inr (inl none))) = inl (omega (arith, is, none))
too_large clients seats is (inr (inr (inr above))) = inr (omega (arith, is, above))

not_shared : (clients seats : ℕ) (fault : PenFault) → seats ≡ min clients 65535 → IsNotShared growth_limit seats fault → IsShareRefusal clients (vaults.Pen fault)
not_shared clients seats fault is (inl large) = subst (λ f. IsShareRefusal clients (vaults.Pen f)) (sym large.0) (too_large clients seats is large.1)
not_shared clients seats fault is (inr memory) = subst (λ f. IsShareRefusal clients (vaults.Pen f)) (sym memory.0) (omega (arith, is, memory.1.seats_in.0), omega (arith, is, memory.1.seats_in.1))

-- no client was served: there are none, or too many, or there was no memory
pub none_served : {R D : Type 0} (vault : VaultOf R D) (width size clients seats : ℕ) (fault : VaultFault) → IsAtRest width size vault.pen → seats ≡ min clients 65535
    → IsShareFault vault growth_limit seats fault → IsShareRefusal clients fault
none_served vault width size clients seats (vaults.Pen fault) rest is (inl first) = absurd (none (ready width size vault.pen rest))
  where
    none : first_refusal (ready_lines vault.pen) ≡ None → ⊥
    none ready = cc
none_served vault width size clients seats (vaults.Pen fault) rest is (inr of) = not_shared clients seats fault is of.1
none_served vault width size clients seats (vaults.Unsettled number) rest is of = absurd of
none_served vault width size clients seats vaults.WrongPhase rest is of = absurd of

-- why a flusher stopped whose pen wasn't broken
pub stopped : {R D : Type 0} (width : ℕ) (old new : FlusherOf R D) (fault : FlushFault) → old.pen.broken ≡ false → IsServeFault width old new fault → IsFlusherStop width new fault
stopped width old new (flushes.Pen pens.Broken) whole is = absurd (cc)
stopped width old new (flushes.Pen pens.Busy) whole is = absurd is
stopped width old new (flushes.Pen pens.OldFormat) whole is = absurd is
stopped width old new (flushes.Pen pens.Runs) whole is = absurd is
stopped width old new (flushes.Pen pens.OutOfRange) whole is = absurd is
stopped width old new (flushes.Pen pens.TooLarge) whole is = absurd is
stopped width old new (flushes.Pen pens.Unfolded) whole is = absurd is
stopped width old new (flushes.Pen pens.FileFull) whole is = is
stopped width old new (flushes.Pen pens.Memory) whole is = is
stopped width old new (flushes.Pen pens.Exists) whole is = absurd is
stopped width old new (flushes.Pen (pens.Disk cause)) whole is = is
stopped width old new (flushes.Strayed number) whole is = (is.1, is.0)

-- as many seats as clients, so their number is in bounds
pub in_bounds : (clients seats : ℕ) → seats ≡ min clients 65535 → (0 < seats) × (seats ≤ seat_limit) → (0 < clients) × (clients ≤ seat_limit)
in_bounds clients seats is may = (omega (arith, is, may.0), omega (arith, is, may.1))

-- a flusher of a phase, and what came of it
module _ {R D : Type 0} (form : Encoding R) (keeps : D → Type 0) (states : D → List State) (faults : D → ℕ) (live : Phase R) (old new : FlusherOf R D) where
  as_it_was : new ≡ old → faults new.pen.disk ≡ faults old.pen.disk
  as_it_was is = ap (λ (f : FlusherOf R D). faults f.pen.disk) is

  comes_counts : {X : Type 0} (result : Result X ServeFault) → ComesBack form keeps states faults live old new result → CountsFailures serve_failures (faults old.pen.disk) (faults new.pen.disk) result
  comes_counts (Ok x) comes = comes.counts
  comes_counts (Err (Open fault)) comes = absurd comes
  comes_counts (Err (Share (vaults.Pen fault))) comes = let same = as_it_was comes.1 in omega (arith, same)
  comes_counts (Err (Share (vaults.Unsettled number))) comes = let same = as_it_was comes.1 in omega (arith, same)
  comes_counts (Err (Share vaults.WrongPhase)) comes = let same = as_it_was comes.1 in omega (arith, same)
  comes_counts (Err Thread) comes = let same = as_it_was comes in omega (arith, same)
  comes_counts (Err (Flush fault)) comes =
      let same = ap (λ (p : PenOf D). faults p.disk) comes.learns.pen_same in
      let counts = comes.flushed.counts in
      omega (arith, same, counts)

  comes_keeps : {X : Type 0} (result : Result X ServeFault) → ComesBack form keeps states faults live old new result → keeps new.pen.disk → keeps old.pen.disk
  comes_keeps (Ok x) comes = comes.served.model
  comes_keeps (Err (Open fault)) comes = absurd comes
  comes_keeps (Err (Share fault)) comes = subst (λ (f : FlusherOf R D). keeps f.pen.disk) comes.1
  comes_keeps (Err Thread) comes = subst (λ (f : FlusherOf R D). keeps f.pen.disk) comes
  comes_keeps (Err (Flush fault)) comes = λ kept. comes.flushed.served.model (subst (λ (p : PenOf D). keeps p.disk) comes.learns.pen_same kept)

-- what is left of a phase that was begun over that vault
module _ {R D : Type 0} (form : Encoding R) (keeps : D → Type 0) (states : D → List State) (faults : D → ℕ) (vault : VaultOf R D) {live : Phase R} {begun : FlusherOf R D}
    (same : begun.pen ≡ vault.pen) where
  pub phase_refused : {X : Type 0} {left : D} {settled : ℕ} {result : Result X ServeFault} → IsPhaseLeft form keeps states faults live begun left settled result
      → (clients : ℕ) → (0 < clients) × (clients ≤ seat_limit) → vault.pen.broken ≡ false → IfErr result (IsServeRefusal form keeps states clients left settled)
  phase_refused {left = left} {settled = settled} {result = result} ended clients bounds whole = by_result result ended.comes
    where
      by_result : {X : Type 0} (result : Result X ServeFault) → ComesBack form keeps states faults live begun ended.flusher result
          → IfErr result (IsServeRefusal form keeps states clients left settled)
      by_result (Ok x) comes = tt
      by_result (Err (Open fault)) comes = tt
      by_result (Err (Share fault)) comes = subst (IsShareRefusal clients) (sym comes.0) bounds
      by_result (Err Thread) comes = bounds
      by_result (Err (Flush fault)) comes = record {
        flusher = comes.stopped;
        disk_is = ended.disk_is ∙ ap (λ (p : PenOf D). p.disk) comes.learns.pen_same;
        settled_is = ended.settled_is ∙ comes.learns.settled_same;
        file =
            let at = ended.disk_is ∙ ap (λ (p : PenOf D). p.disk) comes.learns.pen_same in
            λ kept image is. comes.images (subst keeps at kept) image (subst (λ d. IsImage (now (states d)) image) at is);
        why = stopped form.width begun comes.stopped fault (ap (λ (p : PenOf D). p.broken) same ∙ whole) comes.flushed.refused;
      }

  pub phase_counts : {X : Type 0} {left : D} {settled : ℕ} {result : Result X ServeFault} → IsPhaseLeft form keeps states faults live begun left settled result
      → CountsFailures serve_failures (faults vault.pen.disk) (faults left) result
  phase_counts {result = result} ended =
      subst (λ d. CountsFailures serve_failures (faults vault.pen.disk) (faults d) result) (sym ended.disk_is)
      (subst (λ (p : PenOf D). CountsFailures serve_failures (faults p.disk) (faults ended.flusher.pen.disk) result) same
      (comes_counts form keeps states faults live begun ended.flusher result ended.comes))

  pub phase_keeps : {X : Type 0} {left : D} {settled : ℕ} {result : Result X ServeFault} → IsPhaseLeft form keeps states faults live begun left settled result
      → keeps left → keeps vault.pen.disk
  phase_keeps {result = result} ended kept =
      subst (λ (p : PenOf D). keeps p.disk) same (comes_keeps form keeps states faults live begun ended.flusher result ended.comes (subst keeps ended.disk_is kept))
