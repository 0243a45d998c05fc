-- What steps of committing make of a flusher, one after the other.
use Rattle.std.specs.Prelude.{IfOk, OnErr}
use Rattle.std.proofs.Common.{Result, Ok, Err, ◌≡◌, ℕ, zero, suc, ◌+◌, ◌<◌, ◌≤◌, List, [], refl, sym, ap, subst, ◌∙◌, arith}
use Rattle.record_core.specs.Bytes.{Encoding}
use Rattle.disk_core.specs.State.{State, now, IsImage}
use Rattle.disk_core.specs.Moments.{LeavesOnly, clock}
use Rattle.disk_core.proofs.JoinedMoments.{LeavesOnly-start, LeavesOnly-weaker, LeavesOnly-join}
use Rattle.segment_core.specs.Frame.{Frame}
use Rattle.pen_core.specs.PenOf.{PenOf}
use Rattle.pen_core.specs.Pen.{BeginsFrame, IsUnchanged}
use Rattle.book_core.specs.declared.mark.Raise.{Raise}
use Rattle.book_core.specs.Marks.{MarkEnd, IsRaiseOf}
use Rattle.book_core.specs.Lists.{Phase}
use Rattle.flush_core.specs.declared.fault.FlushFault.{FlushFault}
use Rattle.flush_core.specs.Flusher.{AreRaisedBy, FlusherOf, FlusherLearns, FlusherGoesOn, IsFlusherOf, OpensToFirst, OpensToJob, SameGrowths}
use Rattle.flush_core.proofs.Goes.{FlusherGoesOn-refl, FlusherGoesOn-same, FlusherGoesOn-join, FlusherGoesOn-learns, IsFlusherOf-later, OpensToFirst-later}
use Rattle.phase_core.specs.Committing.{GoesOn}

-- nothing was told
pub none_raised : (made : ℕ) (raises : List Raise) → raises ≡ [] → AreRaisedBy made raises
none_raised made raises none raise of = absurd (subst (λ (rs : List Raise). IsRaiseOf rs raise) none of)

-- nothing more was told
pub same_raised : (made : ℕ) (old new : MarkEnd) → new ≡ old → AreRaisedBy made old.raises → AreRaisedBy made new.raises
same_raised made old new same past = subst (λ (m : MarkEnd). AreRaisedBy made m.raises) (sym same) past

module _ {R D : Type 0} (form : Encoding R) (keeps : D → Type 0) (states : D → List State) where
  -- what a disk may leave now opens to what is settled
  abbrev pub Opens : FlusherOf R D → Type 0
  Opens f = keeps f.pen.disk → (image : List ℕ) → IsImage (now (states f.pen.disk)) image → OpensToJob form f image

  pub opens_of : (f : FlusherOf R D) (d : D) → d ≡ f.pen.disk → (keeps d → (image : List ℕ) → IsImage (now (states d)) image → OpensToJob form f image) → Opens f
  opens_of f d is opens = subst (λ (d : D). keeps d → (image : List ℕ) → IsImage (now (states d)) image → OpensToJob form f image) is opens

  -- what calls no device
  pub GoesOn-still : (old new : FlusherOf R D) → Opens old → FlusherGoesOn (keeps new.pen.disk) old new → new.mark ≡ old.mark → new.pen.disk ≡ old.pen.disk
      → GoesOn form keeps states old new
  GoesOn-still old new opens goes mark disk =
      let back : keeps new.pen.disk → keeps old.pen.disk = subst keeps disk in
      record {
        told = mark;
        model = back;
        goes_on = goes;
        time = subst (λ (d : D). clock (states old.pen.disk) ≤ clock (states d)) (sym disk) (omega arith);
        images = λ model.
            subst (λ (d : D). LeavesOnly (states old.pen.disk) (states d) (OpensToFirst form old.settled new)) (sym disk)
            (LeavesOnly-start (states old.pen.disk) (OpensToFirst form old.settled new)
            (λ image is. OpensToFirst-later form (keeps new.pen.disk) old new old.settled old.settled image model goes (omega arith) ((opens (back model) image is).kept)));
      }

  pub GoesOn-refl : (f : FlusherOf R D) → Opens f → GoesOn form keeps states f f
  GoesOn-refl f opens = GoesOn-still f f opens (FlusherGoesOn-refl (keeps f.pen.disk) f) refl refl

  pub GoesOn-join : (old mid new : FlusherOf R D) → GoesOn form keeps states old mid → GoesOn form keeps states mid new → GoesOn form keeps states old new
  GoesOn-join old mid new first then =
      let sooner = first.time in
      let later = then.time in
      record {
        told = then.told ∙ first.told;
        model = λ model. first.model (then.model model);
        goes_on = FlusherGoesOn-join (keeps mid.pen.disk) (keeps new.pen.disk) old mid new then.model first.goes_on then.goes_on;
        time = omega (arith, sooner, later);
        images = λ model.
            LeavesOnly-join (states old.pen.disk) (states mid.pen.disk) (states new.pen.disk) (OpensToFirst form old.settled new)
            (LeavesOnly-weaker _ _ _ _
            (λ image. OpensToFirst-later form (keeps new.pen.disk) mid new old.settled old.settled image model then.goes_on (omega arith))
            (first.images (then.model model)))
            (LeavesOnly-weaker _ _ _ _
            (λ image. OpensToFirst-later form (keeps new.pen.disk) new new old.settled mid.settled image model
            (FlusherGoesOn-refl (keeps new.pen.disk) new) first.goes_on.no_less_settled)
            (then.images model));
      }

  pub GoesOn-learns : (old new : FlusherOf R D) → Opens old → FlusherLearns old new → GoesOn form keeps states old new
  GoesOn-learns old new opens learns =
      GoesOn-still old new opens (FlusherGoesOn-learns (keeps new.pen.disk) old new learns) learns.mark_same (ap (λ (p : PenOf D). p.disk) learns.pen_same)

  pub GoesOn-tick : (old new : FlusherOf R D) (calls : ℕ) → SameGrowths old new → old.settled ≤ new.settled → (keeps new.pen.disk → new.opening ≡ old.opening)
      → (keeps new.pen.disk → keeps old.pen.disk) → clock (states new.pen.disk) ≡ clock (states old.pen.disk) + calls
      → (keeps new.pen.disk → LeavesOnly (states old.pen.disk) (states new.pen.disk) (OpensToJob form old)) → GoesOn form keeps states old new
  GoesOn-tick old new calls same settled opening model time images =
      let taken = same.taken_same in
      let goes = FlusherGoesOn-same (keeps new.pen.disk) old new same.pass_same (ap (λ (m : MarkEnd). m.of) same.mark_same) same.before_same (omega arith) settled opening in
      record {
        told = same.mark_same;
        model = model;
        goes_on = goes;
        time = omega (arith, time);
        images = λ now. LeavesOnly-weaker _ _ _ _
            (λ image job. OpensToFirst-later form (keeps new.pen.disk) old new old.settled old.settled image now goes (omega arith) job.kept) (images now);
      }

  -- the begin of a group
  pub GoesOn-takes : (old new : FlusherOf R D) → Opens old → (new.pass ≡ old.pass) × (new.mark ≡ old.mark) × (new.settled ≡ old.settled) × (new.before ≡ old.before)
      → old.taken ≤ new.taken → new.opening ≡ old.opening → new.pen.disk ≡ old.pen.disk → GoesOn form keeps states old new
  GoesOn-takes old new opens same taken opening disk =
      let settled = same.2 in
      GoesOn-still old new opens
      (FlusherGoesOn-same (keeps new.pen.disk) old new same.0 (ap (λ (m : MarkEnd). m.of) same.1) same.3 taken (omega arith) (λ _. opening)) same.1 disk

  -- where it begins none, or one
  pub disk-taken : (old new : FlusherOf R D) (n : ℕ) → (n ≡ 0 → new ≡ old) → (0 < n → new.pen.disk ≡ old.pen.disk) → new.pen.disk ≡ old.pen.disk
  disk-taken old new zero none some = ap (λ (f : FlusherOf R D). f.pen.disk) (none refl)
  disk-taken old new (suc n) none some = some (omega arith)

  -- and where it is refused
  pub GoesOn-group : (old new : FlusherOf R D) (result : Result ℕ FlushFault) (frame : ℕ → Frame) → Opens old
      → (new.pass ≡ old.pass) × (new.mark ≡ old.mark) × (new.settled ≡ old.settled) × (new.before ≡ old.before)
      → IfOk result (λ n. new.taken ≡ old.taken + n) → IfOk result (λ n. 0 < n → BeginsFrame (frame n) old.pen new.pen) → IfOk result (λ n. n ≡ 0 → new ≡ old)
      → OnErr result (IsUnchanged old.pen new.pen × (new.taken ≡ old.taken)) → new.opening ≡ old.opening → GoesOn form keeps states old new
  GoesOn-group old new (Ok n) frame opens same taken begun none unchanged opening =
      GoesOn-takes old new opens same (omega (arith, taken)) opening (disk-taken old new n none (λ some. (begun some).disk_same))
  GoesOn-group old new (Err fault) frame opens same taken begun none unchanged opening =
      let no_more = unchanged.1 in
      GoesOn-takes old new opens same (omega (arith, no_more)) opening unchanged.0.disk_same

  pub IsFlusherOf-on : (live : Phase R) (old new : FlusherOf R D) → GoesOn form keeps states old new → IsFlusherOf (keeps old.pen.disk) live old
      → IsFlusherOf (keeps new.pen.disk) live new
  IsFlusherOf-on live old new goes is = IsFlusherOf-later (keeps old.pen.disk) (keeps new.pen.disk) live old new goes.model goes.goes_on is
