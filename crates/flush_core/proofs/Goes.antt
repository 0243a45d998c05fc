-- Stretches of serving, one after the other.
use Rattle.std.proofs.Common.{◌≡◌, ℕ, ◌≤◌, ◌++◌, List, ◌∷◌, length, take, ◌⊎◌, inl, inr, refl, sym, ap, subst, ◌∙◌, arith}
use Rattle.std.proofs.Math.Seq.{take-length}
use Rattle.std.proofs.lemmas.List.{length-take}
use Rattle.record_core.specs.Bytes.{Encoding}
use Rattle.disk_core.specs.State.{State}
use Rattle.disk_core.specs.Moments.{LeavesOnly, clock}
use Rattle.disk_core.proofs.JoinedMoments.{LeavesOnly-weaker, LeavesOnly-join}
use Rattle.pen_core.specs.PenOf.{PenOf}
use Rattle.pen_core.specs.Typed.{OpensTo}
use Rattle.directory_core.specs.Chain.{grown_records, IsPrefix}
use Rattle.directory_core.specs.Known.{Known}
use Rattle.book_core.specs.Marks.{MarkEnd}
use Rattle.book_core.specs.Lists.{Phase}
use Rattle.book_core.proofs.Owns.{take-begins}
use Rattle.book_core.proofs.Steps.{begins-trans}
use Rattle.flush_core.specs.Flusher.{FlusherOf, IsFlusherOf, FlusherLearns, FlusherGoesOn, OpensToFirst, OpensToJob, SameGrowths, list_to}
use Rattle.flush_core.specs.Serving.{Serves, fold_with}

module _ {R D : Type 0} where
  -- ---- from one to the other

  -- it knows what it knew, and has taken and settled no less
  pub FlusherGoesOn-same : (keeps : Type 0) (old new : FlusherOf R D) → new.pass ≡ old.pass → new.mark.of ≡ old.mark.of → new.before ≡ old.before
      → old.taken ≤ new.taken → old.settled ≤ new.settled
      → (keeps → new.opening ≡ old.opening) → FlusherGoesOn keeps old new
  FlusherGoesOn-same keeps old new pass mark before taken settled opening = record {
    begins = subst (λ (p : _). take (length old.pass.entries) p.entries ≡ old.pass.entries) (sym pass) (take-length old.pass.entries);
    of_same = ap (λ (p : _). p.of) pass;
    mark_of_same = mark;
    before_same = before;
    no_less_taken = taken;
    no_less_settled = settled;
    opening_same = opening;
  }

  pub FlusherGoesOn-refl : (keeps : Type 0) (f : FlusherOf R D) → FlusherGoesOn keeps f f
  FlusherGoesOn-refl keeps f = FlusherGoesOn-same keeps f f refl refl refl (omega arith) (omega arith) (λ _. refl)

  pub FlusherGoesOn-join : (keeps keeps' : Type 0) (old mid new : FlusherOf R D) → (keeps' → keeps) → FlusherGoesOn keeps old mid
      → FlusherGoesOn keeps' mid new → FlusherGoesOn keeps' old new
  FlusherGoesOn-join keeps keeps' old mid new back first then =
      let taken₁ = first.no_less_taken in
      let taken₂ = then.no_less_taken in
      let settled₁ = first.no_less_settled in
      let settled₂ = then.no_less_settled in
      record {
        begins = begins-trans old.pass.entries mid.pass.entries new.pass.entries first.begins then.begins;
        of_same = then.of_same ∙ first.of_same;
        mark_of_same = then.mark_of_same ∙ first.mark_of_same;
        before_same = then.before_same ∙ first.before_same;
        no_less_taken = omega arith;
        no_less_settled = omega arith;
        opening_same = λ model. then.opening_same model ∙ first.opening_same (back model);
      }

  pub FlusherLearns-pass : (f : FlusherOf R D) (pass : Known R) → IsPrefix f.pass.entries pass.entries → pass.of ≡ f.pass.of → FlusherLearns f (record f { pass = pass })
  FlusherLearns-pass f pass begins of = record {
    begins = begins;
    of_same = of;
    pen_same = refl;
    mark_same = refl;
    opening_same = refl;
    before_same = refl;
    taken_same = refl;
    settled_same = refl;
  }

  -- nothing has changed but what it knows
  pub FlusherGoesOn-learns : (keeps : Type 0) (old new : FlusherOf R D) → FlusherLearns old new → FlusherGoesOn keeps old new
  FlusherGoesOn-learns keeps old new learns =
      let taken = learns.taken_same in
      let settled = learns.settled_same in
      record {
        begins = learns.begins;
        of_same = learns.of_same;
        mark_of_same = ap (λ (m : MarkEnd). m.of) learns.mark_same;
        before_same = learns.before_same;
        no_less_taken = omega arith;
        no_less_settled = omega arith;
        opening_same = λ _. learns.opening_same;
      }

  -- nothing has changed but what its end of the mark was told
  FlusherGoesOn-told : (keeps : Type 0) (old new : FlusherOf R D) (mark : MarkEnd) → mark.of ≡ old.mark.of → new ≡ record old { mark = mark } → FlusherGoesOn keeps old new
  FlusherGoesOn-told keeps old new mark of is =
      subst (λ (f : FlusherOf R D). FlusherGoesOn keeps old f) (sym is)
      (FlusherGoesOn-same keeps old (record old { mark = mark }) refl of refl (omega arith) (omega arith) (λ _. refl))

  pub pen-told : (old new : FlusherOf R D) (mark : MarkEnd) → new ≡ record old { mark = mark } → new.pen ≡ old.pen
  pen-told old new mark is = ap (λ (f : FlusherOf R D). f.pen) is

  -- its end of the mark behind a raise to what is settled
  abbrev pub raised_mark : (D → List State) → FlusherOf R D → MarkEnd
  raised_mark states f = record {
    of = f.mark.of;
    told = record { count = f.settled; state = f.mark.told.state };
    raises = record { count = f.settled; at = clock (states f.pen.disk) } ∷ f.mark.raises;
  }

  -- it stays of its phase
  pub IsFlusherOf-later : (keeps keeps' : Type 0) (live : Phase R) (old new : FlusherOf R D) → (keeps' → keeps) → FlusherGoesOn keeps' old new
      → IsFlusherOf keeps live old → IsFlusherOf keeps' live new
  IsFlusherOf-later keeps keeps' live old new back goes is = record {
    directory = goes.of_same ∙ is.directory;
    mark = goes.mark_of_same ∙ is.mark;
    before = goes.before_same ∙ is.before;
    opening = λ model. goes.opening_same model ∙ is.opening (back model);
  }

  -- the first growths that it knows are the same later on
  list_to-later : (keeps : Type 0) (old new : FlusherOf R D) (n : ℕ) → keeps → FlusherGoesOn keeps old new → n ≤ length old.pass.entries → list_to new n ≡ list_to old n
  list_to-later keeps old new n model goes le =
      ap (λ (rs : List R). rs ++ grown_records (take n new.pass.entries)) (goes.opening_same model)
      ∙ ap (λ (es : List _). old.opening ++ grown_records es) (take-begins old.pass.entries new.pass.entries n goes.begins le)

  length-begins : (keeps : Type 0) (old new : FlusherOf R D) → FlusherGoesOn keeps old new → length old.pass.entries ≤ length new.pass.entries
  length-begins keeps old new goes = let long = ap length goes.begins in omega (arith, length-take (length old.pass.entries) new.pass.entries)

  -- an image that keeps what an earlier flusher knows keeps what a later one does
  pub OpensToFirst-later : (form : Encoding R) (keeps : Type 0) (old new : FlusherOf R D) (least settled : ℕ) (image : List ℕ) → keeps
      → FlusherGoesOn keeps old new → least ≤ settled → OpensToFirst form settled old image → OpensToFirst form least new image
  OpensToFirst-later form keeps old new least settled image model goes le kept =
      let at_least = kept.at_least in
      let known = kept.known in
      let longer = length-begins keeps old new goes in
      record {
        count = kept.count;
        at_least = omega arith;
        known = omega arith;
        opens = subst (λ (rs : List R). OpensTo form image rs) (sym (list_to-later keeps old new kept.count model goes known)) kept.opens;
      }

  -- ---- stretches of serving

  module _ {form : Encoding R} {keeps : D → Type 0} {states : D → List State} where
    -- one tick
    pub Serves-tick : {old new : FlusherOf R D} → SameGrowths old new → old.settled ≤ new.settled
        → (keeps new.pen.disk → new.opening ≡ old.opening)
        → (keeps new.pen.disk → LeavesOnly (states old.pen.disk) (states new.pen.disk) (OpensToJob form old))
        → (keeps new.pen.disk → keeps old.pen.disk)
        → fold_with new.pen.job new.pen.fold ≡ fold_with old.pen.job old.pen.fold
        → Serves form keeps states old new
    Serves-tick {old} {new} same settled opening images model fold =
        let taken = same.taken_same in
        let mark = ap (λ (m : _). m.of) same.mark_same in
        let goes = FlusherGoesOn-same (keeps new.pen.disk) old new same.pass_same mark same.before_same (omega arith) settled opening in
        record {
          goes_on = goes;
          images = λ now. LeavesOnly-weaker _ _ _ _
              (λ image job. OpensToFirst-later form (keeps new.pen.disk) old new old.settled old.settled image now goes (omega arith) job.kept) (images now);
          model = model;
          fold = fold;
        }

    -- one behind the other
    pub Serves-join : {old mid new : FlusherOf R D} → Serves form keeps states old mid → Serves form keeps states mid new → Serves form keeps states old new
    Serves-join {old} {mid} {new} first then = record {
      goes_on = FlusherGoesOn-join (keeps mid.pen.disk) (keeps new.pen.disk) old mid new then.model first.goes_on then.goes_on;
      images = λ now.
          LeavesOnly-join (states old.pen.disk) (states mid.pen.disk) (states new.pen.disk) (OpensToFirst form old.settled new)
          (LeavesOnly-weaker _ _ _ _
          (λ image. OpensToFirst-later form (keeps new.pen.disk) mid new old.settled old.settled image now then.goes_on (omega arith))
          (first.images (then.model now)))
          (LeavesOnly-weaker _ _ _ _
          (λ image. OpensToFirst-later form (keeps new.pen.disk) new new old.settled mid.settled image now
          (FlusherGoesOn-refl (keeps new.pen.disk) new) first.goes_on.no_less_settled)
          (then.images now));
      model = λ now. first.model (then.model now);
      fold = then.fold ∙ first.fold;
    }

    -- and then what calls no device
    pub Serves-then : {old mid new : FlusherOf R D} → Serves form keeps states old mid → FlusherGoesOn (keeps new.pen.disk) mid new
        → new.pen.disk ≡ mid.pen.disk → fold_with new.pen.job new.pen.fold ≡ fold_with mid.pen.job mid.pen.fold → Serves form keeps states old new
    Serves-then {old} {mid} {new} first goes disk fold =
        let back : keeps new.pen.disk → keeps mid.pen.disk = subst keeps disk in
        record {
          goes_on = FlusherGoesOn-join (keeps mid.pen.disk) (keeps new.pen.disk) old mid new back first.goes_on goes;
          images = λ now.
              subst (λ (d : D). LeavesOnly (states old.pen.disk) (states d) (OpensToFirst form old.settled new)) (sym disk)
              (LeavesOnly-weaker _ _ _ _
              (λ image. OpensToFirst-later form (keeps new.pen.disk) mid new old.settled old.settled image now goes (omega arith))
              (first.images (back now)));
          model = λ now. first.model (back now);
          fold = fold ∙ first.fold;
        }

    -- where nothing may have been done before
    pub Serves-first : {old mid new : FlusherOf R D} → (mid ≡ old) ⊎ Serves form keeps states old mid → Serves form keeps states mid new
        → Serves form keeps states old new
    Serves-first {old} {mid} {new} so_far then = elim so_far [
      | inl same ↦ subst (λ (f : FlusherOf R D). Serves form keeps states f new) same then
      | inr first ↦ Serves-join first then
    ]

    -- and then the mark is raised or set
    pub Serves-told : {old mid new : FlusherOf R D} (mark : MarkEnd) → Serves form keeps states old mid → mark.of ≡ mid.mark.of
        → new ≡ record mid { mark = mark } → Serves form keeps states old new
    Serves-told {old} {mid} {new} mark first of is =
        let pen = pen-told mid new mark is in
        Serves-then first (FlusherGoesOn-told (keeps new.pen.disk) mid new mark of is)
        (ap (λ (p : PenOf D). p.disk) pen) (ap (λ (p : PenOf D). fold_with p.job p.fold) pen)

    pub Serves-raised : {old mid new : FlusherOf R D} → Serves form keeps states old mid → new ≡ record mid { mark = raised_mark states mid }
        → Serves form keeps states old new
    Serves-raised {old} {mid} {new} first is = Serves-told (raised_mark states mid) first refl is

    -- and then it learns
    pub Serves-learns : {old mid new : FlusherOf R D} → Serves form keeps states old mid → FlusherLearns mid new → Serves form keeps states old new
    Serves-learns {old} {mid} {new} first learns =
        Serves-then first (FlusherGoesOn-learns (keeps new.pen.disk) mid new learns)
        (ap (λ (p : PenOf D). p.disk) learns.pen_same) (ap (λ (p : PenOf D). fold_with p.job p.fold) learns.pen_same)

    -- it stays of its phase
    pub IsFlusherOf-served : {live : Phase R} {old new : FlusherOf R D} → Serves form keeps states old new
        → IsFlusherOf (keeps old.pen.disk) live old → IsFlusherOf (keeps new.pen.disk) live new
    IsFlusherOf-served {live} {old} {new} serves is =
        IsFlusherOf-later (keeps old.pen.disk) (keeps new.pen.disk) live old new serves.model serves.goes_on is
