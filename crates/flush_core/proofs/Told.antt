-- What the mark told stands.
use Rattle.std.proofs.Common.{◌≡◌, ℕ, ◌≤◌, List, [], ◌∷◌, ◌++◌, length, take, inl, inr, refl, sym, ap, ap₂, subst, arith}
use Rattle.disk_core.specs.State.{State, now, IsImage}
use Rattle.disk_core.specs.Moments.{LeavesOnly, LeftSince, clock}
use Rattle.disk_core.proofs.JoinedMoments.{LeavesOnly-before, LeavesOnly-weaker, LeftSince-clock}
use Rattle.record_core.specs.Bytes.{Encoding}
use Rattle.pen_core.specs.Pen.{MayOpen}
use Rattle.pen_core.specs.Typed.{OpensTo}
use Rattle.directory_core.specs.Chain.{grown_records}
use Rattle.book_core.specs.declared.mark.Raise.{Raise}
use Rattle.book_core.specs.Marks.{MarkEnd, HasAllRaises, IsRaiseOf}
use Rattle.flush_core.specs.Flusher.{FlusherOf, FlusherGoesOn, HasTold, IsFlusher, IsPastRaise, OpensToFirst, OpensToJob, OpensToSettled, ToldIsLeft}
use Rattle.flush_core.proofs.Goes.{OpensToFirst-later}
use Rattle.flush_core.proofs.Kept.{keeps_job, leaves_job}

module _ {R D : Type 0} {form : Encoding R} where
  -- an image that holds so many growths holds fewer
  OpensToFirst-fewer : (f : FlusherOf R D) (least settled : ℕ) (image : List ℕ) → least ≤ settled → OpensToFirst form settled f image → OpensToFirst form least f image
  OpensToFirst-fewer f least settled image le opens =
      let more = opens.at_least in
      record { count = opens.count; at_least = omega arith; known = opens.known; opens = opens.opens }

  module _ (states : List State) (raises : List Raise) where
    -- of some of the raises
    pub ToldIsLeft-of : (f : FlusherOf R D) (seen : List Raise) → HasAllRaises raises seen → ToldIsLeft form states f raises → ToldIsLeft form states f seen
    ToldIsLeft-of f seen all left raise is = left raise (all raise is)

    -- to a flusher that went on
    pub ToldIsLeft-later : {keeps : Type 0} (old new : FlusherOf R D) → keeps → FlusherGoesOn keeps old new → ToldIsLeft form states old raises → ToldIsLeft form states new raises
    ToldIsLeft-later {keeps} old new model goes left raise is image since =
        OpensToFirst-later form keeps old new raise.count raise.count image model goes (omega arith) (left raise is image since)

    -- of a flusher that knows the same growths
    pub ToldIsLeft-same : (old new : FlusherOf R D) → new.pass.entries ≡ old.pass.entries → new.opening ≡ old.opening → ToldIsLeft form states old raises
        → ToldIsLeft form states new raises
    ToldIsLeft-same old new entries opening left raise is image since =
        let opens = left raise is image since in
        record {
          count = opens.count;
          at_least = opens.at_least;
          known = subst (λ (es : List _). opens.count ≤ length es) (sym entries) opens.known;
          opens = subst (OpensTo form image) (sym (ap₂ (λ (rs : List R) (es : List _). rs ++ grown_records (take opens.count es)) opening entries)) opens.opens;
        }

    -- behind calls of the disk that leave what is settled
    ToldIsLeft-calls : (f : FlusherOf R D) (states' : List State) → ((raise : Raise) → IsRaiseOf raises raise → IsPastRaise states f raise)
        → LeavesOnly states states' (OpensToSettled form f) → ToldIsLeft form states f raises → ToldIsLeft form states' f raises
    ToldIsLeft-calls f states' past leaves left raise is image since =
        elim (LeavesOnly-before states states' (OpensToSettled form f) leaves raise.at image (past raise is).past since) [
          | inl earlier ↦ left raise is image earlier
          | inr opens ↦ OpensToFirst-fewer f raise.count f.settled image (past raise is).settled opens
        ]

    -- with a raise now to what is settled
    ToldIsLeft-raised : (f : FlusherOf R D) → ((image : List ℕ) → IsImage (now states) image → OpensToSettled form f image) → ToldIsLeft form states f raises
        → ToldIsLeft form states f (record { count = f.settled; at = clock states } ∷ raises)
    ToldIsLeft-raised f here left raise is image since = elim is [
      | inl newest ↦
          let now_left = LeftSince-clock states image (subst (λ (r : Raise). LeftSince states r.at image) (sym newest) since) in
          subst (λ (r : Raise). OpensToFirst form r.count f image) newest (here image now_left)
      | inr before ↦ left raise before image since
    ]

-- ---- what a flusher has told

-- before the first raise
pub HasTold-none : {R D : Type 0} (keeps : Type 0) (states : List State) (form : Encoding R) (f : FlusherOf R D) → f.mark.raises ≡ [] → HasTold keeps states form f
HasTold-none keeps states form f none = record { past = λ raise is. absurd (never raise is); left = λ model raise is. absurd (never raise is) }
  where
    never : (raise : Raise) → IsRaiseOf f.mark.raises raise → ⊥
    never raise is = subst (λ (raises : List Raise). IsRaiseOf raises raise) none is

module _ {R D : Type 0} {form : Encoding R} {keeps : Type 0} {states : List State} {f : FlusherOf R D} (told : HasTold keeps states form f) where
  -- of other raises, each of which was one
  HasTold-of : (new : FlusherOf R D) → new.pass ≡ f.pass → new.opening ≡ f.opening → new.settled ≡ f.settled → HasAllRaises f.mark.raises new.mark.raises
      → HasTold keeps states form new
  HasTold-of new pass opening settled all = record {
    past = λ raise is. let p = told.past raise (all raise is) in let count = p.settled in record { settled = omega (arith, settled); past = p.past };
    left = λ model. ToldIsLeft-same states new.mark.raises f new (ap (λ (p : _). p.entries) pass) opening (ToldIsLeft-of states f.mark.raises f new.mark.raises all (told.left model));
  }

  -- the mark says that it is over
  pub HasTold-set : (mark : MarkEnd) → mark.raises ≡ f.mark.raises → HasTold keeps states form (record f { mark = mark })
  HasTold-set mark raises = HasTold-of (record f { mark = mark }) refl refl refl (λ raise is. subst (λ (rs : List Raise). IsRaiseOf rs raise) raises is)

  -- it makes no call of the disk, and knows no less
  pub HasTold-on : (keeps' : Type 0) (states' : List State) (new : FlusherOf R D) → states' ≡ states → (keeps' → keeps) → FlusherGoesOn keeps' f new → new.mark ≡ f.mark
      → HasTold keeps' states' form new
  HasTold-on keeps' states' new same back goes mark = record {
    past = λ raise is.
        let p = told.past raise (subst (λ (m : MarkEnd). IsRaiseOf m.raises raise) mark is) in
        let count = p.settled in
        let more = goes.no_less_settled in
        record { settled = omega arith; past = subst (λ (s : List State). raise.at ≤ clock s) (sym same) p.past };
    left = λ model. subst (λ (m : MarkEnd). ToldIsLeft form states' new m.raises) (sym mark)
        (subst (λ (s : List State). ToldIsLeft form s new f.mark.raises) (sym same) (ToldIsLeft-later states f.mark.raises f new model goes (told.left (back model))));
  }

  pub HasTold-later : (new : FlusherOf R D) → FlusherGoesOn keeps f new → new.mark ≡ f.mark → HasTold keeps states form new
  HasTold-later new goes mark = HasTold-on keeps states new refl (λ model. model) goes mark

  module _ (is : IsFlusher keeps form f) where
    -- a call of the disk, or none, that leaves no more than the pen says: whatever came of it
    pub HasTold-calls : (keeps' : Type 0) (states' : List State) (new : FlusherOf R D) → clock states ≤ clock states' → (keeps' → keeps)
        → (keeps' → LeavesOnly states states' (MayOpen f.pen)) → FlusherGoesOn keeps' f new → new.mark ≡ f.mark → HasTold keeps' states' form new
    HasTold-calls keeps' states' new later back leaves goes mark = record {
      past = λ raise there.
          let p = told.past raise (subst (λ (m : MarkEnd). IsRaiseOf m.raises raise) mark there) in
          let count = p.settled in
          let at = p.past in
          let more = goes.no_less_settled in
          record { settled = omega arith; past = omega arith };
      left = λ model.
          let job = leaves_job is (back model) (leaves model) in
          let settled = LeavesOnly-weaker states states' (OpensToJob form f) (OpensToSettled form f) (λ image opens. opens.kept) job in
          subst (λ (m : MarkEnd). ToldIsLeft form states' new m.raises) (sym mark)
          (ToldIsLeft-later states' f.mark.raises f new model goes (ToldIsLeft-calls states f.mark.raises f states' told.past settled (told.left (back model))));
    }

    -- the mark is raised now
    pub HasTold-raised : (mark : MarkEnd) → mark.raises ≡ record { count = f.settled; at = clock states } ∷ f.mark.raises
        → (keeps → (image : List ℕ) → IsImage (now states) image → MayOpen f.pen image) → HasTold keeps states form (record f { mark = mark })
    HasTold-raised mark raises opens = record {
      past = λ raise there. elim (subst (λ (rs : List Raise). IsRaiseOf rs raise) raises there) [
        | inl newest ↦ subst (IsPastRaise states (record f { mark = mark })) newest (record { settled = omega arith; past = omega arith })
        | inr before ↦ let p = told.past raise before in record { settled = p.settled; past = p.past }
      ];
      left = λ model.
          let all = ToldIsLeft-raised states f.mark.raises f (λ image there. (keeps_job is model image (opens model image there)).kept) (told.left model) in
          ToldIsLeft-same states mark.raises f (record f { mark = mark }) refl refl (subst (ToldIsLeft form states f) (sym raises) all);
    }
