-- Phases of a crew, one behind the other, over the vault of a file.
use Rattle.std.proofs.Common.{◌≡◌, ◌⊎◌, ℕ, zero, suc, ◌+◌, ◌-◌, ◌<◌, List, [], ◌∷◌, ◌++◌, length, take, inl, inr, refl, sym, ap, subst, ◌∙◌, arith}
use Rattle.std.proofs.Common.{Result, Ok, Err}
use Rattle.std.specs.Prelude.{MatchResult}
use Rattle.std.specs.Result.{IsErrAnd}
use Rattle.std.proofs.lemmas.Grind.{flat_map-append}
use Rattle.std.proofs.lemmas.List.{append_assoc, append-nil, length-append, take-append-le}
use Rattle.record_core.specs.Bytes.{Encoding}
use Rattle.disk_core.specs.State.{State, now, IsImage}
use Rattle.disk_core.specs.Calls.{bytes_of}
use Rattle.disk_core.specs.Moments.{LeavesOnly}
use Rattle.disk_core.proofs.JoinedMoments.{LeavesOnly-join, LeavesOnly-weaker}
use Rattle.block_core.specs.Growth.{Growth}
use Rattle.directory_core.specs.Chain.{grown_records}
use Rattle.segment_core.specs.Written.{joined}
use Rattle.pen_core.specs.Typed.{OpensTo}
use Rattle.vault_core.specs.Sharing.{OpensToGrown}
use Rattle.vault_core.specs.Vault.{VaultOf, list_of}
use Rattle.files_core.specs.declared.appended.Appended.{Appended}
use Rattle.files_core.specs.declared.fault.FileFault.{FileFault}
use Rattle.files_core.specs.declared.fault.FileFault.TheVariants as files
use Rattle.files_core.specs.Opened.{IsOpenedOn, LeavesBeforeOr}
use Rattle.files_core.proofs.Opened.{opened_list, opened_alone}
use Rattle.lines_core.proofs.Blocks.{joined_push}
use Rattle.load_core.specs.Dealt.{behind_slice, slice_of}
use Rattle.load_core.specs.Loading.{AllMade, AreDealt, AreMadeBy, Appends, HasLoadedOn, HasLoadedSoFar, IsGrowthStop, IsLoaded, IsLoadRefusal, MayAppend, StandBehind}

-- ---- fronts of growths

take_none : {X : Type 0} (xs : List X) → take 0 xs ≡ []
take_none [] = refl
take_none (x ∷ xs) = refl

none_taken : {X : Type 0} (n : ℕ) → take {A = X} n [] ≡ []
none_taken zero = refl
none_taken (suc n) = refl

take_behind : {X : Type 0} (one two : List X) (n : ℕ) → take (length one + n) (one ++ two) ≡ one ++ take n two
take_behind [] two n = let e : 0 + n ≡ n = omega arith in ap (λ k. take k two) e
take_behind (x ∷ one) two n =
    let e : suc (length one) + n ≡ suc (length one + n) = omega arith in ap (λ k. take k (x ∷ (one ++ two))) e ∙ ap (λ xs. x ∷ xs) (take_behind one two n)

grown_on : {R : Type 0} (was : List R) (one two : List (Growth R)) → (was ++ grown_records one) ++ grown_records two ≡ was ++ grown_records (one ++ two)
grown_on {R} was one two =
    append_assoc was (grown_records one) (grown_records two) ∙ ap (λ (rs : List R). was ++ rs) (sym (flat_map-append (λ (e : Growth R). e.records) one two))

module _ {R : Type 0} (form : Encoding R) (was : List R) (image : List ℕ) where
  grown_none : (growths : List (Growth R)) → OpensTo form image was → OpensToGrown form was growths image
  grown_none growths opens = record {
    count = 0;
    known = omega arith;
    opens = subst (OpensTo form image) (sym (ap (λ (gs : List (Growth R)). was ++ grown_records gs) (take_none growths) ∙ append-nil was)) opens;
  }

  -- what has the first of none has just the list
  grown_all : OpensToGrown form was [] image → OpensTo form image was
  grown_all has = subst (OpensTo form image) (ap (λ (gs : List (Growth R)). was ++ grown_records gs) (none_taken has.count) ∙ append-nil was) has.opens

  -- what has the first of some growths has the first of these and more
  grown_more : (one two : List (Growth R)) → OpensToGrown form was one image → OpensToGrown form was (one ++ two) image
  grown_more one two has = record {
    count = has.count;
    known = omega (arith, length-append one two, has.known);
    opens = subst (λ (gs : List (Growth R)). OpensTo form image (was ++ grown_records gs)) (sym (take-append-le has.count one two has.known)) has.opens;
  }

  grown_behind : (one two : List (Growth R)) → OpensToGrown form (was ++ grown_records one) two image → OpensToGrown form was (one ++ two) image
  grown_behind one two has = record {
    count = length one + has.count;
    known = omega (arith, length-append one two, has.known);
    opens = subst (OpensTo form image)
        (grown_on was one (take has.count two) ∙ ap (λ (gs : List (Growth R)). was ++ grown_records gs) (sym (take_behind one two has.count))) has.opens;
  }

-- ---- which growths phases made

made_on : {R : Type 0} (growers : ℕ) (growths left : List (List R)) (phases : List (List (Growth R))) (made : List (Growth R)) → AreMadeBy growers growths phases left
    → AreDealt (slice_of growers left) growers made → AllMade (slice_of growers left) growers made → AreMadeBy growers growths (phases ++ made ∷ []) (behind_slice growers left)
made_on {R} growers growths left [] made so dealt all = (
  subst (λ (gs : List (List R)). AreDealt (slice_of growers gs) growers made) so dealt,
  subst (λ (gs : List (List R)). AllMade (slice_of growers gs) growers made) so all,
  ap (λ (gs : List (List R)). behind_slice growers gs) so,
)
made_on growers growths left (first ∷ phases) made so dealt all = (so.0, so.1, made_on growers (behind_slice growers growths) left phases made so.2 dealt all)

module _ {R D : Type 0} (form : Encoding R) (keeps : D → Type 0) (states : D → List State) (faults : D → ℕ) (growths : List (List R)) (growers : ℕ) (disk : D) (v : VaultOf R D) where
  -- no phase yet
  pub none_begun : (appended : Appended) → IsOpenedOn form keeps states faults disk v → appended ≡ record { growths = 0; lines = 0; size = length (list_of v) }
      → HasLoadedSoFar form keeps states faults growths growers disk v growths appended
  none_begun appended opened is = record {
    was = list_of v;
    phases = [];
    told = record {
      made_by = refl;
      growths_are = ap (λ (a : Appended). a.growths) is ∙ none;
      lines_are = ap (λ (a : Appended). a.lines) is ∙ sym (ap (λ (a : Appended). a.growths) is);
      size_is = ap (λ (a : Appended). a.size) is ∙ ap length (sym (append-nil (list_of v)));
    };
    list_is = sym (append-nil (list_of v));
    opened = λ none. opened;
    stands = λ model. record {
      file = opened_list form (bytes_of (states disk)) v.pen (list_of v) (opened.opened model);
      images = opened_alone (states disk) (states v.pen.disk) (OpensToGrown form (list_of v) []) (opened.only_syncs model);
      settled = λ some. absurd (omega (arith, some));
    };
  }
    where
      none : 0 ≡ length growths - length growths
      none = omega arith

  module _ (left : List (List R)) (appended : Appended) (so : HasLoadedSoFar form keeps states faults growths growers disk v left appended) where
    list_on : (made : List (Growth R)) → list_of v ++ grown_records made ≡ so.was ++ grown_records (joined so.phases ++ made)
    list_on made = ap (λ (rs : List R). rs ++ grown_records made) so.list_is ∙ grown_on so.was (joined so.phases) made

    -- what may stand from the opening on
    abbrev MayStand : List (Growth R) → List ℕ → Type 0
    MayStand growths image = IsImage (now (states disk)) image ⊎ OpensToGrown form so.was growths image

    images_on : (d : D) (made : List (Growth R)) → keeps v.pen.disk → LeavesOnly (states v.pen.disk) (states d) (OpensToGrown form (list_of v) made)
        → LeavesBeforeOr (states disk) (states d) (OpensToGrown form so.was (joined so.phases ++ made))
    images_on d made model leaves =
        LeavesOnly-join (states disk) (states v.pen.disk) (states d) (MayStand (joined so.phases ++ made))
        (LeavesOnly-weaker (states disk) (states v.pen.disk) (MayStand (joined so.phases ++ [])) (MayStand (joined so.phases ++ made)) earlier (so.stands model).images)
        (LeavesOnly-weaker (states v.pen.disk) (states d) (OpensToGrown form (list_of v) made) (MayStand (joined so.phases ++ made))
        (λ image has. inr (grown_behind form so.was image (joined so.phases) made (subst (λ (rs : List R). OpensToGrown form rs made image) so.list_is has))) leaves)
      where
        earlier : (image : List ℕ) → MayStand (joined so.phases ++ []) image → MayStand (joined so.phases ++ made) image
        earlier image (inl same) = inl same
        earlier image (inr has) =
            inr (grown_more form so.was image (joined so.phases) made (subst (λ (gs : List (Growth R)). OpensToGrown form so.was gs image) (append-nil (joined so.phases)) has))

    appends : (d : D) (made : List (Growth R)) → StandBehind form keeps states v d made → keeps d → Appends form states disk d so.was (joined so.phases ++ made)
    appends d made stands model =
        let before = stands.model model in
        record {
          file = (so.stands before).file;
          images = images_on d made before (stands.images model);
          settled = λ image is. subst (OpensTo form image) (list_on made) (stands.settled model image is);
        }

    -- one phase more
    module _ (w : VaultOf R D) (made : List (Growth R)) (stands : StandBehind form keeps states v w.pen.disk made) (list_is : list_of w ≡ list_of v ++ grown_records made) where
      pushed : joined so.phases ++ made ≡ joined (so.phases ++ made ∷ [])
      pushed = sym (joined_push so.phases made)

      list_now : list_of w ≡ so.was ++ grown_records (joined (so.phases ++ made ∷ []))
      list_now = list_is ∙ list_on made ∙ ap (λ (gs : List (Growth R)). so.was ++ grown_records gs) pushed

      some : 0 < length (so.phases ++ made ∷ [])
      some = omega (arith, length-append so.phases (made ∷ []))

      may_append : keeps w.pen.disk → MayAppend form states disk w.pen.disk so.was (so.phases ++ made ∷ []) []
      may_append model =
          let all = appends w.pen.disk made stands model in
          record {
            file = all.file;
            images = subst (λ (gs : List (Growth R)). LeavesBeforeOr (states disk) (states w.pen.disk) (OpensToGrown form so.was gs)) (pushed ∙ sym (append-nil (joined (so.phases ++ made ∷ [])))) all.images;
            settled = λ more image is. grown_none form (so.was ++ grown_records (joined (so.phases ++ made ∷ []))) image []
                (subst (λ (gs : List (Growth R)). OpensTo form image (so.was ++ grown_records gs)) pushed (all.settled image is));
          }

      pub next_phase : (after : Appended) → AreDealt (slice_of growers left) growers made → AllMade (slice_of growers left) growers made
          → after.growths ≡ length growths - length (behind_slice growers left) → after.lines ≡ after.growths → after.size ≡ length (list_of w)
          → HasLoadedOn form keeps states faults growths growers disk w (behind_slice growers left) after
      next_phase after dealt all growths_are lines_are size_is = (
        record {
          was = so.was;
          phases = so.phases ++ made ∷ [];
          told = record {
            made_by = made_on growers growths left so.phases made so.told.made_by dealt all;
            growths_are = growths_are;
            lines_are = lines_are;
            size_is = size_is ∙ ap length list_now;
          };
          list_is = list_now;
          opened = λ none. absurd (omega (arith, some, ap length none));
          stands = may_append;
        },
        some,
      )

    -- a phase that didn't make all of its growths
    pub stopped_phase : (d : D) (fault : FileFault) → IsGrowthStop form keeps states appended.lines (slice_of growers left) growers v d fault
        → IsLoadRefusal form keeps states faults growths growers disk d appended fault
    stopped_phase d (files.Vault fault) (inl (same, why)) = (
      so.was,
      so.phases,
      left,
      [],
      so.told,
      (λ model. subst (λ (d : D). MayAppend form states disk d so.was so.phases []) (sym same) (so.stands (subst keeps same model))),
      inl (v, so.opened, so.list_is, same, refl, why),
    )
    stopped_phase d (files.Vault fault) (inr begun) = (
      so.was,
      so.phases,
      left,
      begun.0,
      so.told,
      (λ model.
          let both = begun.2 model in
          record {
            file = (so.stands both.0).file;
            images = images_on d begun.0 both.0 both.1;
            settled = λ some image is. subst (λ (rs : List R). OpensToGrown form rs begun.0 image) so.list_is (both.1.newest image is);
          }),
      inr begun.1,
    )
    stopped_phase d (files.Grower stopped) stop =
        (so.was, so.phases, left, stop.0, so.told, stop.1, (λ model. appends d stop.0 stop.2 model), stop.3 ∙ ap length (list_on stop.0), stop.4)
    stopped_phase d (files.Open fault) stop = absurd stop
    stopped_phase d (files.Word word) stop = absurd stop
    stopped_phase d (files.Input refusal) stop = absurd stop
    stopped_phase d (files.Upgrade fault) stop = absurd stop

  -- behind the last phase
  pub all_loaded : (d : D) (appended : Appended) → d ≡ v.pen.disk → HasLoadedOn form keeps states faults growths growers disk v [] appended
      → IsLoaded form keeps states growths growers disk d appended
  all_loaded d appended same (so, some) = record {
    was = so.was;
    phases = so.phases;
    told = so.told;
    stands = λ model. subst (λ (d : D). Appends form states disk d so.was (joined so.phases)) (sym same) (stands (subst keeps same model));
  }
    where
      stands : keeps v.pen.disk → Appends form states disk v.pen.disk so.was (joined so.phases)
      stands model =
          let may = so.stands model in
          record {
            file = may.file;
            images = subst (λ (gs : List (Growth R)). LeavesBeforeOr (states disk) (states v.pen.disk) (OpensToGrown form so.was gs)) (append-nil (joined so.phases)) may.images;
            settled = λ image is. grown_all form (so.was ++ grown_records (joined so.phases)) image (may.settled some image is);
          }

-- ---- what a call hands on

pub handed_on : {T E : Type 0} (P : T → Type 0) (Q : E → Type 0) (result : Result T E) (fault : E) → IsErrAnd result (λ e. e ≡ fault) → Q fault → MatchResult result P Q
handed_on P Q (Ok value) fault is has = absurd is
handed_on P Q (Err e) fault is has = subst Q (sym is) has

-- a deck has these growths for so many growers
module _ {R D : Type 0} (form : Encoding R) (keeps : D → Type 0) (states : D → List State) (faults : D → ℕ) {growths all : List (List R)} {growers many : ℕ} (disk : D)
    (same : growths ≡ all) (as_many : growers ≡ many) where
  pub so_far_as : {left more : List (List R)} (v : VaultOf R D) (appended : Appended) → left ≡ more → HasLoadedSoFar form keeps states faults growths growers disk v left appended
      → HasLoadedSoFar form keeps states faults all many disk v more appended
  so_far_as {left} v appended is so =
      subst (λ (gs : List (List R)). HasLoadedSoFar form keeps states faults all many disk v gs appended) is
      (subst (λ n. HasLoadedSoFar form keeps states faults all n disk v left appended) as_many
      (subst (λ (gs : List (List R)). HasLoadedSoFar form keeps states faults gs growers disk v left appended) same so))

  pub on_as : {left more : List (List R)} (v : VaultOf R D) (appended : Appended) → left ≡ more → HasLoadedOn form keeps states faults growths growers disk v left appended
      → HasLoadedOn form keeps states faults all many disk v more appended
  on_as {left} v appended is so =
      subst (λ (gs : List (List R)). HasLoadedOn form keeps states faults all many disk v gs appended) is
      (subst (λ n. HasLoadedOn form keeps states faults all n disk v left appended) as_many
      (subst (λ (gs : List (List R)). HasLoadedOn form keeps states faults gs growers disk v left appended) same so))

  pub refusal_as : (d : D) (appended : Appended) (fault : FileFault) → IsLoadRefusal form keeps states faults growths growers disk d appended fault
      → IsLoadRefusal form keeps states faults all many disk d appended fault
  refusal_as d appended fault so =
      subst (λ n. IsLoadRefusal form keeps states faults all n disk d appended fault) as_many
      (subst (λ (gs : List (List R)). IsLoadRefusal form keeps states faults gs growers disk d appended fault) same so)

  pub loaded_as : (result : Result (VaultOf R D) (D × FileFault)) (appended : Appended)
      → MatchResult result (λ new. HasLoadedOn form keeps states faults growths growers disk new [] appended) (λ r. IsLoadRefusal form keeps states faults growths growers disk r.0 appended r.1)
      → MatchResult result (λ new. HasLoadedOn form keeps states faults all many disk new [] appended) (λ r. IsLoadRefusal form keeps states faults all many disk r.0 appended r.1)
  loaded_as (Ok new) appended so = on_as new appended refl so
  loaded_as (Err r) appended so = refusal_as r.0 appended r.1 so

-- what comes of a load, and why not
module _ {R D : Type 0} (form : Encoding R) (keeps : D → Type 0) (states : D → List State) (faults : D → ℕ) (growths : List (List R)) (growers : ℕ) (disk : D)
    (result : Result (VaultOf R D) (D × FileFault)) (appended : Appended)
    (so : MatchResult result (λ new. HasLoadedOn form keeps states faults growths growers disk new [] appended) (λ r. IsLoadRefusal form keeps states faults growths growers disk r.0 appended r.1)) where
  pub loaded_in : (new : VaultOf R D) → result ≡ Ok new → HasLoadedOn form keeps states faults growths growers disk new [] appended
  loaded_in new is = subst
      (λ (r : Result (VaultOf R D) (D × FileFault)).
      MatchResult r (λ new. HasLoadedOn form keeps states faults growths growers disk new [] appended) (λ r. IsLoadRefusal form keeps states faults growths growers disk r.0 appended r.1)) is so

  pub refused_in : (d : D) (fault : FileFault) → result ≡ Err (d, fault) → IsLoadRefusal form keeps states faults growths growers disk d appended fault
  refused_in d fault is = subst
      (λ (r : Result (VaultOf R D) (D × FileFault)).
      MatchResult r (λ new. HasLoadedOn form keeps states faults growths growers disk new [] appended) (λ r. IsLoadRefusal form keeps states faults growths growers disk r.0 appended r.1)) is so
