-- One frame more, of each kind: what was found is then what the frames say.
use Rattle.std.proofs.Common.{◌≡◌, ℕ, ◌+◌, ◌-◌, ◌*◌, ◌≤◌, ◌<◌, false, List, [], ◌∷◌, ◌++◌, length, drop, Option, Some, None, refl, sym, ap, subst, ◌∙◌, arith, inl, inr}
use Rattle.std.specs.Prelude.{nat_lt, slice_get}
use Rattle.std.specs.List.{AllByRecursion}
use Rattle.std.specs.Option.{option_or}
use Rattle.std.proofs.lemmas.Bool.{cases_lt, or_parts, ltb-false}
use Rattle.std.proofs.lemmas.List.{drop-append-le, append-nil, length-append, length-take-le, drop_all, drop-drop}
use Rattle.std.proofs.lemmas.Nat.{mul-le}
use Rattle.record_core.specs.Bytes.{Encoding}
use Rattle.segment_core.specs.declared.format.Format.{Format}
use Rattle.segment_core.specs.declared.format.Shape.{Shape}
use Rattle.segment_core.specs.declared.found.Found.{Found}
use Rattle.segment_core.specs.declared.found.Home.{Home}
use Rattle.segment_core.specs.declared.tally.Tally.{Tally}
use Rattle.segment_core.specs.Shape.{shape_of}
use Rattle.segment_core.specs.Frame.{Frame, Shrink, Fold, kind_of, frame_text, text}
use Rattle.segment_core.specs.Tally.{nothing, after, tally_of, is_outside, is_unfolded, is_miscounted}
use Rattle.segment_core.specs.Vector.{place_among, home_in, home_of}
use Rattle.segment_core.specs.Reading.{Seen, runs_of, record_bytes_of, record_count}
use Rattle.segment_core.specs.Notes.{noted}
use Rattle.segment_core.specs.Found.{StandsAt, first_record_of, IsLaidAt, home_among, AreInTurn, AreHomes, changes_in, changes_of, live_of, IsInside, IsFound, StandsNext, IsGrown, IsSame, IsCut}
use Rattle.segment_core.proofs.Push.{text_push, tally_from_push}
use Rattle.segment_core.proofs.LastFrom.{home_push}
use Rattle.segment_core.proofs.PlaceAmong.{place_among_inside, place_among_below}
use Rattle.segment_core.proofs.Replaced.{slice_get-take}
use Rattle.segment_core.proofs.FoundHomes.{home_among_push, in_turn_push}
use Rattle.segment_core.proofs.FrameParts.{length-frame_parts, records_filled}
use Rattle.segment_core.proofs.FoundChanges.{all_push, all_drop, all_map, changes_push, changes_counted, records_stand}
use Rattle.segment_core.proofs.FoundKept.{has_home_as, after_group, home_in_group, changes_in_group, group_fits, no_home, after_change, changes_in_change, change_inside, inside_longer, kept}
use Rattle.segment_core.proofs.FoundKept.{homes_kept, same_shape, stay_found}

-- ---- the same frames

pub found_same : {R : Type 0} (form : Encoding R) (format : Format) (frames : List Frame) (old new : Found R)
    → IsSame old new → new.folded ≡ old.folded → new.live.items ≡ old.live.items → IsFound form format frames old
    → IsFound form format frames new
found_same form format frames old new same folded live is =
    let shape : Shape = shape_of format form in
    record {
      size_is = ap length same.records_are ∙ is.size_is;
      small = is.small;
      each =
          λ i lt.
          has_home_as form (text shape frames) (text shape frames) (home_of shape frames i)
          (home_of shape frames i) (slice_get old.records.items i) (slice_get new.records.items i)
          (noted old.notes i) (noted new.notes i) refl refl (ap (λ rs. slice_get rs i) same.records_are)
          (same.notes_are i) (is.each i lt);
      homes = subst (AreHomes shape frames) (sym same.homes_are) is.homes;
      folded_is = folded ∙ is.folded_is;
      counted = is.counted;
      live_is = live ∙ is.live_is;
      inside = subst (AllByRecursion (IsInside (tally_of frames).size)) (sym live) is.inside;
    }

-- ---- a group

pub found_group : {R : Type 0} (form : Encoding R) (frames : List Frame) (seen : Seen) (old new : Found R)
    → kind_of seen.frame ≡ 1 → StandsNext form frames old seen → IsGrown form seen old new
    → IsFound form seen.shape.format (frames ++ seen.frame ∷ []) new
found_group {R} form frames seen old new kind follows grown =
    let f : Frame = seen.frame in
    let format : Format = seen.shape.format in
    let shape : Shape = shape_of format form in
    let width : ℕ = form.width in
    let behind = follows.behind in
    let t : Tally = tally_of frames in
    let n : ℕ = record_count f in
    let p : ℕ = first_record_of seen in
    let bytes : List ℕ = record_bytes_of f in
    let image : List ℕ = text shape (frames ++ f ∷ []) in
    let tally = tally_from_push nothing frames f ∙ after_group t f kind in
    let size : (tally_of (frames ++ f ∷ [])).size ≡ t.size + n = ap (λ x. x.size) tally in
    let folded : (tally_of (frames ++ f ∷ [])).folded ≡ t.folded = ap (λ x. x.folded) tally in
    let changes : (tally_of (frames ++ f ∷ [])).changes ≡ t.changes = ap (λ x. x.changes) tally in
    let at : seen.at ≡ length (text shape frames) = follows.here ∙ ap (λ s. length (text s frames)) (same_shape form seen.shape follows.wide) in
    let pushed : image ≡ text shape frames ++ frame_text format f = text_push shape frames f in
    let stands : StandsAt image p bytes
    = records_stand format f image (text shape frames) [] seen.at (pushed ∙ ap (λ (bs : List ℕ). text shape frames ++ bs) (sym (append-nil (frame_text format f)))) at in
    let filled : length bytes ≡ n * width = records_filled seen.shape f follows.whole.layout ∙ ap (λ w. n * w) follows.wide in
    let reach : p + length bytes ≡ length image =
    let a = ap length pushed ∙ length-append (text shape frames) (frame_text format f) in
    let b = length-frame_parts format f in
    omega arith in
    let start : length old.records.items ≡ t.size = behind.size_is in
    let says : ℕ → Option ℕ = place_among width p t.size n in
    let home : (i : ℕ) → home_of shape (frames ++ f ∷ []) i ≡ option_or (says i) (home_of shape frames i)
    = λ i.
    home_push shape frames f i
    ∙ ap (λ o. option_or o (home_of shape frames i)) (ap (λ m. home_in width i m t f) (sym at) ∙ home_in_group format width i seen.at t f kind) in
    let long : length new.records.items ≡ t.size + n = grown.longer ∙ ap (λ m. m + n) start in
    let laid : (i : ℕ) → i < t.size + n → IsLaidAt form image (says i) (slice_get new.records.items i) (slice_get old.records.items i) (noted new.notes i) (noted old.notes i) = λ i lt. (
    subst
    (λ m. IsLaidAt form image (place_among width p m n i) (slice_get new.records.items i) (slice_get old.records.items i) (noted new.notes i) (noted old.notes i))
    start (grown.laid image stands i (omega arith))) in
    let here : Home = record { position = length old.records.items; place = p; count = n } in
    record {
      size_is = long ∙ sym size;
      small = let fits = group_fits t f kind follows.may.short in omega arith;
      each = λ i lt. elim (cases_lt i t.size) [
        | inl below ↦ (
            let none : says i ≡ None = place_among_below width p t.size n i below in
            let same =
            subst
            (λ (o : Option ℕ). IsLaidAt form image o (slice_get new.records.items i) (slice_get old.records.items i) (noted new.notes i) (noted old.notes i))
            none (laid i (omega arith)) in
            kept form format frames f old new i (ap (λ m. home_in width i m t f) (sym at) ∙ home_in_group format width i seen.at t f kind ∙ none) same.0 same.1 (behind.each i below))
        | inr from ↦ (
            let q : ℕ = p + (i - t.size) * width in
            let some : says i ≡ Some q = place_among_inside width p t.size n i from (omega arith) in
            let last : (i - t.size + 1) * width ≤ n * width = mul-le (i - t.size + 1) width n width (omega arith) (omega arith) in (
              q,
              home i ∙ ap (λ o. option_or o (home_of shape frames i)) some,
              omega arith,
              subst (λ (o : Option ℕ). IsLaidAt form image o (slice_get new.records.items i) (slice_get old.records.items i) (noted new.notes i) (noted old.notes i)) some (laid i (omega arith)),
            ))
      ];
      homes = record {
        in_turn =
            subst (λ (hs : List Home). AreInTurn 0 hs (tally_of (frames ++ f ∷ [])).size) (sym grown.home)
            (in_turn_push 0 t.size (tally_of (frames ++ f ∷ [])).size old.homes.items here behind.homes.in_turn start (sym size));
        each = λ i lt. (
            let is : home_among width new.homes.items i ≡ option_or (says i) (home_among width old.homes.items i) =
            ap (λ (hs : List Home). home_among width hs i) grown.home
            ∙ home_among_push width i old.homes.items here
            ∙ ap (λ m. option_or (place_among width p m n i) (home_among width old.homes.items i)) start in
            elim (cases_lt i t.size) [
              | inl below ↦ is ∙ ap (option_or (says i)) (behind.homes.each i below) ∙ sym (home i)
              | inr from ↦ (
                  let some = place_among_inside width p t.size n i from (omega arith) in
                  is ∙ ap (λ o. option_or o (home_among width old.homes.items i)) some ∙ sym (home i ∙ ap (λ o. option_or o (home_of shape frames i)) some))
            ]);
      };
      folded_is = grown.folded_is ∙ behind.folded_is ∙ sym folded;
      counted = let few = behind.counted in omega arith;
      live_is = grown.live_is ∙ behind.live_is ∙ sym (
          ap (λ m. drop m (changes_of shape (frames ++ f ∷ []))) folded
          ∙ ap (drop t.folded)
          (changes_push shape frames f
          ∙ ap (λ (cs : List Seen). changes_of shape frames ++ cs) (changes_in_group shape (length (text shape frames)) f kind)
          ∙ append-nil (changes_of shape frames)));
      inside = subst (λ (cs : List Seen). AllByRecursion (IsInside (tally_of (frames ++ f ∷ [])).size) cs) (sym grown.live_is)
          (all_map (IsInside t.size) (IsInside (tally_of (frames ++ f ∷ [])).size) old.live.items
          (λ x inside. inside_longer t.size (tally_of (frames ++ f ∷ [])).size (runs_of x.frame) (omega arith) inside)
          behind.inside);
    }

-- ---- a change

pub found_change : {R : Type 0} (form : Encoding R) (frames : List Frame) (seen : Seen) (old new : Found R)
    → kind_of seen.frame ≡ 2 → StandsNext form frames old seen → IsSame old new → new.folded ≡ old.folded
    → new.live.items ≡ old.live.items ++ seen ∷ []
    → IsFound form seen.shape.format (frames ++ seen.frame ∷ []) new
found_change form frames seen old new kind follows same folded_same pushed =
    let f : Frame = seen.frame in
    let format : Format = seen.shape.format in
    let shape : Shape = shape_of format form in
    let behind = follows.behind in
    let t : Tally = tally_of frames in
    let tally = tally_from_push nothing frames f ∙ after_change t f kind in
    let size : (tally_of (frames ++ f ∷ [])).size ≡ t.size = ap (λ x. x.size) tally in
    let folded : (tally_of (frames ++ f ∷ [])).folded ≡ t.folded = ap (λ x. x.folded) tally in
    let changes : (tally_of (frames ++ f ∷ [])).changes ≡ t.changes + 1 = ap (λ x. x.changes) tally in
    let is_shape = same_shape form seen.shape follows.wide in
    let at : seen.at ≡ length (text shape frames) = follows.here ∙ ap (λ s. length (text s frames)) is_shape in
    let one : record { at = length (text shape frames); shape = shape; frame = f } ≡ seen
    = ap (λ n. record { at = n; shape = shape; frame = f }) (sym at)
    ∙ ap (λ s. record { at = seen.at; shape = s; frame = f }) (sym is_shape) in
    let stays = stay_found form format frames f old new (omega (arith, kind)) behind same size in
    let few = behind.counted in
    let counted = changes_counted shape frames in
    record {
      size_is = stays.size_is;
      small = stays.small;
      each = stays.each;
      homes = stays.homes;
      folded_is = folded_same ∙ behind.folded_is ∙ sym folded;
      counted = omega arith;
      live_is = pushed ∙ ap (λ (cs : List Seen). cs ++ seen ∷ []) behind.live_is ∙ sym (
          ap (λ m. drop m (changes_of shape (frames ++ f ∷ []))) folded
          ∙ ap (drop t.folded)
          (changes_push shape frames f
          ∙ ap (λ (cs : List Seen). changes_of shape frames ++ cs) (changes_in_change shape (length (text shape frames)) f kind ∙ ap (λ (x : Seen). x ∷ []) one))
          ∙ drop-append-le t.folded (changes_of shape frames) (seen ∷ []) (omega arith));
      inside = subst (λ (cs : List Seen). AllByRecursion (IsInside (tally_of (frames ++ f ∷ [])).size) cs) (sym pushed)
          (subst (λ m. AllByRecursion (IsInside m) (old.live.items ++ seen ∷ [])) (sym size)
          (all_push (IsInside t.size) old.live.items seen behind.inside (change_inside t f kind follows.may.inside)));
    }

-- ---- a shrink

pub found_shrink : {R : Type 0} (form : Encoding R) (frames : List Frame) (seen : Seen) (old new : Found R) (n : ℕ)
    → seen.frame ≡ Shrink n → StandsNext form frames old seen → IsCut n old new
    → IsFound form seen.shape.format (frames ++ seen.frame ∷ []) new
found_shrink form frames seen old new n frame follows cut =
    let f : Frame = seen.frame in
    let format : Format = seen.shape.format in
    let shape : Shape = shape_of format form in
    let behind = follows.behind in
    let t : Tally = tally_of frames in
    let kind : kind_of f ≡ 3 = ap kind_of frame in
    let tally = tally_from_push nothing frames f ∙ ap (after t) frame in
    let size : (tally_of (frames ++ f ∷ [])).size ≡ n = ap (λ x. x.size) tally in
    let folded : (tally_of (frames ++ f ∷ [])).folded ≡ t.folded = ap (λ x. x.folded) tally in
    let changes : (tally_of (frames ++ f ∷ [])).changes ≡ t.changes = ap (λ x. x.changes) tally in
    let shorter : n ≤ t.size = ltb-false t.size n (sym (ap (is_outside t) frame) ∙ follows.may.inside) in
    let all : t.changes ≤ t.folded = ltb-false t.folded t.changes (sym (ap (is_unfolded t) frame) ∙ follows.may.folded) in
    let len = behind.size_is in
    let cut_len = length-take-le n old.records.items (omega arith) in
    let counted = changes_counted shape frames in
    let none : live_of shape frames ≡ [] = drop_all t.folded (changes_of shape frames) (omega arith) in
    let few = behind.counted in
    record {
      size_is = ap length cut.records_are ∙ cut_len ∙ sym size;
      small = let small = behind.small in omega arith;
      each = λ i lt. kept form format frames f old new i (no_home form.width i (length (text shape frames)) t f (omega (arith, kind)))
          (ap (λ rs. slice_get rs i) cut.records_are ∙ slice_get-take n old.records.items i (omega arith)) (cut.notes_are i (omega arith)) (behind.each i (omega arith));
      homes = homes_kept shape frames f old.homes.items new.homes.items (omega (arith, kind)) (omega arith) behind.homes
          (subst (AreInTurn 0 new.homes.items) (sym size) cut.in_turn)
          (λ i lt. cut.homes_are shape.width i (omega arith));
      folded_is = cut.folded_is ∙ behind.folded_is ∙ sym folded;
      counted = omega arith;
      live_is = cut.live_is ∙ behind.live_is ∙ sym (
          ap (λ m. drop m (changes_of shape (frames ++ f ∷ []))) folded
          ∙ ap (drop t.folded)
          (changes_push shape frames f ∙ ap (λ (g : Frame). changes_of shape frames ++ changes_in shape (length (text shape frames)) g) frame ∙ append-nil (changes_of shape frames)));
      inside = subst (λ (cs : List Seen). AllByRecursion (IsInside (tally_of (frames ++ f ∷ [])).size) cs) (sym (cut.live_is ∙ behind.live_is ∙ none)) tt;
    }

-- ---- a fold

pub fold_bounds : (t : Tally) (f : Frame) (count : ℕ) → f ≡ Fold count → is_miscounted t f ≡ false → (t.folded ≤ count) × (count ≤ t.changes)
fold_bounds t f count frame fits =
    let parts = or_parts (nat_lt count t.folded) (nat_lt t.changes count) (sym (ap (is_miscounted t) frame) ∙ fits) in
    (ltb-false count t.folded parts.0, ltb-false t.changes count parts.1)

pub found_fold : {R : Type 0} (form : Encoding R) (frames : List Frame) (seen : Seen) (old new : Found R) (count : ℕ)
    → seen.frame ≡ Fold count → StandsNext form frames old seen → IsSame old new → new.folded ≡ count
    → new.live.items ≡ drop (count - old.folded) old.live.items
    → IsFound form seen.shape.format (frames ++ seen.frame ∷ []) new
found_fold form frames seen old new count frame follows same folded_now dropped =
    let f : Frame = seen.frame in
    let format : Format = seen.shape.format in
    let shape : Shape = shape_of format form in
    let behind = follows.behind in
    let t : Tally = tally_of frames in
    let kind : kind_of f ≡ 4 = ap kind_of frame in
    let tally = tally_from_push nothing frames f ∙ ap (after t) frame in
    let size : (tally_of (frames ++ f ∷ [])).size ≡ t.size = ap (λ x. x.size) tally in
    let folded : (tally_of (frames ++ f ∷ [])).folded ≡ count = ap (λ x. x.folded) tally in
    let changes : (tally_of (frames ++ f ∷ [])).changes ≡ t.changes = ap (λ x. x.changes) tally in
    let bounds = fold_bounds t f count frame follows.may.counted in
    let low = bounds.0 in
    let high = bounds.1 in
    let was = behind.folded_is in
    let both : t.folded + (count - old.folded) ≡ count = omega arith in
    let stays = stay_found form format frames f old new (omega (arith, kind)) behind same size in
    record {
      size_is = stays.size_is;
      small = stays.small;
      each = stays.each;
      homes = stays.homes;
      folded_is = folded_now ∙ sym folded;
      counted = omega arith;
      live_is =
          dropped
          ∙ ap (drop (count - old.folded)) behind.live_is
          ∙ drop-drop (count - old.folded) t.folded (changes_of shape frames)
          ∙ ap (λ m. drop m (changes_of shape frames)) both
          ∙ sym (
          ap (λ m. drop m (changes_of shape (frames ++ f ∷ []))) folded
          ∙ ap (drop count)
          (changes_push shape frames f ∙ ap (λ (g : Frame). changes_of shape frames ++ changes_in shape (length (text shape frames)) g) frame ∙ append-nil (changes_of shape frames)));
      inside = subst (λ (cs : List Seen). AllByRecursion (IsInside (tally_of (frames ++ f ∷ [])).size) cs) (sym dropped)
          (subst (λ m. AllByRecursion (IsInside m) (drop (count - old.folded) old.live.items)) (sym size) (all_drop (IsInside t.size) (count - old.folded) old.live.items behind.inside));
    }
