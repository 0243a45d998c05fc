-- Where the records of one frame more stand.
use Rattle.std.proofs.Common.{◌≡◌, ℕ, zero, suc, ◌+◌, ◌-◌, ◌*◌, ◌≤◌, ◌<◌, List, [], ◌∷◌, ◌++◌, length, map, take, drop, sum, Some, None, refl, sym, ap, subst, ◌∙◌, arith}
use Rattle.std.specs.Prelude.{slice_get}
use Rattle.std.specs.List.{flat_map}
use Rattle.std.proofs.lemmas.List.{map_push, take_more}
use Rattle.std.proofs.lemmas.Nat.{mul-le}
use Rattle.std.proofs.lemmas.Option.{slice_get_within, get_or_from_slice_get}
use Rattle.std.proofs.lemmas.Bool.{ltb-false}
use Rattle.segment_core.specs.declared.format.Shape.{Shape}
use Rattle.segment_core.specs.declared.found.Home.{Home}
use Rattle.segment_core.specs.declared.places.Places.{Places}
use Rattle.segment_core.specs.declared.tally.Tally.{Tally}
use Rattle.segment_core.specs.Frame.{Run, Frame, Group, Change, Shrink, Fold, kind_of, records_of_runs, text}
use Rattle.segment_core.specs.Tally.{after, tally_of, is_outside}
use Rattle.segment_core.specs.Vector.{home_in}
use Rattle.segment_core.specs.Layout.{IsFrame}
use Rattle.segment_core.specs.Reading.{Seen, runs_of, record_bytes_of, record_count}
use Rattle.segment_core.specs.Found.{AreHomes, AreInTurn, home_among, first_record_of, live_of, pairs_of}
use Rattle.segment_core.specs.FrameWalk.{with_records, homes_of_runs, homes_of_change, extent_of, live_homes, ArePlaces, MayCome}
use Rattle.segment_core.proofs.FrameParts.{records_filled, records_of_runs-cons}
use Rattle.segment_core.proofs.RunRows.{records_of_runs_push}
use Rattle.segment_core.proofs.FoundLaid.{records_of_runs-take, runs_fill}
use Rattle.segment_core.proofs.FoundSteps.{fold_bounds}
use Rattle.segment_core.proofs.HomesPush.{AreHomes_group, AreHomes_same, live_of_same, live_of_change, live_of_fold}

-- ---- runs

pub homes_of_runs_push : (width place : ℕ) (runs : List Run) (run : Run)
    → homes_of_runs width place (runs ++ run ∷ []) ≡ homes_of_runs width place runs ++ record { position = run.start; place = place + records_of_runs runs * width; count = run.count } ∷ []
homes_of_runs_push width place [] run = let here : place ≡ place + 0 * width = omega arith in ap (λ n. record { position = run.start; place = n; count = run.count } ∷ []) here
homes_of_runs_push width place (first ∷ runs) run =
    let all = records_of_runs-cons first runs in
    let split : place + first.count * width + records_of_runs runs * width ≡ place + (first.count + records_of_runs runs) * width = omega arith in
    let here : Home = record { position = first.start; place = place; count = first.count } in
    ap (λ (hs : List Home). here ∷ hs) (homes_of_runs_push width (place + first.count * width) runs run)
    ∙ ap (λ n. here ∷ (homes_of_runs width (place + first.count * width) runs ++ record { position = run.start; place = n; count = run.count } ∷ []))
    (split ∙ ap (λ n. place + n * width) (sym all))

-- run k of a frame has its records among the frame's, behind those of the runs before it
pub record RunEnds (width k : ℕ) (f : Frame) (run : Run) : Type 0 where
  pub more : take (k + 1) (runs_of f) ≡ take k (runs_of f) ++ run ∷ []
  pub next : records_of_runs (take k (runs_of f)) * width + run.count * width ≡ records_of_runs (take (k + 1) (runs_of f)) * width
  pub inside : records_of_runs (take (k + 1) (runs_of f)) * width ≤ length (record_bytes_of f)

pub run_ends : (shape : Shape) (k : ℕ) (f : Frame) (run : Run) → IsFrame shape f → slice_get (runs_of f) k ≡ Some run → RunEnds shape.width k f run
run_ends shape k f run whole told =
    let runs : List Run = runs_of f in
    let width : ℕ = shape.width in
    let lt = slice_get_within runs k run told in
    let more : take (k + 1) runs ≡ take k runs ++ run ∷ [] = take_more runs k run lt ∙ ap (λ r. take k runs ++ r ∷ []) (get_or_from_slice_get runs k run run told) in
    let sum : records_of_runs (take (k + 1) runs) ≡ records_of_runs (take k runs) + run.count = ap records_of_runs more ∙ records_of_runs_push (take k runs) run in
    let split : (records_of_runs (take k runs) + run.count) * width ≡ records_of_runs (take k runs) * width + run.count * width = omega arith in
    let filled = records_filled shape f whole.layout in
    let some = records_of_runs-take (k + 1) runs in
    let fill = runs_fill f in
    let below : records_of_runs (take (k + 1) runs) * width ≤ record_count f * width = mul-le (records_of_runs (take (k + 1) runs)) width (record_count f) width (omega arith) (omega arith) in
    record { more = more; next = sym split ∙ ap (λ n. n * width) (sym sum); inside = omega arith }

-- ---- a list of lists

map_drop : {X Y : Type 0} (f : X → Y) (n : ℕ) (xs : List X) → map f (drop n xs) ≡ drop n (map f xs)
map_drop f zero xs = refl
map_drop f (suc n) [] = refl
map_drop f (suc n) (x ∷ xs) = map_drop f n xs

map_append : {X Y : Type 0} (f : X → Y) (xs ys : List X) → map f (xs ++ ys) ≡ map f xs ++ map f ys
map_append f [] ys = refl
map_append f (x ∷ xs) ys = ap (λ rest. f x ∷ rest) (map_append f xs ys)

flat_map_same : {X Y Z : Type 0} (f : X → List Z) (g : Y → List Z) (xs : List X) (ys : List Y) → map f xs ≡ map g ys → flat_map f xs ≡ flat_map g ys
flat_map_same f g [] [] same = refl
flat_map_same f g [] (y ∷ ys) same = absurd cc
flat_map_same f g (x ∷ xs) [] same = absurd cc
flat_map_same f g (x ∷ xs) (y ∷ ys) same =
    let first : f x ≡ g y = cc in
    let rest : map f xs ≡ map g ys = cc in
    ap (λ zs. zs ++ flat_map f xs) first ∙ ap (λ zs. g y ++ zs) (flat_map_same f g xs ys rest)

-- ---- all live changes

extents_of_runs : (width place : ℕ) (runs : List Run) → map extent_of (homes_of_runs width place runs) ≡ map (λ run. (run.start, run.count)) runs
extents_of_runs width place [] = refl
extents_of_runs width place (run ∷ runs) = ap (λ rest. (run.start, run.count) ∷ rest) (extents_of_runs width (place + run.count * width) runs)

extents_of_changes : (changes : List Seen) → map extent_of (flat_map homes_of_change changes) ≡ flat_map pairs_of changes
extents_of_changes [] = refl
extents_of_changes (change ∷ changes) =
    map_append extent_of (homes_of_change change) (flat_map homes_of_change changes)
    ∙ ap (λ ps. ps ++ map extent_of (flat_map homes_of_change changes)) (extents_of_runs change.shape.width (first_record_of change) (runs_of change.frame))
    ∙ ap (λ ps. pairs_of change ++ ps) (extents_of_changes changes)

pub all_live : (shape : Shape) (frames : List Frame) (places : Places) → ArePlaces shape frames places → flat_map (λ runs. runs.items) places.live.items ≡ live_homes shape frames
all_live shape frames places are = flat_map_same (λ runs. runs.items) homes_of_change places.live.items (live_of shape frames) are.live_are

pub live_extents : (shape : Shape) (frames : List Frame) → map extent_of (live_homes shape frames) ≡ flat_map pairs_of (live_of shape frames)
live_extents shape frames = extents_of_changes (live_of shape frames)

-- ---- one frame more

module _ (frames : List Frame) (old new : Places) (tally : Tally) (seen : Seen) (bytes : List ℕ) (comes : MayCome frames old tally seen) where
  abbrev shape : Shape
  shape = seen.shape

  abbrev next : List Frame
  next = frames ++ with_records seen.frame bytes ∷ []

  pub placed_group : kind_of seen.frame ≡ 1
      → new.homes.items ≡ old.homes.items ++ record { position = tally.size; place = first_record_of seen; count = record_count seen.frame } ∷ []
      → new.live.items ≡ old.live.items → ArePlaces shape next new
  placed_group kind homes live = by_frame seen.frame refl kind
    where
      by_frame : (f : Frame) → f ≡ seen.frame → kind_of f ≡ 1 → ArePlaces shape (frames ++ with_records f bytes ∷ []) new
      by_frame (Group lengths own) is kind =
          let at = comes.here in
          let place : first_record_of seen ≡ length (text shape frames) + 10 + length lengths * 4
          = ap (λ g. first_record_of (record { at = seen.at; shape = shape; frame = g })) (sym is) ∙ omega arith in
          let entered : record { position = tally.size; place = first_record_of seen; count = record_count seen.frame }
          ≡ record { position = (tally_of frames).size; place = length (text shape frames) + 10 + length lengths * 4; count = sum lengths }
          = ap (λ n. record { position = n; place = first_record_of seen; count = record_count seen.frame }) (ap (λ t. t.size) comes.tally_is)
          ∙ ap (λ n. record { position = (tally_of frames).size; place = n; count = record_count seen.frame }) place
          ∙ ap (λ g. record { position = (tally_of frames).size; place = length (text shape frames) + 10 + length lengths * 4; count = record_count g }) (sym is) in
          record {
            homes_are = subst (AreHomes shape (frames ++ Group lengths bytes ∷ [])) (sym (homes ∙ ap (λ h. old.homes.items ++ h ∷ []) entered))
                (AreHomes_group shape frames lengths bytes old.homes.items comes.places_are.homes_are);
            live_are = ap (map (λ runs. runs.items)) live ∙ comes.places_are.live_are ∙ ap (map homes_of_change) (sym (live_of_same shape frames (Group lengths bytes) (λ p. refl) refl));
          }
      by_frame (Change runs own) is kind = absurd (omega arith)
      by_frame (Shrink n) is kind = absurd (omega arith)
      by_frame (Fold count) is kind = absurd (omega arith)

  -- homes that say the same of as many positions
  homes_same : (f : Frame) → ((i p : ℕ) (t : Tally) → home_in shape.width i p t f ≡ None) → (after (tally_of frames) f).size ≡ (tally_of frames).size
      → new.homes.items ≡ old.homes.items → AreHomes shape (frames ++ f ∷ []) new.homes.items
  homes_same f none size homes =
      let has = comes.places_are.homes_are in
      AreHomes_same shape frames f old.homes.items new.homes.items none (omega arith) has
      (subst (λ (hs : List Home). AreInTurn 0 hs (after (tally_of frames) f).size) (sym homes) (subst (AreInTurn 0 old.homes.items) (sym size) has.in_turn))
      (λ i lt. ap (λ (hs : List Home). home_among shape.width hs i) homes)

  pub placed_change : kind_of seen.frame ≡ 2 → new.homes.items ≡ old.homes.items
      → map (λ runs. runs.items) new.live.items ≡ map (λ runs. runs.items) old.live.items ++ homes_of_change seen ∷ [] → ArePlaces shape next new
  placed_change kind homes live = by_frame seen.frame refl kind
    where
      by_frame : (f : Frame) → f ≡ seen.frame → kind_of f ≡ 2 → ArePlaces shape (frames ++ with_records f bytes ∷ []) new
      by_frame (Change runs own) is kind =
          let counted = comes.counted in
          let tally_is = comes.tally_is in
          let few : (tally_of frames).folded ≤ (tally_of frames).changes = subst (λ (t : Tally). t.folded ≤ t.changes) tally_is counted in
          let change : Seen = record { at = length (text shape frames); shape = shape; frame = Change runs bytes } in
          let same : homes_of_change seen ≡ homes_of_change change
          = ap (λ g. homes_of_change (record { at = seen.at; shape = shape; frame = g })) (sym is)
          ∙ ap (λ n. homes_of_change (record { at = n; shape = shape; frame = Change runs own })) comes.here in
          record {
            homes_are = homes_same (Change runs bytes) (λ i p t. refl) refl homes;
            live_are =
                live ∙ ap (λ hs. hs ++ homes_of_change seen ∷ []) comes.places_are.live_are ∙ ap (λ h. map homes_of_change (live_of shape frames) ++ h ∷ []) same
                ∙ sym (map_push homes_of_change (live_of shape frames) change)
                ∙ ap (map homes_of_change) (sym (live_of_change shape frames runs bytes few));
          }
      by_frame (Group lengths own) is kind = absurd (omega arith)
      by_frame (Shrink n) is kind = absurd (omega arith)
      by_frame (Fold count) is kind = absurd (omega arith)

  pub placed_shrink : (n : ℕ) → seen.frame ≡ Shrink n → AreInTurn 0 new.homes.items n
      → ((width i : ℕ) → i < n → home_among width new.homes.items i ≡ home_among width old.homes.items i)
      → new.live.items ≡ old.live.items → ArePlaces shape next new
  placed_shrink n is turn each live =
      let f : Frame = Shrink n in
      let shorter : n ≤ tally.size = ltb-false tally.size n (sym (ap (λ g. is_outside tally g) is) ∙ comes.may.inside) in
      let size = ap (λ t. t.size) comes.tally_is in
      subst (λ g. ArePlaces shape (frames ++ with_records g bytes ∷ []) new) (sym is) (record {
        homes_are = AreHomes_same shape frames f old.homes.items new.homes.items (λ i p t. refl) (omega arith) comes.places_are.homes_are turn (λ i lt. each shape.width i lt);
        live_are = ap (map (λ runs. runs.items)) live ∙ comes.places_are.live_are ∙ ap (map homes_of_change) (sym (live_of_same shape frames f (λ p. refl) refl));
      })

  pub placed_fold : (count : ℕ) → seen.frame ≡ Fold count → new.homes.items ≡ old.homes.items
      → new.live.items ≡ drop (count - tally.folded) old.live.items → ArePlaces shape next new
  placed_fold count is homes live =
      let f : Frame = Fold count in
      let bounds = fold_bounds tally seen.frame count is comes.may.counted in
      let folded : tally.folded ≡ (tally_of frames).folded = ap (λ t. t.folded) comes.tally_is in
      let from = bounds.0 in
      subst (λ g. ArePlaces shape (frames ++ with_records g bytes ∷ []) new) (sym is) (record {
        homes_are = homes_same f (λ i p t. refl) refl homes;
        live_are =
            ap (map (λ runs. runs.items)) live ∙ map_drop (λ runs. runs.items) (count - tally.folded) old.live.items
            ∙ ap (drop (count - tally.folded)) comes.places_are.live_are
            ∙ sym (map_drop homes_of_change (count - tally.folded) (live_of shape frames))
            ∙ ap (λ n. map homes_of_change (drop (count - n) (live_of shape frames))) folded
            ∙ ap (map homes_of_change) (sym (live_of_fold shape frames count (omega arith)));
      })
