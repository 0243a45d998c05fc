-- What the definitions of growths that stand allow and rule out, on disks of one or two states.
use Rattle.std.proofs.Common.{◌≡◌, ℕ, zero, suc, ◌+◌, ◌<◌, ◌≤◌, List, [], ◌∷◌, ◌++◌, length, take, All, Some, refl, ap, subst, ◌∙◌, arith}
use Rattle.std.specs.Prelude.{slice_get}
use Rattle.std.proofs.lemmas.List.{length-append}
use Rattle.std.proofs.lemmas.List.Elements.{All-nil, All-cons}
use Rattle.record_core.specs.Bytes.{Encoding}
use Rattle.disk_core.proofs.ImageLemmas.{settled_image}
use Rattle.segment_core.specs.Written as lists
use Rattle.block_core.specs.Growth.{Growth}
use Rattle.directory_core.specs.Chain.{IsNextGrowth, grown_records}
use Rattle.book_core.specs.Lists.{own_of}
use Rattle.vault_core.specs.Sharing.{OpensToGrown}
use Rattle.files_core.specs.declared.appended.Appended.{Appended}
use Rattle.files_core.proofs.WorkedDisks.{Disk, ThreeFiles, itself, known, as_long, old, later, still, past_two, leaves_one, never_two, none_before, opens_then}
use Rattle.load_core.specs.Appending.{GrowthsStand}
use Rattle.load_core.specs.Groups.{OpensToFront}
use Rattle.load_core.specs.Dealt.{dealt}
use Rattle.load_core.specs.Loading.{AllMade, AreDealt, IsLoaded, MayAppend}
use Rattle.load_core.proofs.OneGrower.{all_in_phases, each_records}

abbrev told : ℕ → ℕ → ℕ → Appended
told growths lines size = record { growths = growths; lines = lines; size = size }

module _ {R : Type 0} {form : Encoding R} {r : R} (files : ThreeFiles form r) where
  -- ---- growths that stand

  abbrev one : List (List R)
  one = (r ∷ []) ∷ []

  abbrev Stand : Disk → Appended → List (List R) → List (List R) → Type 0
  Stand left appended made more = GrowthsStand form itself (old files) left appended made more

  one_stands : Stand (later files) (told 1 1 1) one []
  one_stands = record {
    was = [];
    file = files.opens_none;
    images = leaves_one files (OpensToFront form [] one) (record { count = 1; known = omega arith; opens = files.opens_one });
    settled = λ image is. record { count = 0; known = omega arith; opens = opens_then files image is };
    size_is = refl;
    growths_are = refl;
  }

  -- one that was begun may stand, or not
  one_may_stand : Stand (later files) (told 0 0 0) [] one
  one_may_stand = record {
    was = [];
    file = files.opens_none;
    images = leaves_one files (OpensToFront form [] one) (record { count = 1; known = omega arith; opens = files.opens_one });
    settled = λ image is. record { count = 1; known = omega arith; opens = opens_then files image is };
    size_is = refl;
    growths_are = refl;
  }

  -- one that is told stands in each image
  not_lost : (lines : ℕ) → Stand (still files) (told 1 lines 1) one [] → ⊥
  not_lost lines stands =
      let front = stands.settled files.none (settled_image files.none) in
      let long = as_long files files.none ((stands.was ++ (r ∷ [])) ++ lists.joined (take front.count [])) [] front.opens files.opens_none in
      omega (arith, long, length-append (stands.was ++ (r ∷ [])) (lists.joined (take front.count [])), length-append stands.was (r ∷ []))

  -- none stands that wasn't made
  front_long : (was : List R) (count : ℕ) → count ≤ 1 → length was ≡ 0 → length (was ++ lists.joined (take count one)) ≤ 1
  front_long was zero within empty = omega (arith, length-append was [], empty)
  front_long was (suc zero) within empty = omega (arith, length-append was (r ∷ []), empty)
  front_long was (suc (suc count)) within empty = absurd (omega (arith, within))

  not_two : (was : List R) → length was ≡ 0 → OpensToFront form was one files.two → ⊥
  not_two was empty front =
      omega (arith, as_long files files.two (was ++ lists.joined (take front.count one)) (r ∷ r ∷ []) front.opens files.opens_two, front_long was front.count front.known empty)

  not_past_two : Stand (past_two files) (told 1 1 1) one [] → ⊥
  not_past_two stands = never_two files (OpensToFront form stands.was one) (not_two stands.was (none_before files stands.was stands.file)) stands.images

  none_more : (count : ℕ) → length (lists.joined (take {A = List R} count [])) ≡ 0
  none_more zero = refl
  none_more (suc count) = refl

  not_unmade : Stand (later files) (told 0 0 0) [] [] → ⊥
  not_unmade stands =
      let front = stands.settled files.one (settled_image files.one) in
      omega (
        arith,
        as_long files files.one ((stands.was ++ []) ++ lists.joined (take front.count [])) (r ∷ []) front.opens files.opens_one,
        length-append (stands.was ++ []) (lists.joined (take front.count [])),
        length-append stands.was [],
        none_before files stands.was stands.file,
        none_more front.count,
      )

  -- and what is told is that
  told_right : (growths lines size : ℕ) → Stand (later files) (told growths lines size) one [] → (growths ≡ 1) × (size ≡ 1)
  told_right growths lines size stands =
      (stands.growths_are, stands.size_is ∙ length-append stands.was (r ∷ []) ∙ ap (λ n. n + 1) (none_before files stands.was stands.file))

  -- ---- growths that were loaded

  abbrev growth : Growth R
  growth = record { number = 0; start = 0; seat = 0; serial = 0; records = r ∷ [] }

  abbrev Loaded : Disk → ℕ → Type 0
  Loaded left size = IsLoaded form known itself ((r ∷ []) ∷ []) 1 (old files) left (told 1 1 size)

  one_loaded : Loaded (later files) 1
  one_loaded = record {
    was = [];
    phases = (growth ∷ []) ∷ [];
    told = record { made_by = (dealt_are, all, refl); growths_are = refl; lines_are = refl; size_is = refl };
    stands = λ model. record {
      file = files.opens_none;
      images = leaves_one files (OpensToGrown form [] (growth ∷ [])) (record { count = 1; known = omega arith; opens = files.opens_one });
      settled = opens_then files;
    };
  }
    where
      chained : (g : ℕ) (e : Growth R) → slice_get (growth ∷ []) g ≡ Some e → IsNextGrowth (take g (growth ∷ [])) e
      chained zero e at = let same : growth ≡ e = cc in subst (IsNextGrowth []) same (record { number = refl; start = refl })
      chained (suc g) e at = absurd cc

      by_growers : All (λ (e : Growth R). e.seat < 1) (growth ∷ [])
      by_growers = All-cons (λ (e : Growth R). e.seat < 1) growth [] (omega arith) (All-nil (λ (e : Growth R). e.seat < 1))

      records_are : (grower j : ℕ) (e : Growth R) → grower < 1 → slice_get (own_of grower (growth ∷ [])) j ≡ Some e → e.records ≡ dealt ((r ∷ []) ∷ []) 1 grower j
      records_are zero zero e lt at = let same : e ≡ growth = cc in ap (λ (g : Growth R). g.records) same
      records_are zero (suc j) e lt at = absurd cc
      records_are (suc grower) j e lt at = absurd (omega (arith, lt))

      dealt_are : AreDealt ((r ∷ []) ∷ []) 1 (growth ∷ [])
      dealt_are = record { chained = chained; by_growers = by_growers; records_are = records_are }

      all : AllMade ((r ∷ []) ∷ []) 1 (growth ∷ [])
      all zero lt = refl
      all (suc grower) lt = absurd (omega (arith, lt))

  chain_records : (made : List (Growth R)) → grown_records made ≡ lists.joined (each_records made)
  chain_records [] = refl
  chain_records (e ∷ made) = ap (λ rs. e.records ++ rs) (chain_records made)

  loaded_long : (left : Disk) (size : ℕ) (loaded : Loaded left size) → length (loaded.was ++ grown_records (lists.joined loaded.phases)) ≡ 1
  loaded_long left size loaded =
      let made = lists.joined loaded.phases in
      let records : grown_records made ≡ r ∷ [] = chain_records made ∙ ap lists.joined (all_in_phases ((r ∷ []) ∷ []) loaded.phases loaded.told.made_by) in
      let was = none_before files loaded.was (loaded.stands tt).file in
      omega (arith, length-append loaded.was (grown_records made), ap length records, was)

  loaded_right : (size : ℕ) → Loaded (later files) size → size ≡ 1
  loaded_right size loaded = loaded.told.size_is ∙ loaded_long (later files) size loaded

  not_loaded_lost : (size : ℕ) → Loaded (still files) size → ⊥
  not_loaded_lost size loaded =
      let opens = (loaded.stands tt).settled files.none (settled_image files.none) in
      omega (arith, loaded_long (still files) size loaded, as_long files files.none (loaded.was ++ grown_records (lists.joined loaded.phases)) [] opens files.opens_none)

  -- ---- a phase that was refused

  -- what it has begun may stand
  one_may_append : MayAppend form itself (old files) (later files) [] [] (growth ∷ [])
  one_may_append = record {
    file = files.opens_none;
    images = leaves_one files (OpensToGrown form [] (growth ∷ [])) (record { count = 1; known = omega arith; opens = files.opens_one });
    settled = λ some image is. absurd (omega (arith, some));
  }

  -- what a phase before it has made isn't lost
  no_phase_lost : (made : List (Growth R)) → MayAppend form itself (old files) (still files) [] ((growth ∷ []) ∷ []) made → ⊥
  no_phase_lost made may =
      let front = may.settled (omega arith) files.none (settled_image files.none) in
      omega (arith, as_long files files.none ((r ∷ []) ++ grown_records (take front.count made)) [] front.opens files.opens_none)
