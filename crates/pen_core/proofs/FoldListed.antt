-- A fold that is begun, by a pen's fields: what its calls ask for, and what it knows of its disk.
use Rattle.std.proofs.Common.{◌≡◌, ℕ, ◌≤◌, ◌<◌, ◌^◌, true, List, [], ◌∷◌, length, map, take, All, sym, ap, subst, ◌∙◌, arith}
use Rattle.std.specs.List.{AllByRecursion}
use Rattle.std.proofs.lemmas.List.{length-append, take_at}
use Rattle.disk_core.specs.State.{State, now}
use Rattle.record_core.specs.Bytes.{Encoding}
use Rattle.segment_core.specs.declared.found.Home.{Home}
use Rattle.segment_core.specs.declared.found.Homes.{Homes}
use Rattle.segment_core.specs.Frame.{Frame}
use Rattle.segment_core.specs.Raw.{raw}
use Rattle.segment_core.specs.Blanked.{all_blanked}
use Rattle.pen_core.specs.declared.fold.Write.{Write}
use Rattle.pen_core.specs.declared.fold.Fold.{Fold}
use Rattle.pen_core.specs.Covered.{covers, IsCover}
use Rattle.pen_core.specs.Folds.{IsFolding, IsWholeFold}
use Rattle.pen_core.specs.Held.{HoldsFrames}
use Rattle.pen_core.specs.HomeRuns.{home_span, AreHomeRuns}
use Rattle.pen_core.specs.InHand.{frame_in_hand, write_of, IsPlanned}
use Rattle.pen_core.specs.Listed.{live_runs, runs_ahead, HasLists}
use Rattle.pen_core.specs.Values.{writes_for}
use Rattle.pen_core.specs.PenLog.{PenLog, frames_read, vector_read}
use Rattle.pen_core.proofs.FoldBegun.{IsFolding-begun, IsWholeFold-begun}
use Rattle.pen_core.proofs.HomeRows.{SaysHomes}
use Rattle.pen_core.proofs.FoldPlanned.{writes_for-raw, ArePlanned-begun}
use Rattle.pen_core.proofs.HomesTo.{SaysHomes-listed}
use Rattle.pen_core.proofs.LiveRuns.{HasSome, EndsBy, live_runs_some, live_runs_small, cover_inside, live_runs_cover}
use Rattle.pen_core.proofs.RunPositions.{covers-home_runs}
use Rattle.pen_core.proofs.WritesFor.{Within}

module _ {keeps : Type 0} {states : List State} {log : PenLog} {homes : Homes} {live : ℕ} {fold : Fold}
    (listed : HasLists keeps states log homes live fold) where
  abbrev frames : List Frame
  frames = listed.frames

  -- the runs of the live changes of the file, without those of a job in hand
  abbrev runs_now : List (ℕ × ℕ)
  runs_now = take live homes.live.items

  runs_are : runs_now ≡ live_runs log.shape frames
  runs_are =
      ap (take live) listed.lists.live_is
      ∙ take_at (live_runs log.shape frames) (runs_ahead (frame_in_hand log.shape log.bytes log.step)) live (sym listed.lists.counted)

  pub some_live : All HasSome runs_now
  some_live = subst (All HasSome) (sym runs_are) (live_runs_some log.shape frames listed.legal)

  pub small_live : All (EndsBy (2 ^ 32)) runs_now
  small_live = subst (All (EndsBy (2 ^ 32))) (sym runs_are) (live_runs_small log.shape frames listed.legal)

  pub live_inside : live ≤ length homes.live.items
  live_inside =
      omega (
        arith,
        listed.lists.counted,
        ap length listed.lists.live_is,
        length-append (live_runs log.shape frames) (runs_ahead (frame_in_hand log.shape log.bytes log.step)),
      )

  pub says_homes : SaysHomes log.shape frames homes.homes.items
  says_homes = SaysHomes-listed log.shape frames (frame_in_hand log.shape log.bytes log.step) homes live listed.lists

  module _ (cover : List (ℕ × ℕ)) (is : IsCover runs_now cover) where
    abbrev file_cover : IsCover (live_runs log.shape frames) cover
    file_cover = subst (λ runs. IsCover runs cover) runs_are is

    pub inside_cover : All (EndsBy log.tally.size) cover
    inside_cover = subst (λ t. All (EndsBy t.size) cover) (sym listed.tally_is) (cover_inside log.shape frames cover listed.legal file_cover)

    module _ (runs : List Home) (at : AreHomeRuns log.shape.width log.tally.size homes.homes.items cover runs) where
      -- while a change is live there is something to write
      pub some_runs : log.tally.folded < log.tally.changes → 0 < length runs
      some_runs live_change =
          let first = live_runs_cover log.shape frames listed.legal (subst (λ t. t.folded < t.changes) listed.tally_is live_change) in
          there runs first.0 (covers-home_runs log.shape.width log.tally.size homes.homes.items cover runs first.0 at ∙ file_cover.same first.0 ∙ first.1)
        where
          there : (found : List Home) (i : ℕ) → covers i (map home_span found) ≡ true → 0 < length found
          there [] i covered = absurd cc
          there (run ∷ found) i covered = omega arith

      pub IsFolding-pen : keeps → 0 < log.shape.width
          → HoldsFrames log.shape (frames_read states log) (vector_read states log) (now states).seen
          → IsFolding log.shape log.tally.changes (frames_read states log)
          (vector_read states log)
          (writes_for (raw log.shape.width) (vector_read states log) runs) (now states)
      IsFolding-pen model some has =
          let vector : List (List ℕ) = vector_read states log in
          let same = listed.same model in
          let here = subst (λ t. AreHomeRuns log.shape.width t.size homes.homes.items cover runs) listed.tally_is at in
          subst (λ fs. IsFolding log.shape log.tally.changes fs vector (writes_for (raw log.shape.width) vector runs) (now states)) (sym same)
          (subst (λ t. IsFolding log.shape t.changes (all_blanked frames) vector (writes_for (raw log.shape.width) vector runs) (now states)) (sym listed.tally_is)
          (IsFolding-begun log.shape frames vector homes.homes.items cover runs (now states) some
          (subst (λ fs. HoldsFrames log.shape fs vector (now states).seen) same has) says_homes file_cover here))

      IsWholeFold-pen : keeps → 0 < log.shape.width
          → HoldsFrames log.shape (frames_read states log) (vector_read states log) (now states).seen
          → IsWholeFold log.shape (frames_read states log) (vector_read states log)
          (writes_for (raw log.shape.width) (vector_read states log) runs)
      IsWholeFold-pen model some has =
          let vector : List (List ℕ) = vector_read states log in
          let same = listed.same model in
          let here = subst (λ t. AreHomeRuns log.shape.width t.size homes.homes.items cover runs) listed.tally_is at in
          subst (λ fs. IsWholeFold log.shape fs vector (writes_for (raw log.shape.width) vector runs)) (sym same)
          (IsWholeFold-begun log.shape frames vector homes.homes.items cover runs (now states) some
          (subst (λ fs. HoldsFrames log.shape fs vector (now states).seen) same has) says_homes file_cover here)

      module _ {R : Type 0} (form : Encoding R) (records : List R) (made : List ℕ) (writes : List Write)
          (some : 0 < log.shape.width) (made_is : map (write_of made) writes ≡ writes_for form records runs) where
        pub planned_pen : ((r : R) → length (form.bytes_of r) ≡ log.shape.width) → length records ≡ log.tally.size
            → All (Within (length made)) writes → AllByRecursion (IsPlanned log.gate (length made)) writes
        planned_pen each size within =
            let here = subst (λ t. AreHomeRuns log.shape.width t.size homes.homes.items cover runs) listed.tally_is at in
            subst (λ g. AllByRecursion (IsPlanned g (length made)) writes) (sym listed.gate_is)
            (ArePlanned-begun form log.shape frames homes.homes.items cover runs records made writes some each listed.legal
            says_homes here (size ∙ ap (λ t. t.size) listed.tally_is) made_is within)

        -- the vector is these records, as their bytes
        made_of_vector : vector_read states log ≡ map form.bytes_of records
            → map (write_of made) writes ≡ writes_for (raw log.shape.width) (vector_read states log) runs
        made_of_vector same = made_is ∙ writes_for-raw form log.shape.width records runs ∙ ap (λ cells. writes_for (raw log.shape.width) cells runs) (sym same)

        pub folding_pen : keeps
            → HoldsFrames log.shape (frames_read states log) (vector_read states log)
            (now states).seen
            → vector_read states log ≡ map form.bytes_of records
            → IsFolding log.shape log.tally.changes (frames_read states log)
            (vector_read states log) (map (write_of made) writes) (now states)
        folding_pen model has same =
            subst
            (λ left.
            IsFolding log.shape log.tally.changes (frames_read states log)
            (vector_read states log) left (now states))
            (sym (made_of_vector same)) (IsFolding-pen model some has)

        pub whole_pen : keeps
            → HoldsFrames log.shape (frames_read states log) (vector_read states log)
            (now states).seen
            → vector_read states log ≡ map form.bytes_of records
            → IsWholeFold log.shape (frames_read states log) (vector_read states log) (map (write_of made) writes)
        whole_pen model has same =
            subst
            (IsWholeFold log.shape (frames_read states log)
            (vector_read states log))
            (sym (made_of_vector same)) (IsWholeFold-pen model some has)
