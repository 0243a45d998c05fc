use Rattle.std.proofs.Common.{◌≡◌, ◌+◌, ◌-◌, ◌≤◌, ◌<◌, ℕ, ◌++◌, List, [], ◌∷◌, length, take, drop, get_or, refl, sym, ap, subst, ◌∙◌, arith}
use Rattle.std.specs.List.{range_with_len}
use Rattle.std.proofs.lemmas.List.{take_all, take_more, flat_map_more, drop_more}
use Rattle.std.proofs.lemmas.List.Elements.{All-get_or}
use Rattle.pen_core.specs.Covered.{StandApart}
use Rattle.segment_core.specs.Found.{home_among}
use Rattle.pen_core.specs.HomeRuns.{positions_in}
use Rattle.pen_core.proofs.GreatestRuns.{AreRuns-none, AreRuns-to}
use Rattle.pen_core.proofs.home_runs.home_runs.Goals as goal

positions_more : (cover : List (ℕ × ℕ)) (k : ℕ) → k < length cover
    → positions_in (take (k + 1) cover) ≡ positions_in (take k cover) ++ range_with_len (get_or cover k (0, 0)).0
    (get_or cover k (0, 0)).1
positions_more cover k lt =
    ap positions_in (take_more cover k (0, 0) lt)
    ∙ sym (flat_map_more (λ (run : ℕ × ℕ). range_with_len run.0 run.1) [] (take k cover) (get_or cover k (0, 0)))

-- of runs that stand apart the next has a position, and stands apart from those behind it
apart_next : (from : ℕ) (cover : List (ℕ × ℕ)) (k : ℕ) → k < length cover → StandApart from (drop k cover)
    → StandApart from (get_or cover k (0, 0) ∷ drop (k + 1) cover)
apart_next from cover k lt apart = subst (StandApart from) (drop_more cover k (0, 0) lt) apart

-- they stand apart from a lower place on, too
apart_lower : (from lower : ℕ) (runs : List (ℕ × ℕ)) → lower ≤ from → StandApart from runs → StandApart lower runs
apart_lower from lower [] le apart = apart
apart_lower from lower (run ∷ runs) le apart = (omega (arith, apart.0), apart.1, apart.2)

pub loop-k-init : goal.loop-k-init
loop-k-init c = rw c.new-runs.ensures.items record {
  end = 0;
  inside = omega arith;
  positions = refl;
  runs_are = AreRuns-none c.args.width (home_among c.args.width c.args.homes.now);
  left = c.requires.apart;
}

pub append_run-requires-clause-some : goal.append_run-requires-clause-some
append_run-requires-clause-some c =
    let next = apart_next c.loop-k.invariant.end c.args.cover.now c.loop-k.k c.loop-k-test.true c.loop-k.invariant.left in
    omega (arith, next.1)

pub append_run-requires-clause-runs : goal.append_run-requires-clause-runs
append_run-requires-clause-runs c =
    let l = c.loop-k.invariant in
    let next = apart_next l.end c.args.cover.now c.loop-k.k c.loop-k-test.true l.left in
    AreRuns-to c.args.width (home_among c.args.width c.args.homes.now) l.end (get_or c.args.cover.now c.loop-k.k (0, 0)).0 c.loop-k.runs.items next.0 l.runs_are

pub loop-k-preserved : goal.loop-k-preserved
loop-k-preserved c =
    let cover = c.args.cover.now in
    let k = c.loop-k.k in
    let run = get_or cover k (0, 0) in
    let l = c.loop-k.invariant in
    let next = apart_next l.end cover k c.loop-k-test.true l.left in
    let inside = All-get_or (λ (r : ℕ × ℕ). r.0 + r.1 ≤ c.args.size) cover k (0, 0) c.loop-k-test.true c.requires.inside in
    let count : run.0 + run.1 - run.0 ≡ run.1 = omega arith in
    let made = c.in_ok-append_run.ensures in
    record {
      end = run.0 + run.1;
      inside = inside;
      positions =
          made.positions ∙ ap (λ ps. ps ++ range_with_len run.0 (run.0 + run.1 - run.0)) l.positions
          ∙ ap (λ n. positions_in (take k cover) ++ range_with_len run.0 n) count
          ∙ sym (positions_more cover k c.loop-k-test.true);
      runs_are = made.runs;
      left = apart_lower (run.0 + run.1 + 1) (run.0 + run.1) (drop (k + 1) cover) (omega arith) next.2;
    }

pub returns : goal.returns
returns c =
    let l = c.loop-k.invariant in
    record {
      positions_are = l.positions ∙ ap positions_in (take_all c.loop-k.k c.args.cover.now c.loop-k-test.false);
      runs_are = AreRuns-to c.args.width (home_among c.args.width c.args.homes.now) l.end c.args.size c.loop-k.runs.items l.inside l.runs_are;
    }
