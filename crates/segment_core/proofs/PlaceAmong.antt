-- Where among records in a row one stands, and among those of runs.
use Rattle.std.proofs.Common.{◌≡◌, ℕ, ◌+◌, ◌-◌, ◌*◌, ◌≤◌, ◌<◌, true, cond, List, [], ◌∷◌, Some, None, sym, ap, ◌∙◌, arith, inl, inr}
use Rattle.std.specs.Prelude.{nat_le, nat_lt, ◌&&◌}
use Rattle.std.specs.List.{list_all}
use Rattle.std.proofs.lemmas.Bool.{and_parts, and_from, and_left, and_right, leb-true, ltb-true, le-leb, lt-leb, lt-ltb, le-ltb}
use Rattle.std.proofs.lemmas.Nat.{row_fits}
use Rattle.std.proofs.Math.Nat.{add-mul}
use Rattle.std.proofs.lemmas.Option.{cond_some}
use Rattle.segment_core.specs.Frame.{Run, records_of_runs}
use Rattle.segment_core.specs.Tally.{are_inside}
use Rattle.segment_core.specs.Vector.{place_among, place_in_runs}
use Rattle.segment_core.proofs.FrameParts.{records_of_runs-cons}
use Rattle.segment_core.proofs.LastFrom.{option_or_cases}

-- the place of position i among the records of count positions from start on
pub record IsAmong (width p start count i place : ℕ) : Type 0 where
  pub from : start ≤ i
  pub before : i < start + count
  pub at : place ≡ p + (i - start) * width

pub place_among_some : (width p start count i place : ℕ) → place_among width p start count i ≡ Some place → IsAmong width p start count i place
place_among_some width p start count i place is =
    let parts = cond_some (nat_le start i && nat_lt i (start + count)) (p + (i - start) * width) place is in
    let both = and_parts (nat_le start i) (nat_lt i (start + count)) parts.0 in
    record { from = leb-true start i both.0; before = ltb-true i (start + count) both.1; at = sym parts.1 }

pub place_among_inside : (width p start count i : ℕ) → start ≤ i → i < start + count → place_among width p start count i ≡ Some (p + (i - start) * width)
place_among_inside width p start count i from before =
    ap (λ b. cond b (Some (p + (i - start) * width)) None) (and_from (nat_le start i) (nat_lt i (start + count)) (le-leb start i from) (lt-ltb i (start + count) before))

pub place_among_below : (width p start count i : ℕ) → i < start → place_among width p start count i ≡ None
place_among_below width p start count i below = ap (λ b. cond b (Some (p + (i - start) * width)) None) (and_left (nat_le start i) (nat_lt i (start + count)) (lt-leb start i below))

pub place_among_past : (width p start count i : ℕ) → start + count ≤ i → place_among width p start count i ≡ None
place_among_past width p start count i past = ap (λ b. cond b (Some (p + (i - start) * width)) None) (and_right (nat_le start i) (nat_lt i (start + count)) (le-ltb i (start + count) past))

-- bytes of one record, between two places
pub record Between (lo hi width place : ℕ) : Type 0 where
  pub from : lo ≤ place
  pub to : place + width ≤ hi

pub place_among_between : (width p start count i place : ℕ) → place_among width p start count i ≡ Some place → Between p (p + count * width) width place
place_among_between width p start count i place is =
    let among = place_among_some width p start count i place is in
    let row = row_fits (i - start) width count width (omega (arith, among.from, among.before)) (omega arith) in
    record { from = omega (arith, among.at); to = omega (arith, among.at) }

pub place_in_runs_between : (width i p : ℕ) (runs : List Run) (place : ℕ) → place_in_runs width i p runs ≡ Some place → Between p (p + records_of_runs runs * width) width place
place_in_runs_between width i p [] place is = absurd cc
place_in_runs_between width i p (run ∷ runs) place is =
    let all : records_of_runs (run ∷ runs) * width ≡ run.count * width + records_of_runs runs * width
    = ap (λ n. n * width) (records_of_runs-cons run runs) ∙ add-mul run.count (records_of_runs runs) width in
    elim (option_or_cases (place_in_runs width i (p + run.count * width) runs) (place_among width p run.start run.count i) place is) [
      | inl later ↦ (let b = place_in_runs_between width i (p + run.count * width) runs place later in record { from = omega (arith, b.from); to = omega (arith, b.to, all) })
      | inr here ↦ (let b = place_among_between width p run.start run.count i place here.1 in record { from = b.from; to = omega (arith, b.to, all) })
    ]

-- runs that end inside a vector speak of its positions
pub place_in_runs_inside : (width i p size : ℕ) (runs : List Run) (place : ℕ) → are_inside size runs ≡ true → place_in_runs width i p runs ≡ Some place → i < size
place_in_runs_inside width i p size [] place inside is = absurd cc
place_in_runs_inside width i p size (run ∷ runs) place inside is =
    let both = and_parts (nat_le (run.start + run.count) size) (list_all (λ r. nat_le (r.start + r.count) size) runs) inside in
    elim (option_or_cases (place_in_runs width i (p + run.count * width) runs) (place_among width p run.start run.count i) place is) [
      | inl later ↦ place_in_runs_inside width i (p + run.count * width) size runs place both.1 later
      | inr here ↦ (let among = place_among_some width p run.start run.count i place here.1 in let end = leb-true (run.start + run.count) size both.0 in omega (arith, among.before))
    ]
