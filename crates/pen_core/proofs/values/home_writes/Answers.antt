use Rattle.std.proofs.Common.{◌≡◌, ◌≤◌, ◌<◌, ◌+◌, ◌-◌, ◌^◌, ◌++◌, List, [], ◌∷◌, ℕ, All, length, map, take, drop, get_or, refl, sym, ap, subst, ◌∙◌, arith}
use Rattle.std.proofs.lemmas.Nat.{mul-le}
use Rattle.std.proofs.lemmas.List.{take_all, drop_more, length-append}
use Rattle.std.proofs.lemmas.List.Elements.{All-nil}
use Rattle.segment_core.specs.declared.found.Home.{Home}
use Rattle.segment_core.specs.Written.{joined}
use Rattle.pen_core.specs.declared.fold.Write.{Write}
use Rattle.pen_core.specs.InHand.{write_of}
use Rattle.pen_core.specs.HomeRuns.{AreAscending}
use Rattle.pen_core.specs.Values.{bytes_at, writes_for}
use Rattle.pen_core.proofs.WritesFor.{Within, writes_more, within_more, ascending-inside, ascending-ends}
use Rattle.pen_core.proofs.values.home_writes.Goals as goal

abbrev blank : Home
blank = record { position = 0; place = 0; count = 0 }

-- the next run begins behind those before it, and ends inside
next_run : (end all : ℕ) (runs : List Home) (k : ℕ) → k < length runs → AreAscending end all (drop k runs)
    → (end ≤ (get_or runs k blank).position) × ((get_or runs k blank).position + (get_or runs k blank).count ≤ all)
    × AreAscending ((get_or runs k blank).position + (get_or runs k blank).count) all (drop (k + 1) runs)
next_run end all runs k lt ascend =
    let here = subst (AreAscending end all) (drop_more runs k blank lt) ascend in
    (here.0, ascending-inside ((get_or runs k blank).position + (get_or runs k blank).count) all (drop (k + 1) runs) here.1, here.1)

pub loop-k-init : goal.loop-k-init
loop-k-init g c =
    let writes : c.reserve.new.self.items ≡ [] = c.in_ok-reserve.ensures.items ∙ c.clear.ensures.items in
    rw writes record {
      end = 0;
      passed = record { inside = omega arith; records_are = refl };
      behind = omega arith;
      left = c.requires.ascend;
      so_far = refl;
      within = All-nil (Within (length c.clear-2.new.self.items));
      many = refl;
      room = omega (arith, c.in_ok-reserve.ensures.ok, c.in_ok-reserve.ensures.capacity, c.in_ok-reserve.ensures.len, c.clear.ensures.len);
    }

pub overflow_add-end : goal.overflow_add-end
overflow_add-end g c =
    let end = ascending-ends 0 (2 ^ 32) c.args.runs.now c.loop-k.k blank c.requires.few c.loop-k-test.true in
    omega arith

pub append_values-requires-clause-passed : goal.append_values-requires-clause-passed
append_values-requires-clause-passed g c κs within = c.loop-k.invariant.passed

pub append_values-requires-clause-ahead : goal.append_values-requires-clause-ahead
append_values-requires-clause-ahead g c κs within =
    let all = length (joined (g.G.GrowthList.growths c.args.pieces.now)) in
    let next = next_run c.loop-k.invariant.end all c.args.runs.now c.loop-k.k c.loop-k-test.true c.loop-k.invariant.left in
    omega (arith, next.0, c.loop-k.invariant.behind)

pub append_values-requires-clause-inside : goal.append_values-requires-clause-inside
append_values-requires-clause-inside g c κs within =
    let all = length (joined (g.G.GrowthList.growths c.args.pieces.now)) in
    (next_run c.loop-k.invariant.end all c.args.runs.now c.loop-k.k c.loop-k-test.true c.loop-k.invariant.left).1

pub append_values-requires-clause-small : goal.append_values-requires-clause-small
append_values-requires-clause-small g c κs within =
    let run = get_or c.args.runs.now c.loop-k.k blank in
    let end = ascending-ends 0 (2 ^ 32) c.args.runs.now c.loop-k.k blank c.requires.few c.loop-k-test.true in
    mul-le (run.position + run.count - run.position) g.R.Record.form.width (2 ^ 32) (2 ^ 16) (omega arith) (omega (arith, c.requires.width))

pub push_reserved-requires : goal.push_reserved-requires
push_reserved-requires g c = omega (arith, c.loop-k.invariant.many, c.loop-k.invariant.room, c.loop-k-test.true)

pub loop-k-preserved : goal.loop-k-preserved
loop-k-preserved g c =
    let form = g.R.Record.form in
    let records = joined (g.G.GrowthList.growths c.args.pieces.now) in
    let runs = c.args.runs.now in
    let k = c.loop-k.k in
    let run = get_or runs k blank in
    let l = c.loop-k.invariant in
    let next = next_run l.end (length records) runs k c.loop-k-test.true l.left in
    let count : run.position + run.count - run.position ≡ run.count = omega arith in
    let wrote : c.append_values.new.bytes.items ≡ c.loop-k.bytes.items ++ bytes_at form records run.position run.count =
    c.in_ok-append_values.ensures.values ∙ ap (λ n. c.loop-k.bytes.items ++ bytes_at form records run.position n) count in
    let from : c.len-from.result ≡ length c.loop-k.bytes.items = omega arith in
    let to : c.len.result ≡ length (c.loop-k.bytes.items ++ bytes_at form records run.position run.count) = omega (arith, ap length wrote) in
    let all : List ℕ = c.loop-k.bytes.items ++ bytes_at form records run.position run.count in
    let old = c.loop-k.writes.items in
    let new = c.push_reserved.new.self.items in
    let last : Write = record { place = run.place; from = length c.loop-k.bytes.items; to = length all } in
    let pushed : new ≡ old ++ last ∷ [] =
    c.push_reserved.ensures.items
    ∙ ap (λ n. old ++ record { place = run.place; from = n; to = c.len.result } ∷ []) from
    ∙ ap (λ n. old ++ record { place = run.place; from = length c.loop-k.bytes.items; to = n } ∷ []) to in
    record {
      end = run.position + run.count;
      passed = c.in_ok-append_values.ensures.passed;
      behind = c.in_ok-append_values.ensures.before;
      left = next.2;
      so_far =
          subst (λ bs. map (write_of bs) new ≡ writes_for form records (take (k + 1) runs)) (sym wrote)
          (subst (λ ws. map (write_of all) ws ≡ writes_for form records (take (k + 1) runs)) (sym pushed)
          (writes_more form records runs k blank c.loop-k.bytes.items old c.loop-k-test.true l.so_far l.within));
      within =
          subst (λ bs. All (Within (length bs)) new) (sym wrote)
          (subst (All (Within (length all))) (sym pushed)
          (within_more c.loop-k.bytes.items (bytes_at form records run.position run.count) old run.place l.within));
      many = omega (arith, l.many, ap length pushed, length-append old (last ∷ []));
      room = omega (arith, l.room, c.push_reserved.ensures.capacity);
    }

pub returns-clause-writes : goal.returns-clause-writes
returns-clause-writes g c =
    c.loop-k.invariant.so_far
    ∙ ap (writes_for g.R.Record.form (joined (g.G.GrowthList.growths c.args.pieces.now)))
    (take_all c.loop-k.k c.args.runs.now c.loop-k-test.false)

pub returns-clause-inside : goal.returns-clause-inside
returns-clause-inside g c = c.loop-k.invariant.within
