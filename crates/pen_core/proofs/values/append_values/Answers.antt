use Rattle.std.proofs.Common.{◌≡◌, ◌≤◌, ◌<◌, ◌+◌, ◌-◌, ◌++◌, List, ℕ, length, take, drop, refl, sym, ap, ◌∙◌, arith}
use Rattle.std.proofs.lemmas.Nat.{mul-le}
use Rattle.std.proofs.lemmas.List.{append-nil, length-take-le, length-drop}
use Rattle.segment_core.specs.Written.{joined}
use Rattle.pen_core.specs.Values.{bytes_at}
use Rattle.pen_core.proofs.PieceValues.{joined-all, values_more, passed_more, bytes_at-none}
use Rattle.pen_core.proofs.values.append_values.Goals as goal
use Rattle.pen_core.proofs.values.append_values.Goals.{then-skipped-len+in_ok-append_records, else-skipped-len}

pub loop-k-init : goal.loop-k-init
loop-k-init g c = record {
  here = refl;
  passed = c.requires.passed;
  behind = c.requires.ahead;
  from = omega arith;
  to = c.requires.some;
  values =
      sym (append-nil c.args.bytes.now.items)
      ∙ ap (λ (bs : List ℕ). c.args.bytes.now.items ++ bs)
      (bytes_at-none g.R.Record.form (joined (g.G.GrowthList.growths c.args.pieces.now)) c.args.from);
}

pub append_records-requires-after_bounds : goal.append_records-requires-after_bounds
append_records-requires-after_bounds g c κs within =
    let skipped = c.loop-k.at - c.loop-k.passed.records in
    let many =
    length-take-le (skipped + c.min-count.result - skipped) (drop skipped c.growth-piece.result.now)
    (omega (arith, length-drop skipped c.growth-piece.result.now, c.min-count.ensures, c.loop-k.invariant.behind)) in
    let from = c.loop-k.invariant.from in
    let end = c.min-count.ensures in
    let fits =
    mul-le (length (take (skipped + c.min-count.result - skipped) (drop skipped c.growth-piece.result.now)))
    g.R.Record.form.width (c.args.to - c.args.from) g.R.Record.form.width (omega arith) (omega arith) in
    let small = c.loop-k.bytes.small in
    omega (arith, c.requires.small)

pub returns-then-at-to-clause-values : goal.returns-then-at-to-clause-values
returns-then-at-to-clause-values g c =
    let growths = g.G.GrowthList.growths c.args.pieces.now in
    let form = g.R.Record.form in
    let l = c.loop-k.invariant in
    let is : c.loop-k.passed.records ≡ length (joined (take c.loop-k.k growths)) =
    l.passed.records_are ∙ ap (λ n. length (joined (take n growths))) l.here in
    let all : c.if-skipped-len.bytes.items ≡ c.args.bytes.now.items ++ bytes_at form (joined growths) c.args.from
    (c.if-skipped-len.at - c.args.from) =
    elim c.if-skipped-len.branch [
      | then-skipped-len+in_ok-append_records w ↦ rw (w.bytes-is, w.at-is)
          (values_more form growths c.loop-k.k c.growth-piece.result.now c.loop-k.passed.records c.loop-k.at
          w.min-count.result c.args.from c.args.bytes.now.items c.loop-k.bytes.items w.append_records.new.out.items
          c.growth-piece.ensures (omega (arith, c.loop-k-test.true, c.count-k-end.ensures)) is l.behind
          (omega (arith, w.min-count.ensures, l.behind, w.if-skipped-len.true)) l.from l.values
          w.in_ok-append_records.ensures.bytes)
      | else-skipped-len w ↦ rw (w.bytes-is, w.at-is) l.values
    ] in
    all ∙ ap (λ n. c.args.bytes.now.items ++ bytes_at form (joined growths) c.args.from (n - c.args.from)) c.if-at-to.true

pub loop-k-preserved : goal.loop-k-preserved
loop-k-preserved g c =
    let growths = g.G.GrowthList.growths c.args.pieces.now in
    let form = g.R.Record.form in
    let l = c.loop-k.invariant in
    let inside : c.loop-k.k < length growths = omega (arith, c.loop-k-test.true, c.count-k-end.ensures) in
    let is : c.loop-k.passed.records ≡ length (joined (take c.loop-k.k growths)) =
    l.passed.records_are ∙ ap (λ n. length (joined (take n growths))) l.here in
    let next = passed_more growths c.loop-k.k c.growth-piece.result.now c.loop-k.passed.records c.growth-piece.ensures inside is in
    elim c.if-skipped-len.branch [
      | then-skipped-len+in_ok-append_records w ↦
          let count = w.min-count.ensures in
          let less : c.loop-k.at + w.min-count.result ≡ c.args.to → ⊥ = λ e. c.if-at-to.false (w.at-is ∙ e) in
          rw (w.bytes-is, w.at-is) record {
            here = refl;
            passed = record { inside = omega arith; records_are = sym next.0 };
            behind = omega (arith, less, l.behind, l.to, w.if-skipped-len.true);
            from = omega (arith, l.from);
            to = omega (arith, l.to);
            values =
                values_more form growths c.loop-k.k c.growth-piece.result.now c.loop-k.passed.records c.loop-k.at
                w.min-count.result c.args.from c.args.bytes.now.items c.loop-k.bytes.items w.append_records.new.out.items
                c.growth-piece.ensures inside is l.behind (omega (arith, l.behind, w.if-skipped-len.true)) l.from l.values w.in_ok-append_records.ensures.bytes;
          }
      | else-skipped-len w ↦ rw (w.bytes-is, w.at-is) record {
        here = refl;
        passed = record { inside = omega arith; records_are = sym next.0 };
        behind = omega (arith, w.if-skipped-len.false, l.behind);
        from = l.from;
        to = l.to;
        values = l.values;
      }
    ]

done : {R : Type 0} (pieces : List (List R)) (k records at to : ℕ) → length pieces ≤ k
    → records ≡ length (joined (take k pieces)) → records ≤ at → at ≤ to → to ≤ length (joined pieces) → at ≡ to
done pieces k records at to all is behind le inside = omega (arith, ap length (joined-all pieces k all))

pub returns-clause-values : goal.returns-clause-values
returns-clause-values g c =
    let growths = g.G.GrowthList.growths c.args.pieces.now in
    let l = c.loop-k.invariant in
    let is : c.loop-k.passed.records ≡ length (joined (take c.loop-k.k growths)) =
    l.passed.records_are ∙ ap (λ n. length (joined (take n growths))) l.here in
    l.values
    ∙ ap (λ n. c.args.bytes.now.items ++ bytes_at g.R.Record.form (joined growths) c.args.from (n - c.args.from))
    (done growths c.loop-k.k c.loop-k.passed.records c.loop-k.at c.args.to
    (omega (arith, c.loop-k-test.false, c.count-k-end.ensures)) is l.behind l.to c.requires.inside)

pub overflow_add-passed-in-loop-k : goal.overflow_add-passed-in-loop-k
overflow_add-passed-in-loop-k g c =
    let l = c.loop-k.invariant in
    elim c.if-skipped-len.branch [
      | then-skipped-len+in_ok-append_records w ↦
          let count = w.min-count.ensures in
          let less : c.loop-k.at + w.min-count.result ≡ c.args.to → ⊥ = λ e. c.if-at-to.false (w.at-is ∙ e) in
          omega (arith, less, l.behind, l.to, w.if-skipped-len.true, c.ranges.to.fits)
      | else-skipped-len w ↦ omega (arith, w.if-skipped-len.false, l.behind, l.to, c.ranges.to.fits)
    ]
