use Rattle.std.specs.Global.{Vec}
use Rattle.std.proofs.Common.{◌≡◌, ℕ, suc, ◌+◌, ◌*◌, ◌≤◌, ◌<◌, List, [], ◌∷◌, ◌++◌, Some, refl, sym, ap, ◌∙◌, arith, rules}
use Rattle.std.proofs.lemmas.List.{append-nil, append_assoc}
use Rattle.std.proofs.lemmas.Nat.{mul-le}
use Rattle.record_core.specs.Cells.{cell}
use Rattle.record_core.proofs.Cells.{cell_is, HasRead_some, HasRead_more}
use Rattle.record_core.proofs.records.read_sound.Goals as goal

-- Record i ends inside of the bytes of so many. A search finds what follows from it too, in far more time.
cell_ends : {width w len : ℕ} (count i : ℕ) → w ≡ width → len ≡ count * width → i < count → i * w + w ≤ len
cell_ends {width} {w} count i is filled lt =
    let rows : suc i * w ≤ count * w = mul-le (suc i) w count w (omega arith) (omega arith) in
    let all = ap (λ n. count * n) is in
    omega arith

pub overflow_mul-at : goal.overflow_mul-at
overflow_mul-at g c = omega (arith, cell_ends c.args.count c.loop-sound.sound c.width_of-width.ensures.is c.requires.filled c.loop-sound-test.true)

pub overflow_add-at : goal.overflow_add-at
overflow_add-at g c = omega (arith, cell_ends c.args.count c.loop-sound.sound c.width_of-width.ensures.is c.requires.filled c.loop-sound-test.true)

pub slice_bounds-take-end : goal.slice_bounds-take-end
slice_bounds-take-end g c = omega (arith, cell_ends c.args.count c.loop-sound.sound c.width_of-width.ensures.is c.requires.filled c.loop-sound-test.true)

pub loop-sound-init : goal.loop-sound-init
loop-sound-init g c = record {
  inside = omega arith;
  read = ([], ap (λ (v : Vec g.row.R.Denot). v.items) c.replace-grown.ensures.value ∙ sym (append-nil _), record { so_far = refl; each = λ i lt. absurd (omega arith) });
  room = search rules;
  capacity = search rules;
}

pub loop-sound-preserved : goal.loop-sound-preserved
loop-sound-preserved g c =
    let so_far = c.loop-sound.invariant in
    let before = so_far.read in
    let r = c.in-Some.record in
    let here : g.R.Record.form.value_of (cell g.R.Record.form.width c.args.bytes.now c.loop-sound.sound) ≡ Some r =
    ap g.R.Record.form.value_of (cell_is g.R.Record.form.width c.width_of-width.result c.args.bytes.now c.loop-sound.sound c.width_of-width.ensures.is)
    ∙ sym c.take.ensures ∙ c.in-Some.is in
    record {
      inside = omega arith;
      read = (
        before.0 ++ r ∷ [],
        c.push_reserved.ensures.items ∙ ap (λ (rs : List g.row.R.Denot). rs ++ r ∷ []) before.1
            ∙ append_assoc c.args.records.now.items before.0 (r ∷ []),
        HasRead_more g.R.Record.form c.args.bytes.now c.loop-sound.sound before.0 r before.2 here,
      );
      room = omega (arith, so_far.room, c.push_reserved.ensures.len, c.push_reserved.ensures.capacity);
      capacity = omega (arith, so_far.capacity, c.push_reserved.ensures.capacity);
    }
