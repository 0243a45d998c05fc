use Rattle.std.proofs.lemmas.Grind.{common_steps}
use Rattle.segment_core.specs.Vector.{place_among}
use Rattle.std.proofs.Common.{◌≡◌, ◌+◌, ◌-◌, ◌*◌, List, length, take, drop, ℕ, None, refl, sym, ap, ◌∙◌, arith, rules}
use Rattle.std.proofs.lemmas.List.{length_push, length-take-le, length-drop}
use Rattle.segment_core.specs.Notes.{noted}
use Rattle.segment_core.proofs.FoundLaid.{decoded_whole, laid_push, stands_part, cell_within, laid_nothing, place_among_none}
use Rattle.segment_core.proofs.found.decoding.grow_sound.Goals as goal

pub loop-sound-preserved : goal.loop-sound-preserved
loop-sound-preserved g c =
    let so_far = c.loop-sound.invariant in
    let k : ℕ = c.loop-sound.sound in
    let w : ℕ = c.width_of-width.result in
    let form = g.R.Record.form in
    let area = c.args.area.now in
    let old = c.args.records.now.items in
    let notes = c.args.notes.now in
    let pushed = c.push_reserved.ensures.items in
    let bytes : List ℕ = take (k * w + w - k * w) (drop (k * w) area) in
    let within = cell_within k c.args.count w form.width (length area) c.width_of-width.ensures.is c.loop-sound-test.true c.requires.filled in
    let left = length-drop (k * w) area in
    let wide : length bytes ≡ form.width = length-take-le (k * w + w - k * w) (drop (k * w) area) (omega arith) ∙ omega (arith, c.width_of-width.ensures.is) in
    let clean : (q : ℕ) → noted notes q ≡ None = c.is_empty.ensures (search rules) in
    record {
      inside = omega arith;
      longer = ap length pushed ∙ length_push c.loop-sound.grown.items c.in-Some.record ∙ omega (arith, so_far.longer);
      room = omega (arith, so_far.room, c.push_reserved.ensures.len, c.push_reserved.ensures.capacity);
      laid = λ image place stands. laid_push form image place (length old) k w (length old + k) old notes c.loop-sound.grown.items notes c.push_reserved.new.self.items notes c.in-Some.record
          c.width_of-width.ensures.is refl so_far.longer pushed (so_far.laid image place stands)
          (decoded_whole form image (place + k * w) bytes c.in-Some.record (noted notes (length old + k)) wide
          (sym c.in-Some.ensures) (stands_part image place area (k * w) (k * w + w - k * w) stands within)
          (clean (length old + k)))
          (λ q apart. refl);
    }

pub slice_bounds-take-end : goal.slice_bounds-take-end
slice_bounds-take-end g c =
    omega (
      arith,
      cell_within c.loop-sound.sound c.args.count c.width_of-width.result g.R.Record.form.width (length c.args.area.now)
          c.width_of-width.ensures.is c.loop-sound-test.true c.requires.filled,
    )

pub returns-then-not-is_empty-clause-laid : goal.returns-then-not-is_empty-clause-laid
returns-then-not-is_empty-clause-laid g c = λ image place stands.
    let form = g.R.Record.form in
    let old = c.args.records.now.items in
    laid_nothing form image (place_among form.width place (length old) 0) old c.args.notes.now (place_among_none form.width place (length old))

pub loop-sound-init : goal.loop-sound-init
loop-sound-init g c = grind (arith, common_steps)

pub overflow_add-at : goal.overflow_add-at
overflow_add-at g c = grind (arith, common_steps)

pub overflow_mul-at : goal.overflow_mul-at
overflow_mul-at g c = grind (arith, common_steps)
