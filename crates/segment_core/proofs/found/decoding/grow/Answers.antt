use Rattle.std.proofs.Common.{◌≡◌, ◌+◌, ◌-◌, ◌*◌, length, ℕ, ap, subst, ◌∙◌, arith, rules}
use Rattle.std.proofs.lemmas.List.{length_push}
use Rattle.segment_core.specs.Vector.{place_among}
use Rattle.segment_core.specs.Found.{IsLaid}
use Rattle.segment_core.proofs.FoundLaid.{laid_push, stands_part, cell_within}
use Rattle.segment_core.proofs.found.decoding.grow.Goals as goal

pub loop-k-preserved : goal.loop-k-preserved
loop-k-preserved g c =
    let so_far = c.loop-k.invariant in
    let k : ℕ = c.loop-k.k in
    let w : ℕ = c.width_of-width.result in
    let form = g.R.Record.form in
    let start : ℕ = length c.args.records.now.items in
    let pushed = c.push_reserved.ensures.items in
    let first : c.len-start.result ≡ start = search rules in
    let within = cell_within k c.args.count w form.width (length c.args.area.now) c.width_of-width.ensures.is c.loop-k-test.true c.requires.filled in
    record {
      longer = ap length pushed ∙ length_push c.loop-k.records.items c.in_ok-record.record ∙ omega (arith, so_far.longer);
      room = omega (arith, so_far.room, c.push_reserved.ensures.len, c.push_reserved.ensures.capacity);
      laid =
          λ image stands.
          laid_push form image c.args.place start k w (c.len-start.result + k) c.args.records.now.items
          c.args.notes.now c.loop-k.records.items c.loop-k.notes c.push_reserved.new.self.items
          c.decode.new.notes c.in_ok-record.record
          c.width_of-width.ensures.is (ap (λ n. n + k) first) so_far.longer pushed (so_far.laid image stands)
          (c.in_ok-record.ensures.decoded image (stands_part image c.args.place c.args.area.now (k * w) (k * w + w - k * w) stands within))
          c.in_ok-record.ensures.others;
    }

pub returns-clause-laid : goal.returns-clause-laid
returns-clause-laid g c = λ image stands. (
    let all : c.loop-k.k ≡ c.args.count = omega (arith, c.loop-k-test.false, c.loop-k.auto.k-end) in
    subst
    (λ (n : ℕ).
    IsLaid g.R.Record.form image
    (place_among g.R.Record.form.width c.args.place (length c.args.records.now.items) n)
    c.args.records.now.items c.args.notes.now c.loop-k.records.items c.loop-k.notes) all
    (c.loop-k.invariant.laid image stands))

pub slice_bounds-decode-end : goal.slice_bounds-decode-end
slice_bounds-decode-end g c =
    omega (arith, cell_within c.loop-k.k c.args.count c.width_of-width.result g.R.Record.form.width (length c.args.area.now) c.width_of-width.ensures.is c.loop-k-test.true c.requires.filled)

pub overflow_add-place : goal.overflow_add-place
overflow_add-place g c =
    let within = cell_within c.loop-k.k c.args.count c.width_of-width.result g.R.Record.form.width (length c.args.area.now) c.width_of-width.ensures.is c.loop-k-test.true c.requires.filled in
    omega (arith, within, c.requires.placed)

pub loop-k-init : goal.loop-k-init
loop-k-init g c =
    let form = g.R.Record.form in
    let made = c.grow_sound-sound.ensures in
    let same : c.reserve.new.self.items ≡ c.args.records.now.items = c.in_ok-reserve.ensures.items in
    record {
      longer = omega (arith, made.longer, ap length same);
      room = omega (arith, made.room);
      laid =
          λ image stands.
          subst
          (λ old.
          IsLaid form image (place_among form.width c.args.place (length old) c.grow_sound-sound.result) old c.args.notes.now
          c.grow_sound-sound.new.records.items c.args.notes.now) same
          (made.laid image c.args.place stands);
    }
