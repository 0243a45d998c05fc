use Rattle.std.proofs.Common.{◌≡◌, ◌-◌, List, ◌++◌, ℕ, length, take, drop, refl, sym, ap, ◌∙◌, arith, inl, inr}
use Rattle.std.proofs.lemmas.List.{length-append, take_rest}
use Rattle.std.proofs.lemmas.Result.{err_from_is_err_and}
use Rattle.segment_core.specs.declared.scanner.Scanner.{Scanner}
use Rattle.segment_core.specs.declared.scanner.ScanStage.TheVariants as stages
use Rattle.segment_core.proofs.Fed.{sound_more, refused_by_walk, memory_for, after_closed, after_short, stands_behind_pending}
use Rattle.segment_core.proofs.scanner.Scanner.take.Goals as goal

pub read-requires-after_bounds : goal.read-requires-after_bounds
read-requires-after_bounds g c κs within =
    let image = c.requires.open.0 in
    let on = c.requires.open.1 in
    let len = length-append image c.args.bytes.now in
    let small = c.requires.open.2 in (
      image ++ c.args.bytes.now,
      stands_behind_pending g.R.Record.form image c.args.self.now.pending.items c.args.bytes.now c.args.bytes.now
          c.args.self.now.walk on.stands (ap (λ (bs : List ℕ). bs ++ c.args.bytes.now) (sym c.requires.none)),
      omega arith,
    )

pub returns-in_err-used-clause-err : goal.returns-in_err-used-clause-err
returns-in_err-used-clause-err g c =
    let p = err_from_is_err_and c.from_residual.result c.from_residual.ensures.1 in
    rw (p.1, p.2) (λ image on. (
    let stands =
    stands_behind_pending g.R.Record.form image c.args.self.now.pending.items c.args.bytes.now c.args.bytes.now
    c.args.self.now.walk on.stands (ap (λ (bs : List ℕ). bs ++ c.args.bytes.now) (sym c.requires.none)) in
    refused_by_walk g.R.Record.form (image ++ c.args.bytes.now) c.args.self.now.walk c.in_err-used.field-0.0
    (sound_more g.R.Record.form.width c.args.self.now.walk.shape.format image c.args.bytes.now on.sound)
    on.stands.behind.width_is (c.in_err-used.ensures.err (image ++ c.args.bytes.now) stands)))

pub returns-in-Err-clause-err : goal.returns-in-Err-clause-err
returns-in-Err-clause-err g c =
    λ image on.
    memory_for g.R.Record.form c.args.self.now.walk.shape.format (image ++ c.args.bytes.now) _
    (sound_more g.R.Record.form.width c.args.self.now.walk.shape.format image c.args.bytes.now on.sound) refl

pub returns-in-Closed-clause-ok : goal.returns-in-Closed-clause-ok
returns-in-Closed-clause-ok g c = λ image on. (
    let self = c.args.self.now in
    let form = g.R.Record.form in
    let now : Scanner g.row.R.Denot = record self { stage = stages.Closed; walk = c.read.new.self } in
    let stands = stands_behind_pending form image self.pending.items c.args.bytes.now c.args.bytes.now self.walk on.stands (ap (λ (bs : List ℕ). bs ++ c.args.bytes.now) (sym c.requires.none)) in
    let tail = rw c.in-Closed.is at c.in_ok-used.ensures.tail in
    inr (
      refl,
      after_closed form (image ++ c.args.bytes.now) (drop c.in_ok-used.used c.args.bytes.now) now self.walk
          c.in_ok-used.ensures.shape (sound_more form.width self.walk.shape.format image c.args.bytes.now on.sound)
          (c.in_ok-used.ensures.stands (image ++ c.args.bytes.now) stands) tail.1,
    ))

pub returns-in-Ok-clause-ok : goal.returns-in-Ok-clause-ok
returns-in-Ok-clause-ok g c = λ image on. (
    let self = c.args.self.now in
    let form = g.R.Record.form in
    let left : List ℕ = drop c.in_ok-used.used c.args.bytes.now in
    let now : Scanner g.row.R.Denot = record self { pending = c.extend_from_slice.new.self; walk = c.read.new.self } in
    let stands = stands_behind_pending form image self.pending.items c.args.bytes.now c.args.bytes.now self.walk on.stands (ap (λ (bs : List ℕ). bs ++ c.args.bytes.now) (sym c.requires.none)) in
    let tail = rw c.in-Short.is at c.in_ok-used.ensures.tail in
    let part : List ℕ = take (length c.args.bytes.now - c.in_ok-used.used) left in
    let grown : c.extend_from_slice.new.self.items ≡ self.pending.items ++ part = c.in-Ok.ensures.items in
    let pending : c.extend_from_slice.new.self.items ≡ left = grown ∙ ap (λ (bs : List ℕ). bs ++ part) c.requires.none ∙ take_rest c.args.bytes.now c.in_ok-used.used in
    inl (
      c.requires.stage,
      after_short form (image ++ c.args.bytes.now) left now self.walk c.in_ok-used.ensures.shape
          (sound_more form.width self.walk.shape.format image c.args.bytes.now on.sound)
          (c.in_ok-used.ensures.stands (image ++ c.args.bytes.now) stands) tail.1 pending,
    ))
