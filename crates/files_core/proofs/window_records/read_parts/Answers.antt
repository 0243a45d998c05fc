use Rattle.std.proofs.Common.{◌≡◌, ℕ, List, length, drop, refl, sym, ap, subst, ◌∙◌, arith}
use Rattle.std.proofs.lemmas.List.{length-append}
use Rattle.disk_core.specs.State.{now, IsImage}
use Rattle.disk_core.specs.Calls.{bytes_of}
use Rattle.disk_core.proofs.JoinedMoments.{LeavesOnly-start}
use Rattle.pen_core.specs.Typed.{OpensTo}
use Rattle.pen_core.proofs.FrameSteps.{reads_joined}
use Rattle.files_core.proofs.WindowRecords.{few_positions, framed_later, memory_refused, taken_more, taken_none}
use Rattle.files_core.proofs.window_records.read_parts.Goals as goal

pub returns-in_default-clause-refused : goal.returns-in_default-clause-refused
returns-in_default-clause-refused g c = λ model.
    let laws = g.met.R.Record g.world.𝓛 g.world.𝓜 g.world.𝓡 ((λ s x. x), (λ x. x), (λ x. x), λ x. x) in
    memory_refused g.R.Record.form laws.width_in_range.1 (g.D.Disk.keeps c.args.disk.now) (bytes_of (g.D.Disk.states c.args.disk.now)) c.requires.framed.0 c.args.framed.now
    c.requires.framed.1 c.requires.width model

pub returns-in_default-clause-images : goal.returns-in_default-clause-images
returns-in_default-clause-images g c = λ model.
    LeavesOnly-start (g.D.Disk.states c.args.disk.now) (IsImage (now (g.D.Disk.states c.args.disk.now))) (λ image left. left)

pub loop-done-init : goal.loop-done-init
loop-done-init g c = record {
  inside = omega arith;
  long = ap length c.in-Ok.ensures.items;
  read = λ model records opens. c.in-Ok.ensures.items ∙ sym (taken_none (drop c.args.from records));
  model = λ model. model;
  same = λ model. refl;
  images = λ model. LeavesOnly-start (g.D.Disk.states c.args.disk.now) (IsImage (now (g.D.Disk.states c.args.disk.now))) (λ image left. left);
  faults = refl;
}

pub overflow_add-from : goal.overflow_add-from
overflow_add-from g c =
    let few = few_positions (g.D.Disk.keeps c.args.disk.now) (bytes_of (g.D.Disk.states c.args.disk.now)) c.requires.framed.0 c.args.framed.now c.requires.framed.1 in
    omega (arith, few, c.requires.inside, c.loop-done.invariant.inside)

pub read_part-requires-clause-framed : goal.read_part-requires-clause-framed
read_part-requires-clause-framed g c κs within =
    let inv = c.loop-done.invariant in (
      c.requires.framed.0,
      framed_later (g.D.Disk.keeps c.args.disk.now) (g.D.Disk.keeps c.loop-done.disk) (bytes_of (g.D.Disk.states c.args.disk.now)) (bytes_of (g.D.Disk.states c.loop-done.disk))
          c.requires.framed.0 c.args.framed.now inv.model (λ model. sym (ap (λ s. s.seen) (inv.same model))) c.requires.framed.1,
    )

pub returns-in_err-read_part-clause-images : goal.returns-in_err-read_part-clause-images
returns-in_err-read_part-clause-images g c = λ model.
    let inv = c.loop-done.invariant in
    let m = c.read_part.ensures.model model in
    reads_joined (g.D.Disk.states c.args.disk.now) (g.D.Disk.states c.loop-done.disk) (g.D.Disk.states c.read_part.new.disk) (inv.same m) (inv.images m) (c.read_part.ensures.images model)

pub loop-done-preserved : goal.loop-done-preserved
loop-done-preserved g c =
    let inv = c.loop-done.invariant in
    let got = c.in_ok-read_part.ensures.read in
    let read : length got.0 ≡ c.min-part.result = got.2 in
    record {
      inside = omega (arith, c.min-part.ensures, c.loop-done-test.true);
      long = ap length got.1 ∙ length-append c.loop-done.records.items got.0 ∙ omega (arith, inv.long, read);
      read = λ model records opens. (
          let m = c.read_part.ensures.model model in
          got.1 ∙ taken_more c.args.from c.loop-done.done c.min-part.result records c.loop-done.records.items got.0 (inv.read m records opens)
          (got.3 model records (subst (λ (bs : List ℕ). OpensTo g.R.Record.form bs records) (sym (ap (λ s. s.seen) (inv.same m))) opens)));
      model = λ model. inv.model (c.read_part.ensures.model model);
      same = λ model. (let m = c.read_part.ensures.model model in c.read_part.ensures.same model ∙ inv.same m);
      images = λ model. (
          let m = c.read_part.ensures.model model in
          reads_joined (g.D.Disk.states c.args.disk.now) (g.D.Disk.states c.loop-done.disk) (g.D.Disk.states c.read_part.new.disk) (inv.same m) (inv.images m) (c.read_part.ensures.images model));
      faults = c.in_ok-read_part.ensures.faults ∙ inv.faults;
    }
