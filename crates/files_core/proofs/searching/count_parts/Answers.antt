use Rattle.std.proofs.Common.{◌≡◌, ◌+◌, List, [], ◌++◌, length, refl, sym, ap, subst, ◌∙◌, arith}
use Rattle.std.specs.List.{count_by}
use Rattle.std.proofs.lemmas.List.Sums.{count_by-le-length}
use Rattle.disk_core.specs.Calls.{bytes_of}
use Rattle.pen_core.proofs.FrameSteps.{reads_joined}
use Rattle.search_core.proofs.Counts.{count_by-append}
use Rattle.files_core.specs.Listing.{AreRecordsFrom}
use Rattle.files_core.proofs.PartsRead.{HasReadFirst, all_read, first_more, first_none}
use Rattle.files_core.proofs.WindowRecords.{few_positions, framed_later}
use Rattle.files_core.proofs.searching.count_parts.Goals as goal

pub loop-done-init : goal.loop-done-init
loop-done-init g c = record {
  inside = omega arith;
  read = [];
  so_far = first_none g.R.Record.form (g.D.Disk.keeps c.args.disk.now) (g.D.Disk.states c.args.disk.now) (g.D.Disk.faults c.args.disk.now);
  counted = refl;
}

pub read-requires-clause-framed : goal.read-requires-clause-framed
read-requires-clause-framed g c κs within =
    let so_far = c.loop-done.invariant.so_far in (
      c.requires.framed.0,
      framed_later (g.D.Disk.keeps c.args.disk.now) (g.D.Disk.keeps c.loop-done.disk) (bytes_of (g.D.Disk.states c.args.disk.now)) (bytes_of (g.D.Disk.states c.loop-done.disk))
          c.requires.framed.0 c.args.framed.now so_far.model (λ model. sym (ap (λ s. s.seen) (so_far.same model))) c.requires.framed.1,
    )

pub loop-done-preserved : goal.loop-done-preserved
loop-done-preserved g c =
    let inv = c.loop-done.invariant in
    let e = c.in_ok-read.ensures in
    let is = λ (r : g.row.R.Denot). g.R.PartialEq.eq r c.args.wanted in
    let part : List g.row.R.Denot = c.read.new.self.records.items in
    let len : length c.records-records.result.now ≡ length part = ap length c.records-records.ensures in
    record {
      inside = omega (arith, len, e.inside);
      read = inv.read ++ part;
      so_far = subst (λ n. HasReadFirst g.R.Record.form (g.D.Disk.keeps c.args.disk.now) (g.D.Disk.keeps c.read.new.disk) (g.D.Disk.states c.args.disk.now) (g.D.Disk.states c.read.new.disk)
          (g.D.Disk.faults c.args.disk.now) (g.D.Disk.faults c.read.new.disk) (c.loop-done.done + n) (inv.read ++ part)) (sym len)
          (first_more g.R.Record.form (g.D.Disk.keeps c.args.disk.now) (g.D.Disk.keeps c.loop-done.disk) (g.D.Disk.keeps c.read.new.disk) (g.D.Disk.states c.args.disk.now)
          (g.D.Disk.states c.loop-done.disk) (g.D.Disk.states c.read.new.disk) (g.D.Disk.faults c.args.disk.now) (g.D.Disk.faults c.loop-done.disk) (g.D.Disk.faults c.read.new.disk)
          c.loop-done.done inv.read part inv.so_far e.read c.read.ensures.model c.read.ensures.same c.read.ensures.images e.faults);
      counted = omega (arith, inv.counted, c.count_equal-total.ensures ∙ ap (count_by is) c.records-records.ensures, count_by-append is inv.read part);
    }

pub overflow_add-total : goal.overflow_add-total
overflow_add-total g c =
    let inv = c.loop-done.invariant in
    let is = λ (r : g.row.R.Denot). g.R.PartialEq.eq r c.args.wanted in
    let few = few_positions (g.D.Disk.keeps c.args.disk.now) (bytes_of (g.D.Disk.states c.args.disk.now)) c.requires.framed.0 c.args.framed.now c.requires.framed.1 in
    let part : List g.row.R.Denot = c.read.new.self.records.items in
    let counted : c.count_equal-total.result ≡ count_by is part = c.count_equal-total.ensures ∙ ap (count_by is) c.records-records.ensures in
    omega (arith, few, inv.counted, inv.so_far.long, counted, count_by-le-length is inv.read, count_by-le-length is part, c.in_ok-read.ensures.inside)

pub overflow_add-done : goal.overflow_add-done
overflow_add-done g c =
    let few = few_positions (g.D.Disk.keeps c.args.disk.now) (bytes_of (g.D.Disk.states c.args.disk.now)) c.requires.framed.0 c.args.framed.now c.requires.framed.1 in
    let len = ap length c.records-records.ensures in
    omega (arith, few, len, c.in_ok-read.ensures.inside)

pub loop-done-smaller : goal.loop-done-smaller
loop-done-smaller g c = let len = ap length c.records-records.ensures in omega (arith, len, c.in_ok-read.ensures.some, c.in_ok-read.ensures.inside)

pub returns-in_err-read-clause-images : goal.returns-in_err-read-clause-images
returns-in_err-read-clause-images g c = λ model.
    let so_far = c.loop-done.invariant.so_far in
    let m = c.read.ensures.model model in
    reads_joined (g.D.Disk.states c.args.disk.now) (g.D.Disk.states c.loop-done.disk) (g.D.Disk.states c.read.new.disk) (so_far.same m) (so_far.images m) (c.read.ensures.images model)

pub returns-clause-counted : goal.returns-clause-counted
returns-clause-counted g c =
    let inv = c.loop-done.invariant in
    let laws = g.met.R.Record g.world.𝓛 g.world.𝓜 g.world.𝓡 ((λ s x. x), (λ x. x), (λ x. x), λ x. x) in
    let bytes = bytes_of (g.D.Disk.states c.args.disk.now) in
    let keeps = g.D.Disk.keeps c.loop-done.disk in
    let on = framed_later (g.D.Disk.keeps c.args.disk.now) keeps bytes bytes c.requires.framed.0 c.args.framed.now inv.so_far.model (λ model. refl) c.requires.framed.1 in
    let all : c.loop-done.done ≡ c.args.framed.now.tally.size = omega (arith, inv.inside, c.loop-done-test.false) in (
      inv.read,
      λ model. all_read g.R.Record.form laws.width_in_range.1 keeps bytes c.requires.framed.0 c.args.framed.now on c.requires.width g.R.Record.blank_value c.requires.any inv.read
          (subst (λ n. AreRecordsFrom g.R.Record.form bytes 0 n inv.read) all (inv.so_far.first model)) model,
      inv.counted,
    )
