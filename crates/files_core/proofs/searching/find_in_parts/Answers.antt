use Rattle.std.proofs.Common.{◌≡◌, ◌+◌, List, [], ◌++◌, length, Some, refl, sym, ap, subst, arith}
use Rattle.std.specs.List.{count_by}
use Rattle.disk_core.specs.Calls.{bytes_of}
use Rattle.pen_core.proofs.FrameSteps.{reads_joined}
use Rattle.search_core.specs.Search.{IsFirst}
use Rattle.search_core.proofs.Counts.{count_by-append, found_within}
use Rattle.files_core.specs.Listing.{AreRecordsFrom}
use Rattle.files_core.proofs.PartsRead.{HasReadFirst, all_read, begun_by, begun_read, first_more, first_none, first_of_begun}
use Rattle.files_core.proofs.WindowRecords.{few_positions, framed_later, frames_list}
use Rattle.files_core.proofs.searching.find_in_parts.Goals as goal

pub loop-done-init : goal.loop-done-init
loop-done-init g c = record {
  inside = omega arith;
  read = [];
  so_far = first_none g.R.Record.form (g.D.Disk.keeps c.args.disk.now) (g.D.Disk.states c.args.disk.now) (g.D.Disk.faults c.args.disk.now);
  none = refl;
}

pub read-requires-clause-framed : goal.read-requires-clause-framed
read-requires-clause-framed g c κs within =
    let so_far = c.loop-done.invariant.so_far in (
      c.requires.framed.0,
      framed_later (g.D.Disk.keeps c.args.disk.now) (g.D.Disk.keeps c.loop-done.disk) (bytes_of (g.D.Disk.states c.args.disk.now)) (bytes_of (g.D.Disk.states c.loop-done.disk))
          c.requires.framed.0 c.args.framed.now so_far.model (λ model. sym (ap (λ s. s.seen) (so_far.same model))) c.requires.framed.1,
    )

pub loop-done-preserved : goal.loop-done-preserved
loop-done-preserved g c =
    let inv = c.loop-done.invariant in
    let e = c.in_ok-read.ensures in
    let is = λ (r : g.row.R.Denot). g.R.PartialEq.eq r c.args.wanted in
    let part : List g.row.R.Denot = c.read.new.self.records.items in
    let len : length c.records-records.result.now ≡ length part = ap length c.records-records.ensures in
    record {
      inside = omega (arith, len, e.inside);
      read = inv.read ++ part;
      so_far = subst (λ n. HasReadFirst g.R.Record.form (g.D.Disk.keeps c.args.disk.now) (g.D.Disk.keeps c.read.new.disk) (g.D.Disk.states c.args.disk.now) (g.D.Disk.states c.read.new.disk)
          (g.D.Disk.faults c.args.disk.now) (g.D.Disk.faults c.read.new.disk) (c.loop-done.done + n) (inv.read ++ part)) (sym len)
          (first_more g.R.Record.form (g.D.Disk.keeps c.args.disk.now) (g.D.Disk.keeps c.loop-done.disk) (g.D.Disk.keeps c.read.new.disk) (g.D.Disk.states c.args.disk.now)
          (g.D.Disk.states c.loop-done.disk) (g.D.Disk.states c.read.new.disk) (g.D.Disk.faults c.args.disk.now) (g.D.Disk.faults c.loop-done.disk) (g.D.Disk.faults c.read.new.disk)
          c.loop-done.done inv.read part inv.so_far e.read c.read.ensures.model c.read.ensures.same c.read.ensures.images e.faults);
      none = omega (arith, inv.none, subst (λ (rs : List g.row.R.Denot). count_by is rs ≡ 0) c.records-records.ensures (c.in_default.ensures), count_by-append is inv.read part);
    }

pub overflow_add-done : goal.overflow_add-done
overflow_add-done g c =
    let few = few_positions (g.D.Disk.keeps c.args.disk.now) (bytes_of (g.D.Disk.states c.args.disk.now)) c.requires.framed.0 c.args.framed.now c.requires.framed.1 in
    let len = ap length c.records-records.ensures in
    omega (arith, few, len, c.in_ok-read.ensures.inside)

pub loop-done-smaller : goal.loop-done-smaller
loop-done-smaller g c = let len = ap length c.records-records.ensures in omega (arith, len, c.in_ok-read.ensures.some, c.in_ok-read.ensures.inside)

pub returns-in_err-read-clause-images : goal.returns-in_err-read-clause-images
returns-in_err-read-clause-images g c = λ model.
    let so_far = c.loop-done.invariant.so_far in
    let m = c.read.ensures.model model in
    reads_joined (g.D.Disk.states c.args.disk.now) (g.D.Disk.states c.loop-done.disk) (g.D.Disk.states c.read.new.disk) (so_far.same m) (so_far.images m) (c.read.ensures.images model)

pub returns-clause-found : goal.returns-clause-found
returns-clause-found g c =
    let inv = c.loop-done.invariant in
    let laws = g.met.R.Record g.world.𝓛 g.world.𝓜 g.world.𝓡 ((λ s x. x), (λ x. x), (λ x. x), λ x. x) in
    let bytes = bytes_of (g.D.Disk.states c.args.disk.now) in
    let keeps = g.D.Disk.keeps c.loop-done.disk in
    let on = framed_later (g.D.Disk.keeps c.args.disk.now) keeps bytes bytes c.requires.framed.0 c.args.framed.now inv.so_far.model (λ model. refl) c.requires.framed.1 in
    let all : c.loop-done.done ≡ c.args.framed.now.tally.size = omega (arith, inv.inside, c.loop-done-test.false) in (
      inv.read,
      λ model. all_read g.R.Record.form laws.width_in_range.1 keeps bytes c.requires.framed.0 c.args.framed.now on c.requires.width g.R.Record.blank_value c.requires.any inv.read
          (subst (λ n. AreRecordsFrom g.R.Record.form bytes 0 n inv.read) all (inv.so_far.first model)) model,
      inv.none,
    )

pub returns-in-Some-clause-found : goal.returns-in-Some-clause-found
returns-in-Some-clause-found g c =
    let inv = c.loop-done.invariant in
    let e = c.in_ok-read.ensures in
    let laws = g.met.R.Record g.world.𝓛 g.world.𝓜 g.world.𝓡 ((λ s x. x), (λ x. x), (λ x. x), λ x. x) in
    let is = λ (r : g.row.R.Denot). g.R.PartialEq.eq r c.args.wanted in
    let bytes = bytes_of (g.D.Disk.states c.args.disk.now) in
    let keeps = g.D.Disk.keeps c.read.new.disk in
    let part : List g.row.R.Denot = c.read.new.self.records.items in
    let on = framed_later (g.D.Disk.keeps c.args.disk.now) keeps bytes bytes c.requires.framed.0 c.args.framed.now (λ model. inv.so_far.model (c.read.ensures.model model)) (λ model. refl)
    c.requires.framed.1 in
    let all = frames_list g.R.Record.form laws.width_in_range.1 keeps bytes c.requires.framed.0 c.args.framed.now on c.requires.width g.R.Record.blank_value in
    let so_far = first_more g.R.Record.form (g.D.Disk.keeps c.args.disk.now) (g.D.Disk.keeps c.loop-done.disk) keeps (g.D.Disk.states c.args.disk.now)
    (g.D.Disk.states c.loop-done.disk) (g.D.Disk.states c.read.new.disk) (g.D.Disk.faults c.args.disk.now) (g.D.Disk.faults c.loop-done.disk) (g.D.Disk.faults c.read.new.disk)
    c.loop-done.done inv.read part inv.so_far e.read c.read.ensures.model c.read.ensures.same c.read.ensures.images e.faults in
    let first = subst (λ (rs : List g.row.R.Denot). IsFirst is rs (Some c.in-Some.place)) c.records-records.ensures c.in-Some.ensures in (
      begun_by (inv.read ++ part) all,
      λ model. begun_read g.R.Record.form laws.width_in_range.1 keeps bytes c.requires.framed.0 c.args.framed.now on c.requires.width g.R.Record.blank_value c.requires.any
          (c.loop-done.done + length part) (inv.read ++ part) so_far.long (so_far.first model) model,
      subst (λ n. IsFirst is (begun_by (inv.read ++ part) all) (Some (n + c.in-Some.place))) inv.so_far.long (first_of_begun is inv.read part all c.in-Some.place inv.none first),
    )

pub overflow_add-result : goal.overflow_add-result
overflow_add-result g c =
    let is = λ (r : g.row.R.Denot). g.R.PartialEq.eq r c.args.wanted in
    let few = few_positions (g.D.Disk.keeps c.args.disk.now) (bytes_of (g.D.Disk.states c.args.disk.now)) c.requires.framed.0 c.args.framed.now c.requires.framed.1 in
    let first = subst (λ (rs : List g.row.R.Denot). IsFirst is rs (Some c.in-Some.place)) c.records-records.ensures c.in-Some.ensures in
    let within = found_within is c.read.new.self.records.items c.in-Some.place first.1 in
    omega (arith, few, within, c.in_ok-read.ensures.inside)

pub returns-in-Some-clause-images : goal.returns-in-Some-clause-images
returns-in-Some-clause-images g c = λ model.
    let so_far = c.loop-done.invariant.so_far in
    let m = c.read.ensures.model model in
    reads_joined (g.D.Disk.states c.args.disk.now) (g.D.Disk.states c.loop-done.disk) (g.D.Disk.states c.read.new.disk) (so_far.same m) (so_far.images m) (c.read.ensures.images model)
