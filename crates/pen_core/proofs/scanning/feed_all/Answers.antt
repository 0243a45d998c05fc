use Rattle.std.proofs.lemmas.Grind.{common_steps}
use Rattle.std.proofs.Common.{◌≡◌, ◌⊎◌, ◌+◌, ◌-◌, ◌*◌, ◌<◌, ℕ, List, ◌++◌, length, take, drop, length-take, min, inl, inr, refl, sym, ap, subst, ◌∙◌, arith}
use Rattle.std.proofs.lemmas.Result.{err_from_is_err_and}
use Rattle.disk_core.specs.State.{now, IsImage}
use Rattle.disk_core.specs.Calls.{bytes_of}
use Rattle.disk_core.specs.Moments.{clock}
use Rattle.disk_core.proofs.JoinedMoments.{LeavesOnly-start}
use Rattle.segment_core.specs.Scanner.{IsDecided, IsCutShort}
use Rattle.record_core.specs.Bytes.{Encoding}
use Rattle.disk_core.specs.declared.fault.DiskFault.TheVariants.{Read}
use Rattle.segment_core.specs.declared.fault.ScanFault.TheVariants.{Memory}
use Rattle.pen_core.specs.declared.fault.OpenFault.{OpenFault}
use Rattle.pen_core.specs.declared.fault.OpenFault.TheVariants.{Scan, Disk}
use Rattle.pen_core.specs.Opening.{IsOpenRefusal, AreReadsMade, reads_of, pieces_front}
use Rattle.pen_core.proofs.Pieces.{taken_nothing, taken_same, one_more_stays, no_reads, next_piece, reads_upto, needed_more, needed_enough, read_all, front_parts}
use Rattle.pen_core.proofs.scanning.feed_all.Goals as goal

pub loop-at-init : goal.loop-at-init
loop-at-init g c =
    let old = g.D.Disk.states c.args.disk.now in
    let piece = length c.args.piece.now in
    let none : piece * reads_of piece 0 ≡ 0 = omega (arith, ap (λ n. piece * n) (no_reads piece c.requires.some)) in
    record {
      inside = omega arith;
      whole = λ lt. sym none;
      model = λ model. model;
      taken = taken_nothing g.R.Record.form (g.D.Disk.keeps c.args.disk.now) (bytes_of old) c.args.scanner.now c.requires.begun;
      same = λ model. refl;
      images = λ model. LeavesOnly-start old (IsImage (now old)) (λ image is. is);
      time = omega (arith, no_reads piece c.requires.some);
      needed = λ model k lt. absurd (omega (arith, lt, no_reads piece c.requires.some));
      faults = refl;
    }

pub returns-in_err-feed_piece-clause-images : goal.returns-in_err-feed_piece-clause-images
returns-in_err-feed_piece-clause-images g c = λ model.
    let m = c.feed_piece.ensures.model model in
    one_more_stays (g.D.Disk.states c.args.disk.now) (g.D.Disk.states c.loop-at.disk) (g.D.Disk.states c.feed_piece.new.disk)
    (c.loop-at.invariant.same m) (c.loop-at.invariant.images m) (c.feed_piece.ensures.same model)

pub returns-in_err-feed_piece-clause-refused : goal.returns-in_err-feed_piece-clause-refused
returns-in_err-feed_piece-clause-refused g c = λ model.
    let old = bytes_of (g.D.Disk.states c.args.disk.now) in
    let mid = bytes_of (g.D.Disk.states c.loop-at.disk) in
    let n = c.min-n.result in
    let size : length (take n c.loop-at.piece) ≡ n = omega (arith, length-take n c.loop-at.piece, c.min-n.ensures) in
    let same : mid ≡ old = ap (λ s. s.seen) (c.loop-at.invariant.same (c.feed_piece.ensures.model model)) in
    let p = err_from_is_err_and c.from_residual.result c.from_residual.ensures.1 in
    rw (p.1, p.2) (λ more.
    let rest = drop (c.loop-at.at + n) (take c.args.len old) ++ more in
    subst (λ bs. IsOpenRefusal g.R.Record.form bs c.in_err-feed_piece.field-0.0)
    (ap (λ k. take (c.loop-at.at + k) mid ++ rest) size
    ∙ ap (λ bs. take (c.loop-at.at + n) bs ++ rest) same
    ∙ front_parts (c.loop-at.at + n) c.args.len old more (omega (arith, c.min-n.ensures, c.loop-at.invariant.inside)))
    (c.in_err-feed_piece.ensures.refused model rest))

pub returns-in_err-feed_piece-clause-time : goal.returns-in_err-feed_piece-clause-time
returns-in_err-feed_piece-clause-time g c =
    let n_is = c.min-n.ensures ∙ ap (λ k. min k (c.args.len - c.loop-at.at)) c.loop-at.auto.piece in
    let next =
    next_piece (length c.args.piece.now) c.loop-at.at c.min-n.result c.args.len c.requires.some n_is
    c.loop-at-test.true (c.loop-at.invariant.whole c.loop-at-test.true) in
    let few = next.few in
    let p = err_from_is_err_and c.from_residual.result c.from_residual.ensures.1 in
    rw (p.1) (
      omega (arith, c.feed_piece.ensures.time, c.loop-at.invariant.time),
      omega (arith, c.feed_piece.ensures.time, c.loop-at.invariant.time, few),
    )

pub loop-at-preserved : goal.loop-at-preserved
loop-at-preserved g c =
    let form = g.R.Record.form in
    let old = g.D.Disk.states c.args.disk.now in
    let mid = g.D.Disk.states c.loop-at.disk in
    let new = g.D.Disk.states c.feed_piece.new.disk in
    let piece = length c.args.piece.now in
    let n = c.min-n.result in
    let whole = c.loop-at.invariant.whole c.loop-at-test.true in
    let n_is = c.min-n.ensures ∙ ap (λ k. min k (c.args.len - c.loop-at.at)) c.loop-at.auto.piece in
    let next = next_piece piece c.loop-at.at n c.args.len c.requires.some n_is c.loop-at-test.true whole in
    record {
      inside = next.inside;
      whole = next.whole;
      model = λ model. c.loop-at.invariant.model (c.feed_piece.ensures.model model);
      taken = (
          let read = length (take n c.loop-at.piece) in
          let size : read ≡ n = omega (arith, length-take n c.loop-at.piece, c.min-n.ensures) in
          let len : c.loop-at.at + read ≡ c.loop-at.at + n = omega arith in
          taken_same form (g.D.Disk.keeps c.feed_piece.new.disk) (bytes_of mid) (bytes_of old)
          (c.loop-at.at + read) (c.loop-at.at + n) c.feed_piece.new.scanner len
          (λ model. ap (λ s. s.seen) (c.loop-at.invariant.same (c.feed_piece.ensures.model model)))
          c.in_ok-feed_piece.ensures.more);
      same = λ model. ap now (c.feed_piece.ensures.same model) ∙ c.loop-at.invariant.same (c.feed_piece.ensures.model model);
      images = λ model. (
          let m = c.feed_piece.ensures.model model in
          one_more_stays old mid new (c.loop-at.invariant.same m) (c.loop-at.invariant.images m) (c.feed_piece.ensures.same model));
      time = omega (arith, c.feed_piece.ensures.time, c.loop-at.invariant.time, next.one_more);
      needed = λ model k lt. (
          let m = c.feed_piece.ensures.model model in
          needed_more form (g.D.Disk.keeps c.loop-at.disk) (bytes_of old) piece c.loop-at.at c.loop-at.scanner
          c.loop-at.invariant.taken m whole (c.if-not-is_decided.ensures.cut refl) c.in_ok-feed_piece.ensures.lost
          (c.loop-at.invariant.needed m) k (omega (arith, lt, next.one_more)));
      faults = c.in_ok-feed_piece.ensures.faults ∙ c.loop-at.invariant.faults;
    }

pub returns-else-not-is_decided-clause-time : goal.returns-else-not-is_decided-clause-time
returns-else-not-is_decided-clause-time g c =
    let few = reads_upto (length c.args.piece.now) c.loop-at.at c.args.len c.requires.some c.loop-at.invariant.inside c.loop-at.invariant.whole in (
      omega (arith, c.loop-at.invariant.time),
      omega (arith, c.loop-at.invariant.time, few),
    )

pub returns-else-not-is_decided-clause-reads : goal.returns-else-not-is_decided-clause-reads
returns-else-not-is_decided-clause-reads g c = λ model all.
    let old = g.D.Disk.states c.args.disk.now in
    let piece = length c.args.piece.now in
    let reads : reads_of piece c.loop-at.at ≡ clock (g.D.Disk.states c.loop-at.disk) - clock old = omega (arith, c.loop-at.invariant.time) in
    record {
      enough = inr (subst (λ n. IsDecided g.R.Record.form (pieces_front piece n (bytes_of old))) reads
          (needed_enough g.R.Record.form (g.D.Disk.keeps c.loop-at.disk) (bytes_of old) piece c.loop-at.at c.loop-at.scanner
          c.loop-at.invariant.taken model (c.loop-at.invariant.whole c.loop-at-test.true) (c.if-not-is_decided.ensures.same refl)));
      needed = λ k lt. c.loop-at.invariant.needed model k (omega (arith, lt, reads));
    }

pub returns-after-loop-at-clause-read : goal.returns-after-loop-at-clause-read
returns-after-loop-at-clause-read g c =
    read_all g.R.Record.form (g.D.Disk.keeps c.loop-at.disk) (bytes_of (g.D.Disk.states c.args.disk.now)) c.args.len c.loop-at.at
    c.loop-at.scanner c.loop-at.invariant.taken c.loop-at.invariant.inside (omega arith) c.loop-at-test.false

pub returns-after-loop-at-clause-time : goal.returns-after-loop-at-clause-time
returns-after-loop-at-clause-time g c =
    let few = reads_upto (length c.args.piece.now) c.loop-at.at c.args.len c.requires.some c.loop-at.invariant.inside c.loop-at.invariant.whole in (
      omega (arith, c.loop-at.invariant.time),
      omega (arith, c.loop-at.invariant.time, few),
    )

pub returns-after-loop-at-clause-reads : goal.returns-after-loop-at-clause-reads
returns-after-loop-at-clause-reads g c = λ model all.
    let old = g.D.Disk.states c.args.disk.now in
    let piece = length c.args.piece.now in
    let reads : clock (g.D.Disk.states c.loop-at.disk) - clock old ≡ reads_of piece c.loop-at.at = omega (arith, c.loop-at.invariant.time) in
    let end : c.loop-at.at ≡ length (bytes_of old) = omega (arith, all) in
    record {
      enough = inl (reads ∙ ap (reads_of piece) end);
      needed = λ k lt. c.loop-at.invariant.needed model k (omega (arith, lt, reads));
    }

-- the reads that were made where one was refused
reads_made : {R : Type 0} (piece : ℕ) (form : Encoding R) (bytes : List ℕ) (fault : OpenFault) (n : ℕ)
    → (fault ≡ Scan Memory) ⊎ (fault ≡ Disk Read) → ((k : ℕ) → k + 1 < n → IsCutShort form (pieces_front piece k bytes))
    → AreReadsMade piece form bytes fault n
reads_made piece form bytes fault n (inl is) cut = subst (λ f. AreReadsMade piece form bytes f n) (sym is) (inl refl)
reads_made piece form bytes fault n (inr is) cut = subst (λ f. AreReadsMade piece form bytes f n) (sym is) cut

pub returns-in_err-feed_piece-clause-reads : goal.returns-in_err-feed_piece-clause-reads
returns-in_err-feed_piece-clause-reads g c = λ model all.
    let old = g.D.Disk.states c.args.disk.now in
    let m = c.feed_piece.ensures.model model in
    let p = err_from_is_err_and c.from_residual.result c.from_residual.ensures.1 in
    rw (p.1, p.2)
    (reads_made (length c.args.piece.now) g.R.Record.form (bytes_of old) c.in_err-feed_piece.field-0.0
    (clock (g.D.Disk.states c.feed_piece.new.disk) - clock old) c.in_err-feed_piece.ensures.memory
    (λ k lt. c.loop-at.invariant.needed m k (omega (arith, lt, c.feed_piece.ensures.time, c.loop-at.invariant.time))))

pub returns-else-not-is_decided-clause-read : goal.returns-else-not-is_decided-clause-read
returns-else-not-is_decided-clause-read g c =
    let taken = c.loop-at.invariant.taken in
    record {
      image = taken.image;
      inside = omega (arith, taken.size, c.loop-at.invariant.inside);
      short = c.ranges.len.fits;
      fits = taken.fits;
      fed = taken.fed;
      fed_all = λ more all. c.if-not-is_decided.ensures.fed refl taken.image more taken.fed;
      is = λ model. taken.is model ∙ ap (λ n. take n (bytes_of (g.D.Disk.states c.args.disk.now))) (sym taken.size);
    }

pub feed_piece-requires-clause-taken : goal.feed_piece-requires-clause-taken
feed_piece-requires-clause-taken g c = grind (arith, common_steps)

pub feed_piece-requires-clause-inside : goal.feed_piece-requires-clause-inside
feed_piece-requires-clause-inside g c = grind (arith, common_steps)

pub feed_piece-requires-clause-fits : goal.feed_piece-requires-clause-fits
feed_piece-requires-clause-fits g c = grind (arith, common_steps)

pub slice_bounds-feed_piece-end-in-loop-at : goal.slice_bounds-feed_piece-end-in-loop-at
slice_bounds-feed_piece-end-in-loop-at g c = grind (arith, common_steps)
