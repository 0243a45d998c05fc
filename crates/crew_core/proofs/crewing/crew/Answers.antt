use Rattle.std.proofs.Common.{◌≡◌, ℕ, length, map, All, Vec, sym, ap, subst, ◌∙◌, arith}
use Rattle.pen_core.specs.PenOf.{PenOf}
use Rattle.book_core.specs.declared.seat.Receipt.{Receipt}
use Rattle.directory_core.specs.Chain.{IsPrefix}
use Rattle.book_core.specs.Lists.{Phase, Seated, IsSeatOf, StandInList}
use Rattle.flush_core.specs.Flusher.{FlusherOf, FlusherLearns, IsFlusherOf}
use Rattle.vault_core.proofs.Handed.{IsFlusherOf-learns}
use Rattle.crew_core.specs.Crewing.{AreHome}
use Rattle.crew_core.proofs.Homes.{all-of, all_heed, crewed}
use Rattle.crew_core.proofs.Left.{HaveTheirSeats, home_seats, left_seat, of_growers}
use Rattle.crew_core.proofs.Served.{ServesVault, served_first, served_more, is_back}
use Rattle.crew_core.proofs.crewing.crew.Goals as goal

pub gather-requires-after_bounds : goal.gather-requires-after_bounds
gather-requires-after_bounds g c κs within =
    let source = c.args.source.now in
    record {
      all_of = all-of g.R.Record.form.width c.in-Ok-share.begun.0 (g.S.Source.count_of source) (g.S.Source.block_of source)
          (g.G.Gate.may_stop c.args.gate.now) (g.G.Gate.has_let c.args.gate.now) (g.G.Gate.was_told c.args.gate.now) _ c.run_phase-flusher.result.1.seats.items _ _ c.run_phase-flusher.ensures.home;
      flusher_of = c.run_phase-flusher.ensures.flusher;
    }

pub returns-in-Ok-gather-clause-crewed : goal.returns-in-Ok-gather-clause-crewed
returns-in-Ok-gather-clause-crewed g c =
    let source = c.args.source.now in
    let count = g.S.Source.count_of source in
    let block = g.S.Source.block_of source in
    let may_stop = g.G.Gate.may_stop c.args.gate.now in
    let has_let = g.G.Gate.has_let c.args.gate.now in
    let was_told = g.G.Gate.was_told c.args.gate.now in
    let home = c.run_phase-flusher.result.1 in
    let shares = c.in-Ok-share.ensures.shares in
    let serves : ServesVault g.R.Record.form g.D.Disk.keeps g.D.Disk.states c.args.vault c.in-Ok-share.begun.0 c.in-Ok-share.begun.1 c.run_phase-flusher.result.0 =
    record { blocks = shares.blocks; pen = shares.pen; of = c.run_phase-flusher.ensures.flusher; goes = c.run_phase-flusher.ensures.served } in
    let seats = c.in-Ok-share.ensures.seats in
    let many = seats.0 ∙ c.growers-growers.ensures in
    let receipts = map (λ (its : Vec Receipt _). its.items) home.receipts.items in
    let all : AreHome g.R.Record.form.width c.in-Ok-share.begun.0 count block may_stop has_let was_told (g.S.Source.growers_of source) home.seats.items receipts home.faults.items =
    subst (λ (n : ℕ). AreHome g.R.Record.form.width c.in-Ok-share.begun.0 count block may_stop has_let was_told n home.seats.items receipts home.faults.items)
    (let ok = c.in-Ok-share.begun.2.ok in omega arith) c.run_phase-flusher.ensures.home in (
      c.run_phase-flusher.result.0.pass.entries,
      crewed g.R.Record.form.width c.in-Ok-share.begun.0 count block may_stop has_let was_told (g.S.Source.growers_of source) home.seats.items receipts home.faults.items all
          c.args.vault c.in-Ok-gather.vault c.run_phase-flusher.result.0 shares.blocks
          (shares.room_is ∙ c.room_of-room.ensures) c.in-Ok-gather.ensures.whole c.in-Ok-gather.ensures.list,
      is_back serves c.in-Ok-gather.vault c.in-Ok-gather.ensures.pen c.in-Ok-gather.ensures.whole.pen_whole c.in-Ok-gather.ensures.told,
      λ now. served_first serves c.in-Ok-gather.vault.pen c.in-Ok-gather.ensures.pen now,
    )

pub returns-in-Ok-gather-clause-heeds : goal.returns-in-Ok-gather-clause-heeds
returns-in-Ok-gather-clause-heeds g c =
    let source = c.args.source.now in
    let count = g.S.Source.count_of source in
    let block = g.S.Source.block_of source in
    let may_stop = g.G.Gate.may_stop c.args.gate.now in
    let has_let = g.G.Gate.has_let c.args.gate.now in
    let was_told = g.G.Gate.was_told c.args.gate.now in
    let growers = g.S.Source.growers_of source in
    let live = c.in-Ok-share.begun.0 in
    let home = c.run_phase-flusher.result.1 in
    let receipts = map (λ (its : Vec Receipt _). its.items) home.receipts.items in
    let many = c.in-Ok-share.ensures.seats.0 ∙ c.growers-growers.ensures in
    let all : AreHome g.R.Record.form.width live count block may_stop has_let was_told growers home.seats.items receipts home.faults.items =
    subst (λ (n : ℕ). AreHome g.R.Record.form.width live count block may_stop has_let was_told n home.seats.items receipts home.faults.items)
    (let ok = c.in-Ok-share.begun.2.ok in omega arith) c.run_phase-flusher.ensures.home in
    all_heed g.R.Record.form.width live count block may_stop has_let was_told growers home.seats.items receipts home.faults.items all

pub with_all_known-requires-clause-of : goal.with_all_known-requires-clause-of
with_all_known-requires-clause-of g c = λ _ _.
    let source = c.args.source.now in
    let back = c.in-Err-gather.ensures.back in
    rw (back.0, back.1, back.2) (record {
      all_of = all-of g.R.Record.form.width c.in-Ok-share.begun.0 (g.S.Source.count_of source) (g.S.Source.block_of source)
          (g.G.Gate.may_stop c.args.gate.now) (g.G.Gate.has_let c.args.gate.now) (g.G.Gate.was_told c.args.gate.now) _ c.run_phase-flusher.result.1.seats.items _ _ c.run_phase-flusher.ensures.home;
      flusher_of = c.run_phase-flusher.ensures.flusher;
    })

pub with_all_known-requires-clause-refused : goal.with_all_known-requires-clause-refused
with_all_known-requires-clause-refused g c = λ _ _.
    let back = c.in-Err-gather.ensures.back in
    rw (back.0, back.1, back.2) c.in-Err-gather.ensures.refused

pub returns-in-Err-gather-clause-refused : goal.returns-in-Err-gather-clause-refused
returns-in-Err-gather-clause-refused g c =
    let source = c.args.source.now in
    let back = c.in-Err-gather.ensures.back in
    let known = c.with_all_known.ensures in
    let left = c.with_all_known.result in
    let begun = c.in-Ok-share.begun in
    let home = c.run_phase-flusher.result.1 in
    let served = c.run_phase-flusher.result.0 in
    let shares = c.in-Ok-share.ensures.shares in
    let serves : ServesVault g.R.Record.form g.D.Disk.keeps g.D.Disk.states c.args.vault begun.0 begun.1 served =
    record { blocks = shares.blocks; pen = shares.pen; of = c.run_phase-flusher.ensures.flusher; goes = c.run_phase-flusher.ensures.served } in
    let live : left.live ≡ begun.0 = known.same.0 ∙ back.0 in
    let seats : left.seats.items ≡ home.seats.items = known.same.1 ∙ back.1 in
    let learns : FlusherLearns served left.flusher = subst (λ (f : FlusherOf _ _). FlusherLearns f left.flusher) back.2 known.learns in
    let all : All (IsSeatOf begun.0) home.seats.items =
    all-of g.R.Record.form.width begun.0 (g.S.Source.count_of source) (g.S.Source.block_of source)
    (g.G.Gate.may_stop c.args.gate.now) (g.G.Gate.has_let c.args.gate.now) (g.G.Gate.was_told c.args.gate.now) _ home.seats.items _ _ c.run_phase-flusher.ensures.home in (
      ap (λ (l : Phase _). l.blocks) live ∙ shares.blocks,
      ap (λ (l : Phase _). l.directory.room) live ∙ shares.room_is ∙ c.room_of-room.ensures,
      ap (λ (l : Phase _). l.seat_count) live ∙ shares.seats_are ∙ c.growers-growers.ensures,
      (let same = ap length seats in let long = c.run_phase-flusher.ensures.home.as_many_seats in let ok = begun.2.ok in
          let many = c.in-Ok-share.ensures.seats.0 in let all = c.growers-growers.ensures in omega arith),
      (λ kept. subst (λ (p : PenOf _). g.D.Disk.keeps p.disk) shares.pen
          (c.run_phase-flusher.ensures.served.model (subst (λ (p : PenOf _). g.D.Disk.keeps p.disk) learns.pen_same kept))),
      record {
        all_of = subst (λ (l : Phase _). All (IsSeatOf l) left.seats.items) (sym live) (subst (All (IsSeatOf begun.0)) (sym seats) all);
        flusher_of = subst (λ (l : Phase _). IsFlusherOf (g.D.Disk.keeps left.flusher.pen.disk) l left.flusher) (sym live)
            (IsFlusherOf-learns g.D.Disk.keeps begun.0 served left.flusher c.run_phase-flusher.ensures.flusher learns);
      },
      known.refused,
      served_more serves left.flusher.pass.entries learns.begins left.flusher.pen learns.pen_same,
    )

pub returns-in-Err-gather-clause-leaves : goal.returns-in-Err-gather-clause-leaves
returns-in-Err-gather-clause-leaves g c =
    let source = c.args.source.now in
    let width = g.R.Record.form.width in
    let count = g.S.Source.count_of source in
    let block = g.S.Source.block_of source in
    let may_stop = g.G.Gate.may_stop c.args.gate.now in
    let has_let = g.G.Gate.has_let c.args.gate.now in
    let was_told = g.G.Gate.was_told c.args.gate.now in
    let growers = g.S.Source.growers_of source in
    let back = c.in-Err-gather.ensures.back in
    let known = c.with_all_known.ensures in
    let left = c.with_all_known.result in
    let live = c.in-Ok-share.begun.0 in
    let home = c.run_phase-flusher.result.1 in
    let es = left.flusher.pass.entries in
    let receipts = map (λ (its : Vec Receipt _). its.items) home.receipts.items in
    let many = c.in-Ok-share.ensures.seats.0 ∙ c.growers-growers.ensures in
    let all : AreHome width live count block may_stop has_let was_told growers home.seats.items receipts home.faults.items =
    subst (λ (n : ℕ). AreHome width live count block may_stop has_let was_told n home.seats.items receipts home.faults.items)
    (let ok = c.in-Ok-share.begun.2.ok in omega arith) c.run_phase-flusher.ensures.home in
    let stand : All StandInList home.seats.items = subst (All StandInList) back.1 known.stand in
    let begin : All (λ s. IsPrefix s.pass.entries es) home.seats.items = subst (All (λ (s : Seated _). IsPrefix s.pass.entries es)) back.1 known.begin in
    let have : HaveTheirSeats count block growers home.seats.items = home_seats all in
    rw (known.same.1, back.1) (left_seat have stand begin, of_growers have stand begin)
