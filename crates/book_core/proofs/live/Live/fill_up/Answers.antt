use Rattle.std.proofs.Common.{◌≡◌, ◌+◌, ◌-◌, ◌<◌, length, sym, ap, subst, ◌∙◌, arith}
use Rattle.std.proofs.lemmas.List.{length-replicate, take_all}
use Rattle.directory_core.specs.Chain.{total}
use Rattle.book_core.specs.Lists.{Phase, Seated, opening_of}
use Rattle.book_core.specs.Growing.{Grown, IsBookRefusal, size_of}
use Rattle.book_core.proofs.Steps.{learns-refl, fill_from_book, length_passed, length_refused}
use Rattle.block_core.specs.Length.{IsBlockLength, payload_len}
use Rattle.record_core.specs.Limits.{payload_limit}
use Rattle.book_core.proofs.live.Live.fill_up.Goals.{in-Ok-put, in-Err}
use Rattle.book_core.proofs.live.Live.fill_up.Goals as goal

pub returns-then-is_ended-clause-list : goal.returns-then-is_ended-clause-list
returns-then-is_ended-clause-list g c = learns-refl c.args.seat.now

pub returns-then-n-size-clause-list : goal.returns-then-n-size-clause-list
returns-then-n-size-clause-list g c =
    let reached = c.if-n-size.true in
    let size = c.size-size.ensures.size in
    (learns-refl c.args.seat.now, omega arith)

pub returns-then-known-self-clause-list : goal.returns-then-known-self-clause-list
returns-then-known-self-clause-list g c = learns-refl c.args.seat.now

pub returns-then-known-self-clause-fault : goal.returns-then-known-self-clause-fault
returns-then-known-self-clause-fault g c =
    let size = c.size-size.ensures.size in
    let short = c.if-n-size.false in
    let full = c.if-known-self.true in
    let known = c.known.ensures.count in
    let entries = ap (λ (s : Seated _). length s.pass.entries) c.seat.view_is in
    let room = ap (λ (l : Phase _). l.directory.room) c.self.view_is in
    let is = c.self.invariant.0 in
    (c.requires.own, omega arith, omega arith)

pub returns-then-is_err-clause-list : goal.returns-then-is_err-clause-list
returns-then-is_err-clause-list g c = learns-refl c.args.seat.now

pub returns-then-n-gt-RECORD_LIMIT-clause-list : goal.returns-then-n-gt-RECORD_LIMIT-clause-list
returns-then-n-gt-RECORD_LIMIT-clause-list g c = learns-refl c.args.seat.now

pub returns-in_default-clause-list : goal.returns-in_default-clause-list
returns-in_default-clause-list g c = learns-refl c.args.seat.now

pub returns-clause-list : goal.returns-clause-list
returns-clause-list g c =
    let old = c.args.seat.now in
    let short = c.args.n - c.size-size.result in
    let size = c.size-size.ensures.size in
    let less = c.if-n-size.false in
    elim c.match-put.branch [
      | in-Ok-put w ↦
          let e = w.in-Ok-put.ensures in
          let grown = subst (λ rs. Grown c.args.self.now old c.put.new.seat rs w.in-Ok-put.receipt) c.in-Ok.ensures.0 e.list in
          let at_once = e.at_once in
          let number = grown.number in
          let same = sym (take_all (length old.pass.entries) grown.before (omega arith)) ∙ grown.begins in
          rw w.result-is (record {
            count = short;
            grown = grown;
            some = omega arith;
            ends = (let start = grown.start in let len = grown.len in omega (arith, ap total same, length-replicate short c.args.v));
          })
      | in-Err w ↦ rw w.result-is w.in-Err.ensures.list.1
    ]

pub returns-clause-fault : goal.returns-clause-fault
returns-clause-fault g c =
    let live = c.args.self.now in
    let old = c.args.seat.now in
    let new = c.put.new.seat in
    let short = c.args.n - c.size-size.result in
    let size = c.size-size.ensures.size in
    let less = c.if-n-size.false in
    elim c.match-put.branch [
      | in-Ok-put w ↦ rw w.result-is tt
      | in-Err w ↦
          let e = w.in-Err.ensures in
          let same : size_of live new ≡ size_of live old = ap (λ es. length (opening_of live) + total es) e.known in
          let many = ap length c.in-Ok.ensures.0 ∙ length-replicate short c.args.v in
          let why = subst (λ n. IsBookRefusal live new n w.in-Err.fault) many e.fault in
          rw w.result-is
          (fill_from_book g.R.Record.form.width live new c.args.n short w.in-Err.fault (omega arith) (omega arith) c.in-Ok.ensures.1
          (let fits = c.if-n-gt-RECORD_LIMIT.false in omega arith) why)
    ]

pub returns-then-is_err-clause-fault : goal.returns-then-is_err-clause-fault
returns-then-is_err-clause-fault g c =
    let less = c.if-known-self.false in
    let known = c.known.ensures.count in
    let entries = ap (λ (s : Seated _). length s.pass.entries) c.seat.view_is in
    let room = ap (λ (l : Phase _). l.directory.room) c.self.view_is in
    let is = c.self.invariant.0 in
    let size = c.size-size.ensures.size in
    let short = c.if-n-size.false in
    let large = length_refused g.R.Record.form.width (c.args.n - c.size-size.result) c.check_len.result (sym c.is_err.ensures.value ∙ c.if-is_err.true) (omega arith) c.check_len.ensures in
    (c.requires.own, omega arith, omega arith, subst (λ m. payload_limit < payload_len g.R.Record.form.width (c.args.n - m)) size large)

pub returns-then-n-gt-RECORD_LIMIT-clause-fault : goal.returns-then-n-gt-RECORD_LIMIT-clause-fault
returns-then-n-gt-RECORD_LIMIT-clause-fault g c =
    let less = c.if-known-self.false in
    let known = c.known.ensures.count in
    let entries = ap (λ (s : Seated _). length s.pass.entries) c.seat.view_is in
    let room = ap (λ (l : Phase _). l.directory.room) c.self.view_is in
    let is = c.self.invariant.0 in
    let size = c.size-size.ensures.size in
    let short = c.if-n-size.false in
    let passed = length_passed g.R.Record.form.width (c.args.n - c.size-size.result) c.check_len.result (sym c.is_err.ensures.value ∙ c.if-is_err.false) c.check_len.ensures in
    let block = subst (λ m. IsBlockLength g.R.Record.form.width (c.args.n - m)) size passed in
    (c.requires.own, omega arith, omega arith, block, c.if-n-gt-RECORD_LIMIT.true)

pub returns-in_default-clause-fault : goal.returns-in_default-clause-fault
returns-in_default-clause-fault g c =
    let less = c.if-known-self.false in
    let known = c.known.ensures.count in
    let entries = ap (λ (s : Seated _). length s.pass.entries) c.seat.view_is in
    let room = ap (λ (l : Phase _). l.directory.room) c.self.view_is in
    let is = c.self.invariant.0 in
    let size = c.size-size.ensures.size in
    let short = c.if-n-size.false in
    let passed = length_passed g.R.Record.form.width (c.args.n - c.size-size.result) c.check_len.result (sym c.is_err.ensures.value ∙ c.if-is_err.false) c.check_len.ensures in
    let block = subst (λ m. IsBlockLength g.R.Record.form.width (c.args.n - m)) size passed in
    (c.requires.own, omega arith, omega arith, block, c.if-n-gt-RECORD_LIMIT.false)
