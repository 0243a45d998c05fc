use Rattle.std.proofs.Common.{◌≡◌, ◌*◌, ◌∙◌, length, ap, arith}
use Rattle.segment_core.proofs.Written.{payload_len_more}
use Rattle.flush_core.proofs.Next.{from_on, slice_get-from_on, IsGreatest_full, filled_from_on}
use Rattle.flush_core.proofs.group.next_group.Goals as goal

pub returns-then-len-limit-clause-greatest : goal.returns-then-len-limit-clause-greatest
returns-then-len-limit-clause-greatest g c =
    let i = c.loop-number.invariant in
    let entries = c.args.pass.now.entries in
    let e = c.in-Some.entry.now in
    let here = slice_get-from_on entries c.args.from c.loop-number.group.count e (rw (← i.at, ← i.same) c.in-Some.ensures.value) in
    let len : length c.records.result.now * c.width_of.result ≡ length e.records * g.R.Record.form.width =
    ap (λ rs. length rs * c.width_of.result) c.records.ensures.value ∙ ap (λ w. length e.records * w) c.width_of.ensures.is in
    let payload = i.payload in
    let fits = i.fits in
    let large = c.if-len-limit.true in
    IsGreatest_full g.R.Record.form.width c.args.limit (from_on c.args.from entries) c.loop-number.group.count e.records here (omega arith) (omega arith)

pub returns-then-len-limit-clause-filled : goal.returns-then-len-limit-clause-filled
returns-then-len-limit-clause-filled g c = filled_from_on g.R.Record.form.width c.args.pass.now.entries c.args.from c.known-known.ensures.in_a_frame

pub loop-number-preserved : goal.loop-number-preserved
loop-number-preserved g c =
    let i = c.loop-number.invariant in
    let entries = c.args.pass.now.entries in
    let e = c.in-Some.entry.now in
    let here = slice_get-from_on entries c.args.from c.loop-number.group.count e (rw (← i.at, ← i.same) c.in-Some.ensures.value) in
    let len : length c.records.result.now * c.width_of.result ≡ length e.records * g.R.Record.form.width =
    ap (λ rs. length rs * c.width_of.result) c.records.ensures.value ∙ ap (λ w. length e.records * w) c.width_of.ensures.is in
    let more = payload_len_more g.R.Record.form.width (from_on c.args.from entries) c.loop-number.group.count e.records here in
    let payload = i.payload in
    let fits = i.fits in
    let small = c.if-len-limit.false in
    let at = i.at in
    record { same = c.entry.ensures.same ∙ i.same; at = omega arith; payload = omega arith; fits = omega arith }

pub returns-clause-filled : goal.returns-clause-filled
returns-clause-filled g c = filled_from_on g.R.Record.form.width c.args.pass.now.entries c.args.from c.known-known.ensures.in_a_frame
