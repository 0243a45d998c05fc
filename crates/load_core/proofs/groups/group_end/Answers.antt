use Rattle.std.proofs.Common.{◌*◌, length, ap, arith}
use Rattle.load_core.proofs.Rows.{payload-row_part, records-row_part}
use Rattle.load_core.proofs.groups.group_end.Goals as goal

pub returns-then-len-room : goal.returns-then-len-room
returns-then-len-room g c =
    let i = c.loop-k.invariant in
    let bytes = i.bytes in
    let records = i.records in
    let payload_is = i.payload_is in
    let records_are = i.records_are in
    let long = c.if-len-room.true in
    let inside = c.loop-k-test.true in
    let count = c.count-k-end.ensures in
    let from = c.loop-k.auto.k in
    let more = records-row_part c.args.row.now.0 c.args.from c.loop-k.k c.growth.result.now (omega arith) c.growth.ensures in
    record {
      order = omega arith;
      inside = omega arith;
      fits = record { bytes = omega arith; records = omega arith };
      most = λ less fits. (let all = fits.records in omega arith);
    }

pub returns-then-bytes-limit : goal.returns-then-bytes-limit
returns-then-bytes-limit g c =
    let i = c.loop-k.invariant in
    let bytes = i.bytes in
    let records = i.records in
    let payload_is = i.payload_is in
    let records_are = i.records_are in
    let large = c.if-bytes-limit.true in
    let inside = c.loop-k-test.true in
    let count = c.count-k-end.ensures in
    let from = c.loop-k.auto.k in
    let len = ap (λ w. length c.growth.result.now * w) c.width_of-width.ensures.is in
    let more = payload-row_part c.args.row.now.0 c.args.from c.loop-k.k c.growth.result.now (omega arith) c.growth.ensures g.R.Record.form.width in
    record {
      order = omega arith;
      inside = omega arith;
      fits = record { bytes = omega arith; records = omega arith };
      most = λ less fits. (let all = fits.bytes in omega arith);
    }

pub loop-k-preserved : goal.loop-k-preserved
loop-k-preserved g c =
    let i = c.loop-k.invariant in
    let payload_is = i.payload_is in
    let records_are = i.records_are in
    let bytes = i.bytes in
    let records = i.records in
    let short = c.if-len-room.false in
    let small = c.if-bytes-limit.false in
    let from = c.loop-k.auto.k in
    let len = ap (λ w. length c.growth.result.now * w) c.width_of-width.ensures.is in
    let more = payload-row_part c.args.row.now.0 c.args.from c.loop-k.k c.growth.result.now (omega arith) c.growth.ensures g.R.Record.form.width in
    let many = records-row_part c.args.row.now.0 c.args.from c.loop-k.k c.growth.result.now (omega arith) c.growth.ensures in
    record { payload_is = omega arith; records_are = omega arith; bytes = omega arith; records = omega arith }
