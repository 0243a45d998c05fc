use Rattle.std.proofs.Common.{subst}
use Rattle.std.specs.Io.KnownBytes.{Appends}
use Rattle.serve_core.proofs.Talks.{goes_on, ends, fails, untold}
use Rattle.serve_core.proofs.talking.talk_through.Goals as goal

pub returns-in-Some-end_of-clause-talked : goal.returns-in-Some-end_of-clause-talked
returns-in-Some-end_of-clause-talked g c =
    let form = g.R.Record.form in
    let remaining = g.I.Read.remaining in
    let contents = g.W.Write.contents in
    let done = c.in-Ok.ensures.done in
    let wrote = subst (Appends (contents c.loop.answers) (contents c.write_all.new.self)) c.as_slice.ensures.value c.in-Ok-write_all.ensures.bytes in
    ends form c.args.live.now c.args.seat.now (remaining c.args.requests.now) (contents c.args.answers.now) c.loop.next c.loop.seat c.exchange.new.seat
    (remaining c.loop.requests) (remaining c.exchange.new.requests) (contents c.loop.answers) c.loop.invariant done.0
    c.in-Ok.told c.exchange.new.out.items (contents c.write_all.new.self) c.in-Some-end_of.end done.1 done.2 wrote c.in-Some-end_of.ensures

pub loop-preserved : goal.loop-preserved
loop-preserved g c =
    let form = g.R.Record.form in
    let remaining = g.I.Read.remaining in
    let contents = g.W.Write.contents in
    let done = c.in-Ok.ensures.done in
    let wrote = subst (Appends (contents c.loop.answers) (contents c.write_all.new.self)) c.as_slice.ensures.value c.in-Ok-write_all.ensures.bytes in
    goes_on form c.args.live.now c.args.seat.now (remaining c.args.requests.now) (contents c.args.answers.now) c.loop.next c.loop.seat c.exchange.new.seat
    (remaining c.loop.requests) (remaining c.exchange.new.requests) (contents c.loop.answers) c.loop.invariant done.0
    c.exchange.new.next c.in-Ok.told c.exchange.new.out.items (contents c.write_all.new.self) done.1 done.2 wrote c.in-Ok.ensures.of c.in-Ok.ensures.numbers c.in_default-end_of.ensures

pub returns-in-Err-clause-talked : goal.returns-in-Err-clause-talked
returns-in-Err-clause-talked g c =
    let remaining = g.I.Read.remaining in
    let contents = g.W.Write.contents in
    untold g.R.Record.form c.args.live.now c.args.seat.now (remaining c.args.requests.now) (contents c.args.answers.now) c.loop.next c.loop.seat c.exchange.new.seat
    (remaining c.loop.requests) (remaining c.exchange.new.requests) (contents c.loop.answers) c.in-Err.end c.loop.invariant c.in-Err.ensures.untold

pub returns-in_default-clause-talked : goal.returns-in_default-clause-talked
returns-in_default-clause-talked g c =
    let remaining = g.I.Read.remaining in
    let contents = g.W.Write.contents in
    fails g.R.Record.form c.args.live.now c.args.seat.now (remaining c.args.requests.now) (contents c.args.answers.now) c.loop.next c.loop.seat c.exchange.new.seat
    (remaining c.loop.requests) (remaining c.exchange.new.requests) (contents c.loop.answers) c.loop.invariant c.in-Ok.ensures.done.0 (contents c.write_all.new.self)
