use Rattle.std.proofs.Common.{◌++◌, ◌∙◌, length, ap, refl}
use Rattle.std.proofs.KnownBytes.{Consumes-trans}
use Rattle.serve_core.specs.Answers.{answer_bytes}
use Rattle.serve_core.proofs.Bytes.{few_records}
use Rattle.serve_core.proofs.Talks.{untold_by_growth}
use Rattle.serve_core.proofs.talking.exchange.Goals as goal

pub returns-in-Ok-append_to-clause-done : goal.returns-in-Ok-append_to-clause-done
returns-in-Ok-append_to-clause-done g c = (
  record {
    exchange = record { head = c.fill.new.buffer; block = c.respond.new.block.items; answer = c.in-Ok.answered.0; records = c.in-Ok.answered.1.now };
    is = c.in-Ok.ensures.told;
    read =
        Consumes-trans (g.I.Read.remaining c.args.requests.now) (g.I.Read.remaining c.fill.new.requests) (g.I.Read.remaining c.respond.new.requests)
        c.fill.new.buffer c.respond.new.block.items c.in_default.ensures c.in-Ok.ensures.read;
  },
  refl,
  c.in-Ok-append_to.ensures ∙ ap (λ bytes. bytes ++ answer_bytes g.R.Record.form c.in-Ok.answered.0 c.in-Ok.answered.1.now) c.clear.ensures.items,
)

pub returns-in-Err-append_to-clause-untold : goal.returns-in-Err-append_to-clause-untold
returns-in-Err-append_to-clause-untold g c = record {
  exchange = record { head = c.fill.new.buffer; block = c.respond.new.block.items; answer = c.in-Ok.answered.0; records = c.in-Ok.answered.1.now };
  is = c.in-Ok.ensures.told;
  read =
      Consumes-trans (g.I.Read.remaining c.args.requests.now) (g.I.Read.remaining c.fill.new.requests) (g.I.Read.remaining c.respond.new.requests)
      c.fill.new.buffer c.respond.new.block.items c.in_default.ensures c.in-Ok.ensures.read;
}

pub returns-in-Err-respond-clause-untold : goal.returns-in-Err-respond-clause-untold
returns-in-Err-respond-clause-untold g c =
    let remaining = g.I.Read.remaining in
    let cut = c.in-Err-respond.ensures.cut in
    untold_by_growth g.R.Record.form c.args.live.now c.args.seat.now c.respond.new.seat (remaining c.args.requests.now) (remaining c.fill.new.requests)
    (remaining c.respond.new.requests) c.in-Err-respond.end c.in-Err-respond.ensures.same c.fill.new.buffer cut.0 cut.1 c.in_default.ensures cut.2

pub append_to-requires-clause-few : goal.append_to-requires-clause-few
append_to-requires-clause-few g c κs within =
    let laws = g.met.R.Record g.world.𝓛 g.world.𝓜 g.world.𝓡 ((λ s x. x), (λ x. x), (λ x. x), λ x. x) in
    few_records (length c.in-Ok.answered.1.now) g.R.Record.form.width laws.width_in_range.0 c.in-Ok.ensures.few
