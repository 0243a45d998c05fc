use Rattle.std.proofs.Common.{◌≡◌, ◌*◌, true, false, not, length, ap, subst, ◌∙◌}
use Rattle.std.specs.Result.{is_ok}
use Rattle.serve_core.specs.Talks.{IsCutRead}
use Rattle.serve_core.proofs.Refusals.{as_before, not_counted}
use Rattle.serve_core.proofs.growing.grow.Goals as goal

pub returns-in-Err-clause-told : goal.returns-in-Err-clause-told
returns-in-Err-clause-told g c = (
  as_before c.args.seat.now,
  not_counted g.R.Record.form c.args.live.now c.args.count c.args.block.now.items c.args.seat.now c.in-Err.refusal c.in-Err.ensures c.requires.empty,
)

-- no memory, so the block is as it was
pub returns-then-is_err-clause-told : goal.returns-then-is_err-clause-told
returns-then-is_err-clause-told g c =
    let failed : is_ok c.resize.result ≡ false = c.is_err.ensures.negation ∙ ap not c.if-is_err.true in
    let same = rw failed at c.resize.ensures.items in
    (as_before c.args.seat.now, (c.in_default.ensures, same ∙ c.requires.empty))

pub returns-in-Err-fill-clause-cut : goal.returns-in-Err-fill-clause-cut
returns-in-Err-fill-clause-cut g c =
    let remaining = g.I.Read.remaining in
    let resized : is_ok c.resize.result ≡ true = c.is_err.ensures.negation ∙ ap not c.if-is_err.false in
    let long = rw resized at c.resize.ensures.len in
    let all : length c.fill.new.buffer ≡ c.args.count * g.R.Record.form.width =
    c.fill.auto.buffer ∙ c.as_mut_slice.ensures.len ∙ long ∙ ap (λ width. c.args.count * width) c.width_of.ensures.is in
    record {
      len = c.in_default.ensures;
      by = c.in-Err-fill.end;
      cut = subst (λ n. IsCutRead n (remaining c.args.requests.now) (remaining c.fill.new.requests) c.in-Err-fill.end) all c.in-Err-fill.ensures;
      within = c.within_request.ensures;
    }
