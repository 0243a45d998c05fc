use Rattle.std.proofs.Common.{◌≡◌, length, ◌∙◌}
use Rattle.pen_core.proofs.Opening.{found_known, found_opened}
use Rattle.pen_core.proofs.pen.Pen.go_on.Goals as goal

pub over-requires : goal.over-requires
over-requires g c =
    let laws = g.met.R.Record g.world.𝓛 g.world.𝓜 g.world.𝓡 ((λ s x. x), (λ x. x), (λ x. x), λ x. x) in
    let counted : c.len.result ≡ length c.args.scanned.now.records.items = c.len.ensures ∙ c.args.scanned.now.records.ok.0 in
    found_known c.requires c.in-Some.format c.in-Some.ensures.known c.len.result counted laws.width_in_range

pub returns-clause-opened : goal.returns-clause-opened
returns-clause-opened g c = λ model.
    let laws = g.met.R.Record g.world.𝓛 g.world.𝓜 g.world.𝓡 ((λ s x. x), (λ x. x), (λ x. x), λ x. x) in
    let counted : c.len.result ≡ length c.args.scanned.now.records.items = c.len.ensures ∙ c.args.scanned.now.records.ok.0 in
    let counts = c.over.ensures.counts in
    found_opened c.requires c.in-Some.format c.in-Some.ensures.known c.len.result counted
    c.over.result laws.writes_back model counts.0 counts.1 counts.2 (c.over.ensures.seen model)
