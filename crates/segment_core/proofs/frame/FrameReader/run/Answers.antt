use Rattle.std.proofs.Common.{◌<◌, length, sym, subst}
use Rattle.segment_core.specs.Reading.{Seen, runs_of}
use Rattle.segment_core.proofs.Reader.{is_run_of}
use Rattle.segment_core.proofs.frame.FrameReader.run.Goals as goal

pub run_at-start-requires-clause-inside : goal.run_at-start-requires-clause-inside
run_at-start-requires-clause-inside c =
    let r = c.self.inside in
    let below = subst (λ (s : Seen). c.args.k < length (runs_of s.frame)) (sym c.self.view_is) c.requires in
    (is_run_of r.at r.shape r.heads r.records r.payload.now r.kind c.args.k c.self.invariant below).inside

pub run_at-start-requires-clause-counted : goal.run_at-start-requires-clause-counted
run_at-start-requires-clause-counted c =
    let r = c.self.inside in
    let below = subst (λ (s : Seen). c.args.k < length (runs_of s.frame)) (sym c.self.view_is) c.requires in
    (is_run_of r.at r.shape r.heads r.records r.payload.now r.kind c.args.k c.self.invariant below).counted
