use Rattle.std.proofs.Common.{◌++◌, length, ap, ◌∙◌, arith}
use Rattle.segment_core.specs.Frame.{frame_text}
use Rattle.segment_core.specs.Runs.{runs_given, change_frame}
use Rattle.segment_core.proofs.Payload.{length-frame_text}
use Rattle.segment_core.proofs.Changes.{length-change_frame}
use Rattle.pen_core.proofs.frame_bytes.put_change.Goals as goal

pub returns-in_err-push-clause-sure : goal.returns-in_err-push-clause-sure
returns-in_err-push-clause-sure g c room =
    let laws = g.met.R.Record g.world.𝓛 g.world.𝓜 g.world.𝓡 ((λ s x. x), (λ x. x), (λ x. x), λ x. x) in
    let format = c.args.format in
    let pieces = g.G.GrowthList.growths c.args.pieces.now in
    let frame = change_frame g.R.Record.form (runs_given c.args.runs.now) pieces in
    let text = ap length (c.in_ok-append_change.ensures.text ∙ ap (λ bs. bs ++ frame_text format frame) c.in_ok-take_room.ensures.items) in
    let long = length-frame_text format frame in
    let payload = length-change_frame format g.R.Record.form (runs_given c.args.runs.now) pieces laws.width_of_bytes c.requires.filled in
    let len = c.requires.len in
    let taken = c.in_ok-take_room.ensures.room in
    let kept = c.append_change.ensures.capacity in
    let full = c.in_err-push.ensures.full in
    absurd (omega arith)
