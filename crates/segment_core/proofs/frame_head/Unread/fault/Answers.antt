use Rattle.std.proofs.Common.{Err, subst, ◌∙◌, arith}
use Rattle.segment_core.specs.declared.frame_head.Unread.{Unread}
use Rattle.segment_core.specs.FrameHead.{IsNextHead}
use Rattle.segment_core.proofs.Fronts.{faulty_here}
use Rattle.segment_core.proofs.frame_head.Unread.fault.Goals as goal

pub returns-in-Short : goal.returns-in-Short
returns-in-Short c shape bytes size is =
    let short = subst (λ (u : Unread). IsNextHead shape c.args.at bytes (Err u)) c.in-Short.is is in
    let none = c.if-left-eq0.true in
    rw c.damaged.ensures (short.opened, short.empty (size ∙ none))

pub returns-in-Short-2 : goal.returns-in-Short-2
returns-in-Short-2 c shape bytes size is =
    let short = subst (λ (u : Unread). IsNextHead shape c.args.at bytes (Err u)) c.in-Short.is is in
    let some = c.if-left-eq0.false in
    rw c.damaged-in-Short-2.ensures (short.opened, short.cut (omega arith))

pub returns-in-Fault : goal.returns-in-Fault
returns-in-Fault c shape bytes size is =
    faulty_here shape c.args.at bytes c.in-Fault.fault (subst (λ (u : Unread). IsNextHead shape c.args.at bytes (Err u)) c.in-Fault.is is)
