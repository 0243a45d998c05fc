use Rattle.std.proofs.Common.{◌≡◌, ◌+◌, ◌++◌, ◌∷◌, [], ℕ, List, Err, length, take, refl, sym, ap, subst, ◌∙◌, arith}
use Rattle.std.proofs.lemmas.Result.{err_from_is_err_and}
use Rattle.segment_core.specs.declared.format.Shape.{Shape}
use Rattle.segment_core.specs.Frame.{frame_text}
use Rattle.segment_core.specs.Fault.{first_line, order_lines}
use Rattle.segment_core.specs.Reading.{Seen, IsNext, BeginsWith, record_bytes_of}
use Rattle.segment_core.specs.FrameWalk.{ArePlaces, with_records}
use Rattle.segment_core.proofs.Payload.{length-frame_text}
use Rattle.segment_core.proofs.FrameFront.{inside, len_told}
use Rattle.segment_core.proofs.FrameWalked.{shown, next_head, walked_few, may_come, ended_by_lines, ended_by_order, taken_there}
use Rattle.segment_core.proofs.frame_walk.FrameWalk.take.Goals as goal

pub returns-in-Err-clause-ended : goal.returns-in-Err-clause-ended
returns-in-Err-clause-ended c = λ left bytes whole prefix. (
    let walk = c.args.self.now in
    let front : List ℕ = c.args.front.now in
    let kind = c.requires.front.0 in
    let is = c.requires.front.1 in
    let there = shown front c.put_front.new.frame.items c.args.len (inside walk.shape kind c.args.len front is) c.in-Ok.ensures.long c.in-Ok.ensures.begins in
    let next : IsNext walk.shape walk.at (front ++ there.rest) (Err c.in-Err.unread)
    = subst (λ (bs : List ℕ). IsNext walk.shape walk.at bs (Err c.in-Err.unread)) (ap (take c.args.len) c.deref.ensures.value ∙ there.is) c.in-Err.ensures in
    let found = c.fault.ensures walk.shape (front ++ there.rest) there.size (next_head walk.shape walk.at (front ++ there.rest) c.in-Err.unread next) in
    ended_by_lines walk kind c.args.len front there.rest is left bytes prefix whole (omega (arith, there.size)) c.fault.result found.1)

pub returns-in_err-check-clause-ended : goal.returns-in_err-check-clause-ended
returns-in_err-check-clause-ended c =
    let p = err_from_is_err_and c.from_residual.result c.from_residual.ensures.1 in
    rw (p.1, p.2) (λ left bytes whole prefix. (
    let walk = c.args.self.now in
    let front : List ℕ = c.args.front.now in
    let kind = c.requires.front.0 in
    let is = c.requires.front.1 in
    let seen : Seen = c.in-Ok-Some.frame in
    let there = shown front c.put_front.new.frame.items c.args.len (inside walk.shape kind c.args.len front is) c.in-Ok.ensures.long c.in-Ok.ensures.begins in
    let next = rw c.in-Ok-Some.field-0-is at c.in-Ok-Some.ensures in
    let begins : BeginsWith walk.shape (front ++ there.rest) seen.frame
    = subst (λ (bs : List ℕ). BeginsWith walk.shape bs seen.frame) (ap (take c.args.len) c.deref.ensures.value ∙ there.is) next.2 in
    ended_by_order walk kind c.args.len front there.rest is left bytes prefix whole (omega (arith, there.size)) seen.frame begins c.in_err-check.field-0.0
    (ap (λ n. first_line (order_lines n walk.tally seen.frame)) (sym next.0) ∙ c.in_err-check.ensures)))

pub after-self-requires-clause-few : goal.after-self-requires-clause-few
after-self-requires-clause-few c =
    let few = walked_few c.requires.walked.0 c.args.self.now c.requires.walked.1 in
    let placed = c.requires.place in
    omega (arith, few.0, few.1)

pub overflow_add-self-2 : goal.overflow_add-self-2
overflow_add-self-2 c =
    let few = walked_few c.requires.walked.0 c.args.self.now c.requires.walked.1 in
    let placed = c.requires.place in
    omega (arith, few.0)

pub returns-clause-taken : goal.returns-clause-taken
returns-clause-taken c = λ left whole. (
    let walk = c.args.self.now in
    let front : List ℕ = c.args.front.now in
    let kind = c.requires.front.0 in
    let is = c.requires.front.1 in
    let seen : Seen = c.in-Ok-Some.frame in
    let there = shown front c.put_front.new.frame.items c.args.len (inside walk.shape kind c.args.len front is) c.in-Ok.ensures.long c.in-Ok.ensures.begins in
    let next = rw c.in-Ok-Some.field-0-is at c.in-Ok-Some.ensures in
    let same : seen.shape ≡ walk.shape = next.1 in
    let begins : BeginsWith walk.shape (front ++ there.rest) seen.frame
    = subst (λ (bs : List ℕ). BeginsWith walk.shape bs seen.frame) (ap (take c.args.len) c.deref.ensures.value ∙ there.is) next.2 in
    let len : c.len.result ≡ length (frame_text walk.shape.format seen.frame) = c.len.ensures.is ∙ ap (λ (s : Shape). length (frame_text s.format seen.frame)) same in
    let told = len_told walk.shape kind c.args.len front is there.rest seen.frame begins in
    let some = length-frame_text walk.shape.format seen.frame in
    let may = c.in_ok-check.ensures in
    let placed = c.requires.place in
    record {
      further = omega arith;
      inside = omega arith;
      walked = λ frames bytes walked prefix.
          taken_there walk kind c.args.len front there.rest is left bytes prefix whole (omega (arith, there.size)) seen.frame begins frames _ walked may refl
          (ap (λ n. walk.at + n) len) refl c.after-self.ensures
          (subst (λ (s : Shape). ArePlaces s (frames ++ with_records seen.frame (take (length (record_bytes_of seen.frame)) prefix.rest) ∷ []) c.take.new.self) same
          (c.in-Ok-take.ensures frames (take (length (record_bytes_of seen.frame)) prefix.rest) (may_come frames walk seen walked next.0 same begins.whole may (omega arith))));
    })
