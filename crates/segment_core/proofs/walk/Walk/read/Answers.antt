use Rattle.std.proofs.lemmas.Grind.{common_steps}
use Rattle.std.proofs.Common.{◌≡◌, ◌+◌, ℕ, true, List, Ok, Some, Err, length, drop, ap, subst, ◌∙◌, arith, inl, inr}
use Rattle.std.proofs.lemmas.List.{take_rest, drop-drop}
use Rattle.std.proofs.lemmas.Result.{err_from_is_err_and}
use Rattle.segment_core.specs.declared.fault.ScanFault.{ScanFault}
use Rattle.segment_core.specs.declared.format.Shape.{Shape}
use Rattle.segment_core.specs.declared.frame_head.Unread.TheVariants.{Fault}
use Rattle.segment_core.specs.Frame.{frame_text}
use Rattle.segment_core.specs.Reading.{Seen, IsNext, BeginsWith, IsShort, IsFaulty}
use Rattle.segment_core.specs.Fault.{is_closed}
use Rattle.segment_core.specs.Walk.{StandsBefore, IsWalkRefused}
use Rattle.segment_core.proofs.Walked.{stands_behind, inside_image, nearer, refused_by_lines, refused_by_order}
use Rattle.segment_core.proofs.walk.Walk.read.Goals as goal

pub read_frame-requires-clause-place : goal.read_frame-requires-clause-place
read_frame-requires-clause-place g c =
    let image = c.requires.0 in
    let stands = c.loop-frame.invariant.stands image c.requires.1 in
    let len = inside_image g.R.Record.form image (drop c.loop-frame.used c.args.bytes.now) c.loop-frame.self stands in
    let rest = ap length (take_rest c.args.bytes.now c.loop-frame.used) in
    let small = c.requires.2 in
    omega arith

pub step-requires-clause-behind : goal.step-requires-clause-behind
step-requires-clause-behind g c κs within =
    let stands = c.loop-frame.invariant.stands c.requires.0 c.requires.1 in
    (stands.frames, stands.behind)

-- the frame that was read begins what is left
record IsReadAt (shape : Shape) (at : ℕ) (bytes : List ℕ) (seen : Seen) : Type 0 where
  at_is : seen.at ≡ at
  shape_is : seen.shape ≡ shape
  begins : BeginsWith shape bytes seen.frame

frame_read : (shape : Shape) (at : ℕ) (bytes part : List ℕ) (seen : Seen) → part ≡ bytes → IsNext shape at part (Ok (Some seen)) → IsReadAt shape at bytes seen
frame_read shape at bytes part seen is next = record { at_is = next.0; shape_is = next.1; begins = subst (λ (bs : List ℕ). BeginsWith shape bs seen.frame) is next.2 }

pub returns-in_err-step-in-Ok-Some-clause-err : goal.returns-in_err-step-in-Ok-Some-clause-err
returns-in_err-step-in-Ok-Some-clause-err g c =
    let p = err_from_is_err_and c.from_residual.result c.from_residual.ensures.1 in
    let left : List ℕ = drop c.loop-frame.used c.args.bytes.now in
    let read = frame_read c.loop-frame.self.shape c.loop-frame.self.at left _ c.in-Ok-Some.frame (take_rest c.args.bytes.now c.loop-frame.used) (rw c.in-Ok-Some.field-0-is at c.in-Ok-Some.ensures) in
    rw (p.1, p.2) (λ image stands. elim c.in_err-step-in-Ok-Some.ensures.err [
      | inl some ↦
          subst (λ s. IsWalkRefused s image c.in_err-step-in-Ok-Some.field-0.0) c.loop-frame.invariant.same
          (inl
          (refused_by_order g.R.Record.form image left c.loop-frame.self c.in-Ok-Some.frame.frame
          c.in_err-step-in-Ok-Some.field-0.0 (c.loop-frame.invariant.stands image stands) read.begins
          some))
      | inr memory ↦ inr memory
    ])

pub loop-frame-preserved : goal.loop-frame-preserved
loop-frame-preserved g c =
    let form = g.R.Record.form in
    let old = c.loop-frame.self in
    let used : ℕ = c.loop-frame.used in
    let left : List ℕ = drop used c.args.bytes.now in
    let seen = c.in-Ok-Some.frame in
    let read = frame_read old.shape old.at left _ seen (take_rest c.args.bytes.now used) (rw c.in-Ok-Some.field-0-is at c.in-Ok-Some.ensures) in
    let len : c.len-used.result ≡ length (frame_text old.shape.format seen.frame) = c.len-used.ensures.is ∙ ap (λ (s : Shape). length (frame_text s.format seen.frame)) read.shape_is in
    let near = nearer old.shape c.args.bytes.now seen.frame used c.len-used.result read.begins len in
    let same = c.in_ok-step-in-Ok-Some.ensures.shape in
    record {
      inside = near.0;
      same = same ∙ c.loop-frame.invariant.same;
      stands = λ image stands. (
          let before = c.loop-frame.invariant.stands image stands in
          let behind = c.in_ok-step-in-Ok-Some.ensures.ok before.frames before.behind in
          let after = stands_behind form image left seen.frame old c.step.new.self before same read.begins behind c.len-used.result len in
          let swap : c.len-used.result + used ≡ used + c.len-used.result = omega arith in
          subst (λ (bs : List ℕ). StandsBefore form image bs c.step.new.self) (drop-drop c.len-used.result used c.args.bytes.now) after);
    }

-- a fault that the frame has by itself
faulty_read : (shape : Shape) (at : ℕ) (bytes part : List ℕ) (fault : ScanFault) → part ≡ bytes → IsNext shape at part (Err (Fault fault)) → IsFaulty shape at bytes fault
faulty_read shape at bytes part fault is next = subst (λ (bs : List ℕ). IsFaulty shape at bs fault) is next

pub returns-in-Err-Fault-clause-err : goal.returns-in-Err-Fault-clause-err
returns-in-Err-Fault-clause-err g c = λ image stands. (
    let left : List ℕ = drop c.loop-frame.used c.args.bytes.now in
    let faulty =
    faulty_read c.loop-frame.self.shape c.loop-frame.self.at left _ c.in-Err-Fault.fault
    (take_rest c.args.bytes.now c.loop-frame.used) (rw c.in-Err-Fault.field-0-is at c.in-Err-Fault.ensures) in
    subst (λ s. IsWalkRefused s image c.in-Err-Fault.fault) c.loop-frame.invariant.same
    (inl (refused_by_lines g.R.Record.form image left c.loop-frame.self c.in-Err-Fault.fault (c.loop-frame.invariant.stands image stands) faulty)))

-- what ends the frames
pub returns-in-Ok-None-clause-tail : goal.returns-in-Ok-None-clause-tail
returns-in-Ok-None-clause-tail g c =
    let next = rw c.in-Ok-None.field-0-is at c.in-Ok-None.ensures in
    (c.loop-frame.invariant.inside, subst (λ (bs : List ℕ). is_closed bs ≡ true) (take_rest c.args.bytes.now c.loop-frame.used) next)

pub returns-in-Err-Short-clause-tail : goal.returns-in-Err-Short-clause-tail
returns-in-Err-Short-clause-tail g c =
    let next = rw c.in-Err-Short.field-0-is at c.in-Err-Short.ensures in
    (c.loop-frame.invariant.inside, subst (IsShort c.loop-frame.self.shape c.loop-frame.self.at) (take_rest c.args.bytes.now c.loop-frame.used) next)

pub overflow_add-used : goal.overflow_add-used
overflow_add-used g c = grind (arith, common_steps)

pub loop-frame-smaller : goal.loop-frame-smaller
loop-frame-smaller g c = grind (arith, common_steps)

pub step-requires-clause-whole : goal.step-requires-clause-whole
step-requires-clause-whole g c = grind (arith, common_steps)
