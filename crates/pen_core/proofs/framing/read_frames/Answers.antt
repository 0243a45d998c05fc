use Rattle.std.proofs.Common.{◌≡◌, ◌++◌, ℕ, List, take, drop, sym, ap, subst, ◌∙◌, arith}
use Rattle.disk_core.specs.State.{now}
use Rattle.disk_core.specs.Calls.{bytes_of}
use Rattle.segment_core.specs.Frame.{header}
use Rattle.segment_core.specs.Fault.{IsSound}
use Rattle.segment_core.specs.Raw.{raw}
use Rattle.segment_core.specs.FrameWalk.{HasPrefix}
use Rattle.segment_core.proofs.Refusals.{refused_by_header, refused_for_memory}
use Rattle.pen_core.proofs.Births.{stays_only}
use Rattle.pen_core.proofs.FrameSteps.{reads_joined, header_shown, blank_header, on_way_first, framed_by, framed_same}
use Rattle.pen_core.proofs.framing.read_frames.Given.{Over}
use Rattle.pen_core.proofs.framing.read_frames.Goals.{After-begin}
use Rattle.pen_core.proofs.framing.read_frames.Goals as goal

pub returns-in-Err-clause-images : goal.returns-in-Err-clause-images
returns-in-Err-clause-images g c = λ model.
    stays_only (g.D.Disk.states c.args.disk.now) (g.D.Disk.states c.read_at.new.self) (c.read_at.ensures.same (c.read_at.ensures.model model))

pub returns-in-Err-begin-clause-images : goal.returns-in-Err-begin-clause-images
returns-in-Err-begin-clause-images g c = λ model.
    stays_only (g.D.Disk.states c.args.disk.now) (g.D.Disk.states c.read_at.new.self) (c.read_at.ensures.same (c.read_at.ensures.model model))

-- the header that was read
header_read : (g : Over) (c : After-begin g) → g.D.Disk.keeps c.read_at.new.self
    → HasPrefix (take c.min-first.result (c.read_at.new.out ++ drop c.min-first.result blank_header)) c.args.size (bytes_of (g.D.Disk.states c.args.disk.now))
header_read g c model =
    let m = c.read_at.ensures.model model in
    header_shown (g.D.Disk.keeps c.read_at.new.self) (bytes_of (g.D.Disk.states c.args.disk.now)) c.read_at.new.out blank_header c.min-first.result c.args.size
    (omega (arith, c.min-first.ensures)) (omega (arith, c.min-first.ensures)) c.read_at.auto.out (c.requires.length m) (c.in_default.ensures.value model)

pub returns-in-Err-begin-clause-refused : goal.returns-in-Err-begin-clause-refused
returns-in-Err-begin-clause-refused g c = λ model.
    let old = bytes_of (g.D.Disk.states c.args.disk.now) in
    refused_by_header (raw c.args.width) old c.in-Err-begin.fault
    (c.in-Err-begin.ensures.header old (header_read g (goal.at.returns-in-Err-begin-clause-refused g c).After-begin model))

pub walk_frames-requires-clause-sound : goal.walk_frames-requires-clause-sound
walk_frames-requires-clause-sound g c model =
    let old = bytes_of (g.D.Disk.states c.args.disk.now) in
    let walk = c.in-Ok.walk in
    let m = c.read_at.ensures.model model in
    let seen = ap (λ s. s.seen) (ap now (c.read_at.ensures.same m)) in
    let found = c.in-Ok.ensures.header old (header_read g (goal.at.walk_frames-requires-clause-sound g c).After-begin model) in
    subst (λ (bs : List ℕ). IsSound walk.shape.width walk.shape.format bs) (sym seen)
    (subst (λ n. IsSound n walk.shape.format old) (sym c.in-Ok.ensures.walked.0) found.0)

pub walk_frames-requires-clause-on_way : goal.walk_frames-requires-clause-on_way
walk_frames-requires-clause-on_way g c =
    let old = bytes_of (g.D.Disk.states c.args.disk.now) in
    let walk = c.in-Ok.walk in
    let walked = c.in-Ok.ensures.walked in
    on_way_first (g.D.Disk.keeps c.read_at.new.self) (bytes_of (g.D.Disk.states c.read_at.new.self)) c.args.size walk walked.2 walked.1
    (λ model.
    let seen = ap (λ s. s.seen) (ap now (c.read_at.ensures.same (c.read_at.ensures.model model))) in
    let found = c.in-Ok.ensures.header old (header_read g (goal.at.walk_frames-requires-clause-on_way g c).After-begin model) in
    subst (λ (bs : List ℕ). bs ≡ header walk.shape ++ drop 11 bs) (sym seen) found.1)

pub returns-in_err-walk-clause-images : goal.returns-in_err-walk-clause-images
returns-in_err-walk-clause-images g c = λ model.
    let stays = c.read_at.ensures.same (c.read_at.ensures.model (c.walk_frames.ensures.model model)) in
    reads_joined (g.D.Disk.states c.args.disk.now) (g.D.Disk.states c.read_at.new.self) (g.D.Disk.states c.walk_frames.new.disk)
    (ap now stays) (stays_only (g.D.Disk.states c.args.disk.now) (g.D.Disk.states c.read_at.new.self) stays) (c.walk_frames.ensures.images model)

pub returns-in-Ok-finish-clause-images : goal.returns-in-Ok-finish-clause-images
returns-in-Ok-finish-clause-images g c = λ model.
    let stays = c.read_at.ensures.same (c.read_at.ensures.model (c.walk_frames.ensures.model model)) in
    reads_joined (g.D.Disk.states c.args.disk.now) (g.D.Disk.states c.read_at.new.self) (g.D.Disk.states c.walk_frames.new.disk)
    (ap now stays) (stays_only (g.D.Disk.states c.args.disk.now) (g.D.Disk.states c.read_at.new.self) stays) (c.walk_frames.ensures.images model)

pub returns-clause-images : goal.returns-clause-images
returns-clause-images g c = λ model.
    let stays = c.read_at.ensures.same (c.read_at.ensures.model (c.walk_frames.ensures.model model)) in
    reads_joined (g.D.Disk.states c.args.disk.now) (g.D.Disk.states c.read_at.new.self) (g.D.Disk.states c.walk_frames.new.disk)
    (ap now stays) (stays_only (g.D.Disk.states c.args.disk.now) (g.D.Disk.states c.read_at.new.self) stays) (c.walk_frames.ensures.images model)

pub returns-in-Ok-finish-clause-framed : goal.returns-in-Ok-finish-clause-framed
returns-in-Ok-finish-clause-framed g c =
    let old = bytes_of (g.D.Disk.states c.args.disk.now) in
    let first = bytes_of (g.D.Disk.states c.read_at.new.self) in
    let keeps = g.D.Disk.keeps c.walk_frames.new.disk in
    let through = c.in_ok-walk.ensures.through in
    let found = c.in-Ok-finish.ensures in
    let seen : keeps → first ≡ old = λ model. ap (λ s. s.seen) (ap now (c.read_at.ensures.same (c.read_at.ensures.model (c.walk_frames.ensures.model model)))) in (
      ap (λ s. s.width) (found.shape ∙ through.0) ∙ c.in-Ok.ensures.walked.0,
      framed_same keeps first old c.args.size c.in-Ok-finish.framed seen
          (framed_by keeps first c.args.size c.in_ok-walk.walk c.in-Ok-finish.framed through.1 found.shape found.gate found.framed),
    )

pub returns-clause-refused : goal.returns-clause-refused
returns-clause-refused g c = λ model.
    let old = bytes_of (g.D.Disk.states c.args.disk.now) in
    let found = c.in-Ok.ensures.header old (header_read g (goal.at.returns-clause-refused g c).After-begin (c.walk_frames.ensures.model model)) in
    refused_for_memory (raw c.args.width) c.in-Ok.walk.shape.format old c.in-Err-finish.fault found.0 c.in-Err-finish.ensures.memory
