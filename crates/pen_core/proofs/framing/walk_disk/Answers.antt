use Rattle.std.proofs.Common.{◌≡◌, ap, arith}
use Rattle.std.proofs.lemmas.Result.{MatchResult-weaker}
use Rattle.disk_core.specs.State.{now}
use Rattle.disk_core.specs.Calls.{bytes_of}
use Rattle.pen_core.proofs.Births.{stays_only}
use Rattle.pen_core.proofs.Pieces.{only_syncs_failed, only_syncs_settled, IsWalked, walked_only, walked_bytes}
use Rattle.pen_core.proofs.FrameSteps.{framed_same}
use Rattle.pen_core.proofs.framing.walk_disk.Given.{Over}
use Rattle.pen_core.proofs.framing.walk_disk.Goals.{After-read_frames}
use Rattle.pen_core.proofs.framing.walk_disk.Goals as goal

pub returns-in-Err-clause-only_syncs : goal.returns-in-Err-clause-only_syncs
returns-in-Err-clause-only_syncs g c = λ model.
    only_syncs_failed (g.D.Disk.states c.args.disk.now) (g.D.Disk.states c.sync.new.self) (c.in-Err.ensures.same (c.sync.ensures.model model))

pub returns-in-Err-len-clause-only_syncs : goal.returns-in-Err-len-clause-only_syncs
returns-in-Err-len-clause-only_syncs g c = λ model.
    let old = g.D.Disk.states c.args.disk.now in
    let mid = g.D.Disk.states c.sync.new.self in
    let new = g.D.Disk.states c.len.new.self in
    let behind = c.len.ensures.model model in
    let before = c.sync.ensures.model behind in
    let stays = c.len.ensures.same behind in
    only_syncs_settled old mid new (c.in_default.ensures.done before) (g.met.D.Disk.reads_an_image c.args.disk.now before)
    (ap now stays) (stays_only mid new stays)

walked : (g : Over) (c : After-read_frames g) → g.D.Disk.keeps c.read_frames.new.disk
    → IsWalked c.in-Ok.size (g.D.Disk.states c.args.disk.now) (g.D.Disk.states c.sync.new.self) (g.D.Disk.states c.len.new.self) (g.D.Disk.states c.read_frames.new.disk)
walked g c model =
    let behind = c.len.ensures.model (c.read_frames.ensures.model model) in
    let before = c.sync.ensures.model behind in
    record {
      settles = c.in_default.ensures.done before;
      readable = g.met.D.Disk.reads_an_image c.args.disk.now before;
      stays = c.len.ensures.same behind;
      told = c.in-Ok.ensures.value (c.read_frames.ensures.model model);
      same = c.read_frames.ensures.same model;
      images = c.read_frames.ensures.images model;
    }

pub returns-clause-only_syncs : goal.returns-clause-only_syncs
returns-clause-only_syncs g c = λ model. walked_only (walked g (goal.at.returns-clause-only_syncs g c).After-read_frames model)

pub returns-clause-framed : goal.returns-clause-framed
returns-clause-framed g c =
    let old = bytes_of (g.D.Disk.states c.args.disk.now) in
    let last = bytes_of (g.D.Disk.states c.len.new.self) in
    let keeps = g.D.Disk.keeps c.read_frames.new.disk in
    let seen : keeps → last ≡ old = λ model. walked_bytes (walked g (goal.at.returns-clause-framed g c).After-read_frames model) in
    MatchResult-weaker c.read_frames.result c.read_frames.ensures.framed
    (λ framed is. (is.0, (c.in-Ok.size, omega arith, framed_same keeps last old c.in-Ok.size framed seen is.1)))
    (λ fault none. tt)
