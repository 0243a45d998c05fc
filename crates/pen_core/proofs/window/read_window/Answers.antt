use Rattle.std.proofs.Common.{◌≡◌, ◌≤◌, ◌<◌, ◌+◌, ◌^◌, List, ℕ, ap, subst, arith}
use Rattle.std.proofs.lemmas.Result.{MatchResult-weaker}
use Rattle.disk_core.specs.Calls.{bytes_of}
use Rattle.segment_core.specs.declared.found.Home.{Home}
use Rattle.segment_core.specs.declared.frame_walk.Framed.{Framed}
use Rattle.segment_core.specs.Tally.{nothing}
use Rattle.segment_core.specs.Found.{home_among}
use Rattle.segment_core.specs.Vector.{HasVector}
use Rattle.segment_core.specs.Raw.{raw}
use Rattle.segment_core.proofs.OneVector.{one_list}
use Rattle.segment_core.proofs.Refusals.{longest_closed}
use Rattle.pen_core.specs.Framing.{IsFramedOn}
use Rattle.pen_core.specs.Window.{AreLaidOver}
use Rattle.pen_core.proofs.FrameSteps.{reads_joined}
use Rattle.pen_core.proofs.Opening.{size_legal}
use Rattle.pen_core.proofs.WindowCells.{cells_read}
use Rattle.pen_core.proofs.window.read_window.Goals as goal

few : (keeps : Type 0) (bytes : List ℕ) (size : ℕ) (framed : Framed) (from count : ℕ) → IsFramedOn keeps bytes size framed → from + count ≤ framed.tally.size → from + count < 2 ^ 64
few keeps bytes size framed from count on inside =
    let most = size_legal framed.shape nothing on.frames on.is.legal (omega arith) in
    let same = ap (λ t. t.size) on.is.tally_is in
    omega arith

pub lay_homes-requires-clause-short : goal.lay_homes-requires-clause-short
lay_homes-requires-clause-short g c =
    few (g.D.Disk.keeps c.args.disk.now) (bytes_of (g.D.Disk.states c.args.disk.now)) c.requires.framed.0 c.args.framed.now c.args.from c.args.count c.requires.framed.1 c.requires.inside

pub lay_homes-requires-2-clause-short : goal.lay_homes-requires-2-clause-short
lay_homes-requires-2-clause-short g c =
    few (g.D.Disk.keeps c.args.disk.now) (bytes_of (g.D.Disk.states c.args.disk.now)) c.requires.framed.0 c.args.framed.now c.args.from c.args.count c.requires.framed.1 c.requires.inside

pub returns-clause-images : goal.returns-clause-images
returns-clause-images g c = λ model.
    let m = c.lay_homes-2.ensures.model model in
    reads_joined (g.D.Disk.states c.args.disk.now) (g.D.Disk.states c.lay_homes.new.disk) (g.D.Disk.states c.lay_homes-2.new.disk)
    (c.lay_homes.ensures.same m) (c.lay_homes.ensures.images m) (c.lay_homes-2.ensures.images model)

pub returns-clause-cells : goal.returns-clause-cells
returns-clause-cells g c = λ model.
    let m = c.lay_homes-2.ensures.model model in
    let framed = c.args.framed.now in
    let on = c.requires.framed.1 in
    let old = bytes_of (g.D.Disk.states c.args.disk.now) in
    let seen = ap (λ s. s.seen) (c.lay_homes.ensures.same m) in
    MatchResult-weaker c.lay_homes-2.result (c.lay_homes-2.ensures.laid model)
    (λ _ live frames cells has.
    let same : frames ≡ on.frames = one_list framed.shape old frames on.frames has.framed (longest_closed framed.shape old on.frames (on.framed_by (c.lay_homes.ensures.model m))) in
    let size = ap (λ t. t.size) on.is.tally_is in
    let inside = c.requires.inside in
    cells_read framed.shape old on.frames cells c.args.from c.args.count framed.homes.homes.items framed.live.items c.args.out.now c.lay_homes.new.out c.lay_homes-2.new.out
    (subst (λ fs. HasVector framed.shape.format (raw framed.shape.width) old fs cells) same has)
    (omega arith) on.is.places_are
    (subst (λ (hs : List Home). AreLaidOver framed.shape.width c.args.from c.args.count old (home_among framed.shape.width hs) c.args.out.now c.lay_homes.new.out)
    c.deref.ensures.value (c.in_ok-lay_homes.ensures.laid m))
    (subst (λ (hs : List Home). AreLaidOver framed.shape.width c.args.from c.args.count old (home_among framed.shape.width hs) c.lay_homes.new.out c.lay_homes-2.new.out) c.deref-2.ensures.value
    (subst (λ (bs : List ℕ). AreLaidOver framed.shape.width c.args.from c.args.count bs (home_among framed.shape.width c.deref-2.result.now) c.lay_homes.new.out c.lay_homes-2.new.out) seen live)))
    (λ _ _. tt)
