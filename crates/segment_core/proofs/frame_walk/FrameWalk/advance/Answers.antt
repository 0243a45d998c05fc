use Rattle.std.proofs.Common.{◌≡◌, ◌-◌, ◌++◌, ℕ, List, Option, Some, Ok, length, take, replicate, rules, refl, subst, ◌∙◌, arith, inl}
use Rattle.std.proofs.lemmas.List.{length-take-le}
use Rattle.std.proofs.lemmas.Result.{err_from_is_err_and}
use Rattle.segment_core.specs.declared.frame_head.FrameHead.{FrameHead}
use Rattle.std.specs.Prelude.{MatchOption}
use Rattle.segment_core.specs.declared.format.Format.{Format}
use Rattle.segment_core.specs.FrameHead.{FitsIn, IsNextHead}
use Rattle.segment_core.proofs.Lines.{frame_fault_from_lines}
use Rattle.segment_core.proofs.Fronts.{headed}
use Rattle.segment_core.proofs.FrameWalked.{front_of, prefix_cut, taken_prefix, some_bytes, front_shown}
use Rattle.segment_core.proofs.frame_walk.FrameWalk.advance.Goals as goal

pub returns-in-Err-clause-ended : goal.returns-in-Err-clause-ended
returns-in-Err-clause-ended c = λ bytes prefix. (
    let walk = c.args.self.now in
    let found = c.fault.ensures walk.shape bytes prefix.size
    (c.in-Err.ensures.next bytes (front_of c.args.front.now bytes c.min.result c.args.left prefix c.min.ensures c.requires.enough c.requires.inside)) in
    inl (frame_fault_from_lines walk.shape walk.at walk.tally bytes c.fault.result found.0 found.1))

pub returns-in_default-clause-advanced : goal.returns-in_default-clause-advanced
returns-in_default-clause-advanced c = (
  refl,
  λ bytes prefix.
      subst (λ (o : Option FrameHead). IsNextHead c.args.self.now.shape c.args.self.now.at bytes (Ok o)) c.in_default.is
      (c.in-Ok.ensures.next bytes (front_of c.args.front.now bytes c.min.result c.args.left prefix c.min.ensures c.requires.enough c.requires.inside)),
)

pub take-requires-clause-front : goal.take-requires-clause-front
take-requires-clause-front c =
    let walk = c.args.self.now in
    let front : List ℕ = c.args.front.now in
    let head : FrameHead = c.in-Some.head in
    let n = c.front_size-size.result in
    let bytes : List ℕ = front ++ replicate (c.args.left - length front) 0 in
    let prefix = some_bytes front c.args.left c.requires.inside in
    let first = front_of front bytes c.min.result c.args.left prefix c.min.ensures c.requires.enough c.requires.inside in
    let cut = prefix_cut front bytes n c.args.left prefix in
    let h = headed walk.shape walk.at bytes c.in-Ok.found head c.in-Some.is (c.in-Ok.ensures.next bytes first) in
    let size = length-take-le n front (omega arith) in (
      head.kind,
      front_shown walk.shape bytes (take c.min.result front) (take n front) cut.rest c.args.left head first cut.is h (search rules) (size ∙ c.front_size-size.ensures),
    )

found_fits : (found : Option FrameHead) (head : FrameHead) (format : Format) (left : ℕ) → found ≡ Some head → MatchOption found (Unit {0}) (FitsIn format left) → FitsIn format left head
found_fits found head format left is fits = subst (λ (o : Option FrameHead). MatchOption o (Unit {0}) (FitsIn format left)) is fits

pub returns-in_err-take-clause-ended : goal.returns-in_err-take-clause-ended
returns-in_err-take-clause-ended c =
    let p = err_from_is_err_and c.from_residual.result c.from_residual.ensures.1 in
    let fits = found_fits c.in-Ok.found c.in-Some.head c.args.self.now.shape.format c.args.left c.in-Some.is c.in-Ok.ensures.fits in
    rw (p.1, p.2) (λ bytes prefix.
    c.in_err-take.ensures.ended c.args.left bytes (omega (arith, fits.inside)) (prefix_cut c.args.front.now bytes c.front_size-size.result c.args.left prefix))

pub returns-clause-advanced : goal.returns-clause-advanced
returns-clause-advanced c =
    let fits = found_fits c.in-Ok.found c.in-Some.head c.args.self.now.shape.format c.args.left c.in-Some.is c.in-Ok.ensures.fits in
    taken_prefix c.args.self.now _ c.args.front.now c.front_size-size.result c.args.left (c.in_ok-take.ensures.taken c.args.left (omega (arith, fits.inside)))
