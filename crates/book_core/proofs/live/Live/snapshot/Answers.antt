use Rattle.std.proofs.Common.{◌≡◌, ◌+◌, List, length, take, refl, ap, subst, ◌∙◌, arith}
use Rattle.std.proofs.Math.Seq.{take-length}
use Rattle.std.proofs.lemmas.List.{length-drop}
use Rattle.std.proofs.lemmas.Result.{err_from_is_err_and}
use Rattle.std.specs.Global.{Vec}
use Rattle.record_core.specs.Limits.{record_limit}
use Rattle.book_core.specs.Lists.{Phase, records_of, opening_of}
use Rattle.book_core.specs.Snapshots.{full_of}
use Rattle.book_core.proofs.live.Live.snapshot.Goals as goal

pub invariant_of-snapshot : goal.invariant_of-snapshot
invariant_of-snapshot g c =
    let pieces = c.in_ok-slices.slices.pieces in
    let blocks = ap (λ (bs : List (Vec _)). full_of (records_of bs)) c.as_slice.ensures.value ∙ ap (λ (l : Phase _). full_of l.blocks) c.self.view_is in (
      omega (arith, c.count-blocks.ensures),
      ap (λ n. take n pieces) c.count-blocks.ensures ∙ (take-length pieces ∙ (c.in_ok-slices.ensures ∙ blocks)),
      subst (λ (l : Phase _). l.directory.limit + length (opening_of l) ≡ record_limit) c.self.view_is c.self.invariant.1,
    )

pub update-requires-clause-of : goal.update-requires-clause-of
update-requires-clause-of g c _ _ = c.requires.of

pub update-requires-clause-agree : goal.update-requires-clause-agree
update-requires-clause-agree g c _ _ k here known =
    let none = length-drop c.count-blocks.result c.in_ok-slices.slices.pieces in
    absurd (omega (arith, here, none, c.count-blocks.ensures))

pub returns-in_err-slices-clause-list : goal.returns-in_err-slices-clause-list
returns-in_err-slices-clause-list g c = let p = err_from_is_err_and c.from_residual.result c.from_residual.ensures.1 in rw (p.1, p.2) refl

pub returns-in_err-update-clause-same : goal.returns-in_err-update-clause-same
returns-in_err-update-clause-same g c = c.update.ensures.same

pub returns-in_err-update-clause-list : goal.returns-in_err-update-clause-list
returns-in_err-update-clause-list g c =
    let p = err_from_is_err_and c.from_residual-in_err-update.result c.from_residual-in_err-update.ensures.1 in
    rw (p.1, p.2) c.in_err-update.ensures.refused.0

pub returns-clause-same : goal.returns-clause-same
returns-clause-same g c = c.update.ensures.same

pub returns-clause-list : goal.returns-clause-list
returns-clause-list g c =
    let none = length-drop c.count-blocks.result c.in_ok-slices.slices.pieces in
    c.in_ok-update.ensures.more (omega (arith, none, c.count-blocks.ensures))
