use Rattle.std.proofs.Common.{arith, ap, subst, ℕ, List, length, ◌∷◌, []}
use Rattle.std.proofs.lemmas.List.{map-append}
use Rattle.book_core.specs.Lists.{joined_pieces}
use Rattle.book_core.specs.Snapshots.{IsStepWith}
use Rattle.book_core.proofs.Slices.{length_is, laid_push, none_sized, even_push}
use Rattle.book_core.proofs.snapshot.slices.Slices.push.Goals as goal

pub overflow_cast-self-inside : goal.overflow_cast-self-inside
overflow_cast-self-inside g c =
    let is = length_is c.self.invariant.0 in
    let view = ap (λ v. length (joined_pieces v.pieces)) c.self.view_is in
    let limit = c.requires.limit in
    let some = c.requires.some in
    omega arith

pub invariant_of-self : goal.invariant_of-self
invariant_of-self g c =
    let is = length_is c.self.invariant.0 in
    let view = ap (λ v. length (joined_pieces v.pieces)) c.self.view_is in
    let limit = c.requires.limit in
    let step : IsStepWith (length c.self.inside.starts.items) c.self.inside.size c.self.inside.step (length c.args.slice.now) c.step_with-self-inside.result =
    subst (λ (n : ℕ). IsStepWith n c.self.inside.size c.self.inside.step (length c.args.slice.now) c.step_with-self-inside.result)
    (ap (λ (ns : List ℕ). length ns) c.as_slice-starts.ensures.value) c.step_with-self-inside.ensures in
    rw (c.push_reserved.ensures.items, c.push_reserved-2.ensures.items, map-append (λ s. s.now) c.self.inside.slices.items (c.args.slice ∷ [])) (
      laid_push c.self.invariant.0 c.args.slice.now c.requires.some (omega arith),
      even_push c.self.inside.starts.items c.self.inside.size c.self.inside.step (length c.args.slice.now) c.step_with-self-inside.result c.self.invariant.1 step (none_sized c.self.invariant.0),
    )
