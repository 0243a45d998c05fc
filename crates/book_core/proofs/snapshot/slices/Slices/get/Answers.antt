use Rattle.std.proofs.Common.{◌∙◌, Some, ap, sym, get_or, length, arith}
use Rattle.std.proofs.lemmas.List.{length-map}
use Rattle.std.proofs.lemmas.Option.{slice_get_within}
use Rattle.book_core.proofs.Slices.{joined_at, read_is}
use Rattle.book_core.proofs.snapshot.slices.Slices.get.Goals as goal

pub returns : goal.returns
returns g c =
    let here = c.in_ok-number.ensures in
    let pieces = c.args.self.now.pieces in
    let read = read_is c.self.inside.slices.items pieces c.in_ok-number.number here.piece c.index-slice.result.now (ap (λ v. v.pieces) c.self.view_is) here.at c.index-slice.ensures in
    joined_at pieces c.args.i c.in_ok-number.number c.in_ok-number.place c.index-slice-place.result here
    ∙ (ap (λ p. Some (get_or p c.in_ok-number.place c.index-slice-place.result)) (sym read) ∙ ap Some (sym c.index-slice-place.is))

pub index-slice-requires : goal.index-slice-requires
index-slice-requires g c =
    let here = c.in_ok-number.ensures in
    let inside = slice_get_within c.args.self.now.pieces c.in_ok-number.number here.piece here.at in
    let same = ap (λ v. length v.pieces) c.self.view_is in
    let many = length-map c.self.inside.slices.items (λ s. s.now) in
    let ok = c.self.inside.slices.ok in
    omega arith

pub bounds-slice-place : goal.bounds-slice-place
bounds-slice-place g c =
    let here = c.in_ok-number.ensures in
    let read = read_is c.self.inside.slices.items c.args.self.now.pieces c.in_ok-number.number here.piece c.index-slice.result.now (ap (λ v. v.pieces) c.self.view_is) here.at c.index-slice.ensures in
    let len = ap length read in
    let inside = here.inside in
    omega arith
