use Rattle.std.proofs.Common.{ap, length, arith}
use Rattle.std.proofs.lemmas.List.{length-map}
use Rattle.std.proofs.lemmas.Option.{slice_get_within}
use Rattle.book_core.proofs.PieceLists.{IsPieceAt-rest}
use Rattle.book_core.proofs.Slices.{read_is, rest_is}
use Rattle.book_core.proofs.snapshot.slices.Slices.piece.Goals as goal

pub returns-clause-value : goal.returns-clause-value
returns-clause-value g c =
    let here = c.in_ok-number.ensures in
    let pieces = c.args.self.now.pieces in
    rest_is pieces c.args.i c.in_ok-number.number c.in_ok-number.place c.index-slice.result.now.now here
    (read_is c.self.inside.slices.items pieces c.in_ok-number.number here.piece c.index-slice.result.now
    (ap (λ v. v.pieces) c.self.view_is) here.at c.index-slice.ensures)

pub returns-clause-in_order : goal.returns-clause-in_order
returns-clause-in_order g c = IsPieceAt-rest c.args.self.now.pieces c.args.i _ (returns-clause-value g c)

pub index-slice-requires : goal.index-slice-requires
index-slice-requires g c =
    let here = c.in_ok-number.ensures in
    let inside = slice_get_within c.args.self.now.pieces c.in_ok-number.number here.piece here.at in
    let same = ap (λ v. length v.pieces) c.self.view_is in
    let many = length-map c.self.inside.slices.items (λ s. s.now) in
    let ok = c.self.inside.slices.ok in
    omega arith

pub slice_bounds-result-start : goal.slice_bounds-result-start
slice_bounds-result-start g c =
    let here = c.in_ok-number.ensures in
    let read = read_is c.self.inside.slices.items c.args.self.now.pieces c.in_ok-number.number here.piece c.index-slice.result.now (ap (λ v. v.pieces) c.self.view_is) here.at c.index-slice.ensures in
    let len = ap length read in
    let inside = here.inside in
    omega arith

pub slice_bounds-result-end : goal.slice_bounds-result-end
slice_bounds-result-end g c =
    let here = c.in_ok-number.ensures in
    let read = read_is c.self.inside.slices.items c.args.self.now.pieces c.in_ok-number.number here.piece c.index-slice.result.now (ap (λ v. v.pieces) c.self.view_is) here.at c.index-slice.ensures in
    let len = ap length read in
    let inside = here.inside in
    omega arith
