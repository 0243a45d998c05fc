use Rattle.std.proofs.Common.{arith}
use Rattle.std.proofs.lemmas.Option.{slice_get_within}
use Rattle.directory_core.proofs.Readings.{piece_is, rest_is}
use Rattle.directory_core.proofs.directory.Directory.piece.Goals as goal

pub unreachable-requires : goal.unreachable-requires
unreachable-requires g c =
    let found = c.in-Some.ensures.place in
    let lt = slice_get_within c.args.pass.now.entries c.in-Some.number found.growth found.is in
    let past = c.in_default-entry.ensures.value in
    omega arith

pub returns-clause-value : goal.returns-clause-value
returns-clause-value g c =
    rest_is c.args.pass.now.entries c.args.i c.in-Some.number c.in-Some.place c.in-Some-entry.entry.now c.records.result.now c.in-Some.ensures.place
    c.in-Some-entry.ensures.value c.records.ensures.value

pub returns-clause-in_order : goal.returns-clause-in_order
returns-clause-in_order g c =
    piece_is c.args.pass.now.entries c.args.i c.in-Some.number c.in-Some.place c.in-Some-entry.entry.now c.records.result.now c.in-Some.ensures.place
    c.in-Some-entry.ensures.value c.records.ensures.value
