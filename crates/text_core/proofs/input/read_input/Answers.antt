use Rattle.std.proofs.Common.{◌+◌, ◌<◌, ◌≤◌, length, arith}
use Rattle.text_core.specs.Refusals.{input_limit}
use Rattle.text_core.proofs.Reading.{read_more, refused_long, refused_input, refused_memory}
use Rattle.text_core.proofs.input.read_input.Goals as goal

pub loop-preserved : goal.loop-preserved
loop-preserved g c =
    let i = c.loop.invariant in
    let fits : length c.loop.input.items + c.in-Ok.n ≤ input_limit = omega (arith, i.within, c.if-n-len.false, c.len-in-loop.ensures, c.loop.input.ok.0) in
    read_more _ _ _ c.loop.input.items c.read.new.buf c.in-Ok.n i.taken c.in-Ok.ensures.bytes.0 c.loop.counter _ c.extend_from_slice.new.self.items
    i.progress c.in-Ok.ensures.bound.0 c.if-n-eq0.false fits c.in_ok-extend_from_slice.ensures.items

pub returns-then-n-len-clause-refused : goal.returns-then-n-len-clause-refused
returns-then-n-len-clause-refused g c =
    let past : input_limit < length c.loop.input.items + c.in-Ok.n = omega (arith, c.if-n-len.true, c.len-in-loop.ensures, c.loop.input.ok.0) in
    refused_long _ _ _ c.loop.input.items c.read.new.buf c.in-Ok.n c.loop.invariant.taken c.in-Ok.ensures.bytes.0 c.in-Ok.ensures.bound.0 past

pub returns-in_err-extend_from_slice-clause-refused : goal.returns-in_err-extend_from_slice-clause-refused
returns-in_err-extend_from_slice-clause-refused g c = refused_memory c.from_residual.result _ c.from_residual.ensures.1

pub returns-in_default-clause-refused : goal.returns-in_default-clause-refused
returns-in_default-clause-refused g c = refused_input _
