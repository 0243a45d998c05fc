use Rattle.std.proofs.Common.{ℕ, List, sym, subst}
use Rattle.text_core.specs.HexLine.{IsHexLine}
use Rattle.image_core.proofs.showing.records_of_hex.Goals as goal

pub returns-in-Ok-clause-found : goal.returns-in-Ok-clause-found
returns-in-Ok-clause-found g c =
    let answer = c.in-Ok.ensures.answer in
    let line = subst (λ (bytes : List ℕ). IsHexLine c.args.input.now bytes) (sym c.as_slice.ensures.value) c.in_ok-bytes.ensures.read in
    (c.as_slice.result.now, answer.format, answer.frames, line, answer.vector)

pub returns-clause-refused : goal.returns-clause-refused
returns-clause-refused g c = λ within.
    let line = subst (λ (bytes : List ℕ). IsHexLine c.args.input.now bytes) (sym c.as_slice.ensures.value) c.in_ok-bytes.ensures.read in
    (within, c.as_slice.result.now, line, c.in-Err.ensures.answer)
