use Rattle.std.proofs.Common.{◌≡◌, ◌+◌, ◌-◌, ◌*◌, ◌/◌, ◌^◌, ◌<◌, ℕ, Some, length, sym, ap, ◌∙◌, arith}
use Rattle.segment_core.specs.Frame.{Run, number_len}
use Rattle.segment_core.specs.Layout.{number_at}
use Rattle.segment_core.proofs.Payload.{div_small}
use Rattle.segment_core.proofs.RunRows.{run_read, number_small}
use Rattle.segment_core.proofs.Reader.{run_found}
use Rattle.segment_core.proofs.frame.payload.run_at.Goals as goal

abbrev run_of : ℕ → ℕ → Run
run_of start count = record { start = start; count = count }

pub returns-clause-run : goal.returns-clause-run
returns-clause-run c =
    let number = c.number_len-number.ensures in
    let at : c.number_len-number.result + c.args.k * (8 + c.number_len-number.result)
    ≡ number_len c.args.shape.format + c.args.k * (8 + number_len c.args.shape.format)
    = ap (λ n. n + c.args.k * (8 + n)) number in
    run_found c.args.shape c.args.payload.now c.args.k c.requires.counted
    ∙ ap (λ i. Some (run_read c.args.shape.format ((length c.args.payload.now - 8) / c.args.shape.width) c.args.payload.now i)) (sym at)
    ∙ ap
    (λ n.
    Some
    (run_of n
    (number_at c.args.shape.format ((length c.args.payload.now - 8) / c.args.shape.width)
    c.args.payload.now
    (c.number_len-number.result + c.args.k * (8 + c.number_len-number.result) + 8))))
    (sym c.u64_at.ensures)
    ∙ ap (λ n. Some (run_of c.u64_at.result n)) (sym c.count_at.ensures)

pub returns-clause-small : goal.returns-clause-small
returns-clause-small c =
    let d = div_small (length c.args.payload.now - 8) c.args.shape.width c.requires.wide in
    let few : (length c.args.payload.now - 8) / c.args.shape.width < 2 ^ 32 = let s = c.requires.small in omega arith in
    let small =
    number_small c.args.shape.format ((length c.args.payload.now - 8) / c.args.shape.width) c.args.payload.now
    (c.number_len-number.result + c.args.k * (8 + c.number_len-number.result) + 8)
    (λ i. omega (arith, c.type_inv.payload i)) few in
    let count = c.count_at.ensures in
    omega arith
