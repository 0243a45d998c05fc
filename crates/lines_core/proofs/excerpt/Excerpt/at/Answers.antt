use Rattle.std.proofs.Common.{◌≡◌, ◌-◌, length, take, drop, ap, ◌∙◌, arith}
use Rattle.std.proofs.lemmas.List.{take_rest}
use Rattle.lines_core.proofs.Excerpts.{excerpt_is}
use Rattle.lines_core.proofs.excerpt.Excerpt.at.Goals as goal

pub returns : goal.returns
returns c =
    let rest = drop c.args.before c.args.line.now in
    let same : take (length c.args.line.now - c.args.before) rest ≡ rest = take_rest c.args.line.now c.args.before in
    let long = ap length same in
    excerpt_is c.args.line.now c.copy_from_slice.new.self _ c.args.before _ c.min-len.result c.requires (omega (arith, c.min-len.ensures, long))
    (c.copy_from_slice.ensures.after ∙ ap (take c.min-len.result) same) (omega (arith, long))
