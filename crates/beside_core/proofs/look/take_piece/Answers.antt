use Rattle.std.proofs.Common.{take, arith, ◌∙◌}
use Rattle.std.proofs.lemmas.Grind.{common_steps}
use Rattle.beside_core.proofs.Taken.{taken_by, cut_behind}
use Rattle.beside_core.proofs.look.take_piece.Goals as goal

pub returns-in-Ok-clause-taken : goal.returns-in-Ok-clause-taken
returns-in-Ok-clause-taken g c = taken_by _ _ _ _ _ _ (take c.in-Ok.count c.read_some.new.out) _
    (cut_behind _ c.read_some.new.out _ _ c.len-start.result c.in-Ok.count c.truncate.ensures.items (grind (arith, common_steps)) (c.len-start.ensures ∙ c.args.out.now.ok.0))
    (λ kept. c.in-Ok.ensures.each kept)
