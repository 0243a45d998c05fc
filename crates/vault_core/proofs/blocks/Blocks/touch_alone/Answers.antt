use Rattle.std.proofs.Common.{arith}
use Rattle.segment_core.specs.Written.{joined}
use Rattle.vault_core.proofs.BlockParts.{AreParts_same}
use Rattle.vault_core.proofs.Cuts.{touch_more}
use Rattle.std.proofs.lemmas.Grind.{common_steps}
use Rattle.vault_core.proofs.blocks.Blocks.touch_alone.Goals as goal

pub loop-k-preserved : goal.loop-k-preserved
loop-k-preserved g c =
    let e = c.touch_part_alone.ensures in
    let i = c.loop-k.invariant in
    record {
      parts = AreParts_same c.loop-k.self c.touch_part_alone.new.self c.args.parts.now e.lengths i.parts;
      touched =
          touch_more (g.T.Touch.one c.args.touch.now) c.args.parts.now c.loop-k.k _ (joined c.args.self.now) (joined c.loop-k.self)
          (joined c.touch_part_alone.new.self) c.loop-k-test.true c.requires.ascending i.touched e.touched;
    }

pub touch_part_alone-requires-after_bounds : goal.touch_part_alone-requires-after_bounds
touch_part_alone-requires-after_bounds g c κs within = grind (arith, common_steps)

pub returns-clause-touched : goal.returns-clause-touched
returns-clause-touched g c = grind (arith, common_steps)
