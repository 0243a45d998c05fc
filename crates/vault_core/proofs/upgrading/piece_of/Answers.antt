use Rattle.std.proofs.Common.{◌+◌, ◌*◌, ◌≤◌, ◌<◌, ◌^◌, ℕ, arith, sym}
use Rattle.segment_core.specs.declared.format.Format.{Format}
use Rattle.segment_core.specs.declared.format.Format.TheVariants.{One, Two}
use Rattle.segment_core.specs.Shape.{limit_of}
use Rattle.vault_core.proofs.upgrading.piece_of.Goals as goal

-- a growth of one record is no longer than a frame
one_fits : (format : Format) (width : ℕ) → width < 2 ^ 16 → 8 + 1 * width ≤ limit_of format
one_fits One width small = omega (arith, small)
one_fits Two width small = omega (arith, small)

pub returns-in-None-clause-some : goal.returns-in-None-clause-some
returns-in-None-clause-some g c =
    (c.greatest_piece.ensures 1).1 (one_fits c.args.format g.R.Record.form.width (omega (arith, c.width_of-width.ensures.range.1, c.width_of-width.ensures.is)))
