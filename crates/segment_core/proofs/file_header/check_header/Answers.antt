use Rattle.std.proofs.Common.{◌++◌, ℕ, List, drop, sym, ap, ◌∙◌}
use Rattle.segment_core.specs.Frame.{header}
use Rattle.segment_core.specs.Fault.{header_fault}
use Rattle.segment_core.proofs.Header.{other_width}
use Rattle.segment_core.proofs.file_header.check_header.Goals as goal

pub returns-then-shape-width : goal.returns-then-shape-width
returns-then-shape-width c =
    other_width c.args.width c.in_ok-shape.shape.width c.args.bytes.now c.in_ok-shape.ensures.sound.2.no_fault c.if-shape-width.true

pub returns : goal.returns
returns c =
    let bytes : List ℕ = c.args.bytes.now in
    let sound = c.in_ok-shape.ensures.sound.2 in
    let same = c.if-shape-width.false in (
      ap (λ n. header_fault n bytes) (sym same) ∙ sound.no_fault,
      sound.names,
      c.in_ok-shape.ensures.spelled
          ∙ ap (λ n. header (record { format = c.in_ok-shape.shape.format; width = n }) ++ drop 11 bytes) same,
    )
