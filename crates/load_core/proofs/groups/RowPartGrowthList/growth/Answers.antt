use Rattle.std.proofs.Common.{◌-◌, ◌∙◌, arith}
use Rattle.load_core.proofs.Rows.{length-row_part, slice_get-row_part}
use Rattle.load_core.proofs.groups.RowPartGrowthList.growth.Goals as goal

pub overflow_add-self : goal.overflow_add-self
overflow_add-self g c =
    let part = c.args.self.now in
    let inside = part.inside in
    let many = length-row_part part.row.now.0 part.from (part.to - part.from) (omega arith) in
    let asked = c.requires in
    omega arith

pub growth-requires : goal.growth-requires
growth-requires g c =
    let part = c.args.self.now in
    let inside = part.inside in
    let many = length-row_part part.row.now.0 part.from (part.to - part.from) (omega arith) in
    let asked = c.requires in
    omega arith

pub returns : goal.returns
returns g c =
    let part = c.args.self.now in
    let inside = part.inside in
    let many = length-row_part part.row.now.0 part.from (part.to - part.from) (omega arith) in
    let asked = c.requires in
    slice_get-row_part part.row.now.0 part.from (part.to - part.from) c.args.k (omega arith) ∙ c.growth.ensures
