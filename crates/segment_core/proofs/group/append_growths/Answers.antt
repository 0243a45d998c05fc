use Rattle.std.proofs.Common.{◌≡◌, ◌+◌, ◌++◌, List, ℕ, length, take, sym, ap, subst, ◌∙◌, append_assoc, arith}
use Rattle.std.specs.List.{flat_map}
use Rattle.std.proofs.lemmas.Bool.{false≢true}
use Rattle.std.proofs.lemmas.List.{length-append, take_all}
use Rattle.std.proofs.lemmas.Result.{err_from_is_err_and}
use Rattle.std.proofs.lemmas.List.Concat.{flat_map-append}
use Rattle.record_core.specs.Cells.{AreReadAgain}
use Rattle.record_core.proofs.Cells.{length-flat_map_bytes}
use Rattle.segment_core.specs.Written.{joined}
use Rattle.segment_core.proofs.Written.{take_more, cells_more, cells_within, joined_push, AreReadAgain-append}
use Rattle.segment_core.proofs.group.append_growths.Goals as goal

pub append_records-requires-after_bounds : goal.append_records-requires-after_bounds
append_records-requires-after_bounds g c κs within =
    let growths = g.G.GrowthList.growths c.args.group.now in
    let more = cells_more g.R.Record.form.width growths c.loop-k.k c.growth.result.now c.growth.ensures in
    let part = cells_within g.R.Record.form.width growths (c.loop-k.k + 1) in
    let fits = c.requires in
    let small = c.loop-k.file.small in
    omega arith

pub loop-k-preserved : goal.loop-k-preserved
loop-k-preserved g c =
    let so_far = c.loop-k.invariant in
    let wrote = c.in_ok-append_records.ensures in
    let growths = g.G.GrowthList.growths c.args.group.now in
    let before = joined (take c.loop-k.k growths) in
    let growth = c.growth.result.now in
    let more : joined (take (c.loop-k.k + 1) growths) ≡ before ++ growth
    = ap joined (take_more growths c.loop-k.k growth c.growth.ensures) ∙ joined_push (take c.loop-k.k growths) growth in
    let bytes : c.append_records.new.out.items ≡ c.args.file.now.items ++ flat_map g.R.Record.form.bytes_of (before ++ growth)
    = wrote.bytes ∙ ap (λ (bs : List ℕ). bs ++ flat_map g.R.Record.form.bytes_of growth) so_far.bytes
    ∙ append_assoc c.args.file.now.items (flat_map g.R.Record.form.bytes_of before) (flat_map g.R.Record.form.bytes_of growth)
    ∙ ap (λ (bs : List ℕ). c.args.file.now.items ++ bs) (sym (flat_map-append g.R.Record.form.bytes_of before growth)) in
    let again : AreReadAgain g.R.Record.form (before ++ growth)
    = AreReadAgain-append g.R.Record.form before growth so_far.read_again wrote.read_again in
    record {
      bytes = bytes ∙ ap (λ (rs : List g.row.R.Denot). c.args.file.now.items ++ flat_map g.R.Record.form.bytes_of rs) (sym more);
      read_again = subst (λ (rs : List g.row.R.Denot). AreReadAgain g.R.Record.form rs) (sym more) again;
      capacity = omega (arith, so_far.capacity, c.append_records.ensures.capacity);
    }

pub returns-in_err-append_records-clause-room : goal.returns-in_err-append_records-clause-room
returns-in_err-append_records-clause-room g c room =
    let growths = g.G.GrowthList.growths c.args.group.now in
    let laws = g.met.R.Record g.world.𝓛 g.world.𝓜 g.world.𝓡 ((λ s x. x), (λ x. x), (λ x. x), λ x. x) in
    let so_far = c.loop-k.invariant in
    let bytes : List ℕ = flat_map g.R.Record.form.bytes_of (joined (take c.loop-k.k growths)) in
    let len = ap length so_far.bytes ∙ length-append c.args.file.now.items bytes in
    let here = length-flat_map_bytes g.R.Record.form (joined (take c.loop-k.k growths)) laws.width_of_bytes in
    let more = cells_more g.R.Record.form.width growths c.loop-k.k c.growth.result.now c.growth.ensures in
    let part = cells_within g.R.Record.form.width growths (c.loop-k.k + 1) in
    let grown = so_far.capacity in
    absurd (false≢true (c.in_err-append_records.ensures.room (omega arith)))

pub returns-clause-bytes : goal.returns-clause-bytes
returns-clause-bytes g c =
    let all = take_all c.loop-k.k (g.G.GrowthList.growths c.args.group.now) (omega arith) in
    c.loop-k.invariant.bytes ∙ ap (λ (gs : List (List g.row.R.Denot)). c.args.file.now.items ++ flat_map g.R.Record.form.bytes_of (joined gs)) all

pub returns-clause-read_again : goal.returns-clause-read_again
returns-clause-read_again g c =
    let all = take_all c.loop-k.k (g.G.GrowthList.growths c.args.group.now) (omega arith) in
    subst (λ (gs : List (List g.row.R.Denot)). AreReadAgain g.R.Record.form (joined gs)) all c.loop-k.invariant.read_again

pub returns-in_err-append_records-clause-bytes : goal.returns-in_err-append_records-clause-bytes
returns-in_err-append_records-clause-bytes g c = let p = err_from_is_err_and c.from_residual.result c.from_residual.ensures.1 in rw p.1 tt

pub returns-in_err-append_records-clause-read_again : goal.returns-in_err-append_records-clause-read_again
returns-in_err-append_records-clause-read_again g c = let p = err_from_is_err_and c.from_residual.result c.from_residual.ensures.1 in rw p.1 tt
