use Rattle.std.proofs.lemmas.Grind.{common_steps}
use Rattle.std.proofs.Common.{◌≡◌, ◌≤◌, ◌++◌, ℕ, length, take, refl, sym, ap, ◌∙◌, arith}
use Rattle.segment_core.specs.declared.scanner.ScanStage.TheVariants as stages
use Rattle.segment_core.specs.Fault.{header_fault}
use Rattle.segment_core.proofs.Fed.{fed_by, front_more, length-front, goes_on_behind_header, refused_by_front}
use Rattle.segment_core.proofs.scanner.Scanner.feed_header.Goals as goal

pub returns-in-Ok-clause-fed : goal.returns-in-Ok-clause-fed
returns-in-Ok-clause-fed g c = λ image front. (
    let form = g.R.Record.form in
    let used : ℕ = c.min-used.result in
    let inside : used ≤ length c.args.piece.now = let m = c.min-used.ensures in omega arith in
    let bytes = front_more form image c.args.piece.now c.copy_from_slice.new.self used c.args.self.now front inside c.copy_from_slice.ensures.after in
    let long = length-front form image c.args.piece.now used c.args.self.now front inside ∙ c.if-self-eq-HEADER_LEN.true in
    let found = c.in-Ok.ensures in
    let width : c.width_of.result ≡ c.width_of-width.result = c.width_of.ensures.is ∙ sym c.width_of-width.ensures.is in
    fed_by form (image ++ take used c.args.piece.now) _ stages.Open refl
    (goes_on_behind_header form (image ++ take used c.args.piece.now) _ c.in-Ok.format c.width_of.result _ bytes long
    c.width_of.ensures.is (record { no_fault = found.0; names = found.1; written = found.2 })
    (c.new.ensures.shape ∙ ap (λ (w : ℕ). record { format = c.in-Ok.format; width = w }) (sym width))
    c.new.ensures.behind front.pending))

pub returns-in-Err-clause-fed : goal.returns-in-Err-clause-fed
returns-in-Err-clause-fed g c = λ image front. (
    let form = g.R.Record.form in
    let used : ℕ = c.min-used.result in
    let inside : used ≤ length c.args.piece.now = let m = c.min-used.ensures in omega arith in
    let bytes = front_more form image c.args.piece.now c.copy_from_slice.new.self used c.args.self.now front inside c.copy_from_slice.ensures.after in
    let long = length-front form image c.args.piece.now used c.args.self.now front inside ∙ c.if-self-eq-HEADER_LEN.true in
    fed_by form (image ++ take used c.args.piece.now) _ (stages.Refused c.in-Err.fault) refl
    (refused_by_front form (image ++ take used c.args.piece.now) c.in-Err.fault (omega arith)
    (ap (λ w. header_fault w (image ++ take used c.args.piece.now)) (sym c.width_of.ensures.is) ∙ ap (header_fault c.width_of.result) (sym bytes) ∙ c.in-Err.ensures)))

pub returns-else-self-eq-HEADER_LEN-clause-fed : goal.returns-else-self-eq-HEADER_LEN-clause-fed
returns-else-self-eq-HEADER_LEN-clause-fed g c = λ image front. (
    let form = g.R.Record.form in
    let used : ℕ = c.min-used.result in
    let m = c.min-used.ensures in
    let inside : used ≤ length c.args.piece.now = omega arith in
    let bytes = front_more form image c.args.piece.now c.copy_from_slice.new.self used c.args.self.now front inside c.copy_from_slice.ensures.after in
    let long = length-front form image c.args.piece.now used c.args.self.now front inside in
    let other = c.if-self-eq-HEADER_LEN.false in
    let filled = front.filled in
    let short = front.short in
    fed_by form (image ++ take used c.args.piece.now) _ stages.Header c.requires.stage
    (record { short = omega arith; filled = sym long; kept = bytes; behind = front.behind; pending = front.pending; bare = front.bare }))

pub returns-in-Ok-clause-whole : goal.returns-in-Ok-clause-whole
returns-in-Ok-clause-whole g c = grind (arith, common_steps)

pub copy_from_slice-requires : goal.copy_from_slice-requires
copy_from_slice-requires g c = grind (arith, common_steps)

pub slice_bounds-copy_from_slice-end-2 : goal.slice_bounds-copy_from_slice-end-2
slice_bounds-copy_from_slice-end-2 g c = grind (arith, common_steps)

pub returns-in-Err-clause-whole : goal.returns-in-Err-clause-whole
returns-in-Err-clause-whole g c = grind (arith, common_steps)

pub returns-in-Ok-clause-bare : goal.returns-in-Ok-clause-bare
returns-in-Ok-clause-bare g c = grind (arith, common_steps)
