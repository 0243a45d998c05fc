use Rattle.std.proofs.Common.{length, sym, ap, subst, ◌∙◌}
use Rattle.std.proofs.lemmas.Result.{err_from_is_err_and}
use Rattle.segment_core.specs.declared.format.Shape.{Shape}
use Rattle.segment_core.specs.Frame.{text}
use Rattle.beside_core.specs.PensFile.{IsPensFile}
use Rattle.beside_core.specs.Bookmark.{LiesBehind}
use Rattle.beside_core.proofs.Grown.{refused, reads_on}
use Rattle.beside_core.proofs.bookmark.Bookmark.read_on.Goals as goal

pub returns-in_err-gate-clause-read : goal.returns-in_err-gate-clause-read
returns-in_err-gate-clause-read g c =
    let p = err_from_is_err_and c.from_residual.result c.from_residual.ensures.1 in
    rw (p.1, p.2) (λ kept shape frames known file lies more. (
    let held = g.S.Shared.held c.args.file.now in
    let own : IsPensFile c.args.self.shape held frames = subst (λ (s : Shape). IsPensFile s held frames) (sym lies.shape_is) file in
    let at = lies.gate_is ∙ ap (λ (s : Shape). length (text s known)) (sym lies.shape_is) in
    refused g.R.Record.form shape frames (g.S.Shared.now c.args.file.now) (g.S.Shared.now c.look.new.file) c.in_err-gate.field-0.0 (c.in_err-gate.ensures.looked kept frames known own at more)))

pub returns-clause-read : goal.returns-clause-read
returns-clause-read g c = λ kept shape frames known file lies more.
    let held = g.S.Shared.held c.args.file.now in
    let s = c.in_ok-settle.ensures in
    let own : IsPensFile c.args.self.shape held frames = subst (λ (s : Shape). IsPensFile s held frames) (sym lies.shape_is) file in
    let behind : LiesBehind c.args.self.shape known c.args.self = subst (λ (s : Shape). LiesBehind s known c.args.self) (sym lies.shape_is) lies in
    reads_on g.R.Record.form c.args.self frames known (g.S.Shared.now c.args.file.now) (g.S.Shared.now c.look.new.file) (g.S.Shared.now c.settle.new.file) c.in_ok-gate.gate
    (g.S.Shared.synced c.settle.new.file) c.in_ok-gate.text.items (c.if-self-width_of.false ∙ c.width_of.ensures.is) behind
    (c.in_ok-gate.ensures.looked (s.model kept) frames known own behind.gate_is more) s.time s.settled c.in_ok-gate.ensures.placed.1
