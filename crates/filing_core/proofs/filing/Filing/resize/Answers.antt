use Rattle.std.proofs.Common.{refl, ℕ, List, sym, subst}
use Rattle.std.specs.Prelude.{Bool, true, false}
use Rattle.files_core.specs.Asked.{IsNumber, IsRecord}
use Rattle.files_core.specs.declared.ended.Ended.{Ended}
use Rattle.filing_core.specs.Complaints.{Disk}
use Rattle.filing_core.specs.Commands.{MakesLength}
use Rattle.filing_core.proofs.Filings.{over_file}
use Rattle.filing_core.proofs.filing.Filing.resize.Goals.{then-in_parts, else-in_parts}
use Rattle.filing_core.proofs.filing.Filing.resize.Goals as goal

pub returns : goal.returns
returns g c =
    let old = g.W.Write.contents c.args.writer.now in
    let n = c.in_ok-resizing.resizing.len in
    let r = c.in_ok-resizing.resizing.filler in
    let disk = c.in_ok-disk.field-0.disk in
    let Made : Bool → g.row.W.Denot → Disk × Ended → Type 0 = λ in_parts writer back. MakesLength g.R.Record.form old (g.W.Write.contents writer) c.status_on.result in_parts n r disk back.0 back.1 in
    let made : Made c.args.in_parts c.if-in_parts.writer c.if-in_parts.disk = elim c.if-in_parts.branch [
      | then-in_parts w ↦ subst (λ (b : Bool). Made b c.if-in_parts.writer c.if-in_parts.disk) (sym w.if-in_parts.true)
          (subst (λ (x : g.row.W.Denot). Made true x c.if-in_parts.disk) (sym w.writer-is)
          (subst (λ (back : Disk × Ended). Made true w.resize_in_parts.new.writer back) (sym w.disk-is)
          (w.resize_in_parts.ensures.resized, w.resize_in_parts.ensures.written, w.resize_in_parts.ensures.writes)))
      | else-in_parts w ↦ subst (λ (b : Bool). Made b c.if-in_parts.writer c.if-in_parts.disk) (sym w.if-in_parts.false)
          (subst (λ (x : g.row.W.Denot). Made false x c.if-in_parts.disk) (sym w.writer-is)
          (subst (λ (back : Disk × Ended). Made false w.resize.new.writer back) (sym w.disk-is)
          (w.resize.ensures.resized, w.resize.ensures.written, w.resize.ensures.writes)))
    ] in
    over_file _ old (g.W.Write.contents c.if-in_parts.writer) _ disk disk c.if-in_parts.disk.0 c.if-in_parts.disk.0 c.if-in_parts.disk.1 refl c.in_ok-disk.ensures.opened refl
    (n, r, subst (λ (w : List ℕ). IsNumber w n) c.as_bytes.ensures.value c.in_ok-resizing.ensures.read.0, subst (λ (w : List ℕ). IsRecord g.R.TextRecord.spelling w r) c.as_bytes-2.ensures.value c.in_ok-resizing.ensures.read.1, made)
    c.status_on.ensures
