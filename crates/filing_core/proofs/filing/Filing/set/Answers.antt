use Rattle.std.proofs.Common.{refl, ℕ, List, subst}
use Rattle.std.specs.Prelude.{Option}
use Rattle.files_core.specs.Asked.{IsNumber}
use Rattle.filing_core.specs.Asked.{AreSetRecords}
use Rattle.filing_core.proofs.Filings.{over_file}
use Rattle.filing_core.proofs.filing.Filing.set.Goals as goal

pub returns-clause-run : goal.returns-clause-run
returns-clause-run g c = over_file _ (g.W.Write.contents c.args.writer.now) (g.W.Write.contents c.set-disk.new.writer) _ c.in_ok-disk.field-0.disk
    c.in_ok-disk.field-0.disk c.set-disk.result.0 c.set-disk.result.0 c.set-disk.result.1
    refl c.in_ok-disk.ensures.opened refl (
      c.in_ok-setting.setting.start,
      c.in_ok-setting.setting.records.items,
      subst (λ (w : List ℕ). IsNumber w c.in_ok-setting.setting.start) c.as_bytes.ensures.value c.in_ok-setting.ensures.read.0,
      subst (λ (word : Option (List ℕ)). AreSetRecords g.R.TextRecord.spelling word (g.I.Read.remaining c.args.reader.now) c.in_ok-setting.setting.records.items) c.bytes_of_word-word.ensures c.in_ok-setting.ensures.read.1,
      (c.set-disk.ensures.set, c.set-disk.ensures.written, c.set-disk.ensures.writes),
    ) c.status_on.ensures
