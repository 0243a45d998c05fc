use Rattle.std.proofs.Common.{length, ap, arith}
use Rattle.std.proofs.lemmas.Result.{MatchResult-weaker}
use Rattle.disk_core.specs.Calls.{bytes_of}
use Rattle.files_core.proofs.PartsRead.{part_alone, read_alone}
use Rattle.files_core.proofs.parts.Part.read.Goals as goal

pub returns-clause-some : goal.returns-clause-some
returns-clause-some g c =
    MatchResult-weaker c.read_part.result c.read_part.ensures.read
    (λ _ got. let same = ap length (read_alone c.clear.new.self.items c.read_part.new.records.items got.0 c.clear.ensures.items got.1) in omega (arith, same, got.2, c.min-count.ensures)) (λ _ _. tt)

pub returns-clause-inside : goal.returns-clause-inside
returns-clause-inside g c =
    MatchResult-weaker c.read_part.result c.read_part.ensures.read
    (λ _ got. let same = ap length (read_alone c.clear.new.self.items c.read_part.new.records.items got.0 c.clear.ensures.items got.1) in omega (arith, same, got.2, c.min-count.ensures)) (λ _ _. tt)

pub returns-clause-read : goal.returns-clause-read
returns-clause-read g c = λ model.
    MatchResult-weaker c.read_part.result c.read_part.ensures.read
    (λ _ got.
    part_alone g.R.Record.form (bytes_of (g.D.Disk.states c.args.disk.now)) c.args.from c.min-count.result c.read_part.new.records.items got.0
    (read_alone c.clear.new.self.items c.read_part.new.records.items got.0 c.clear.ensures.items got.1) got.2 (got.3 model)) (λ _ _. tt)
