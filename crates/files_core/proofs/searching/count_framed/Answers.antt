use Rattle.std.proofs.Common.{ℕ, List, sym, ap, subst}
use Rattle.disk_core.specs.Calls.{bytes_of}
use Rattle.pen_core.specs.Typed.{OpensTo}
use Rattle.text_core.specs.Answers.{number_line}
use Rattle.text_core.proofs.Wanted.{equals_alone}
use Rattle.files_core.specs.Searching.{TellsCount}
use Rattle.files_core.proofs.Opened.{told_answer}
use Rattle.files_core.proofs.ReadAgain.{answer_again, count_again, reads_again, then_refused, then_told}
use Rattle.files_core.proofs.WindowRecords.{framed_later}
use Rattle.files_core.proofs.searching.count_framed.Goals as goal

pub returns-in_default-clause-reads : goal.returns-in_default-clause-reads
returns-in_default-clause-reads g c =
    let e = c.in-Ok.ensures in
    reads_again g.R.Record.form g.D.Disk.keeps g.D.Disk.states g.D.Disk.faults c.args.disk c.walk_for_parts.new.disk c.count_whole.result.0 c.count_whole.result.1
    (λ model. g.met.D.Disk.reads_an_image c.args.disk (c.walk_for_parts.ensures.model model)) c.walk_for_parts.ensures.only_syncs e.settled e.faults c.walk_for_parts.ensures.model c.count_whole.ensures.reads

pub returns-in_default-clause-writes : goal.returns-in_default-clause-writes
returns-in_default-clause-writes g c =
    let known = g.D.Disk.keeps c.count_whole.result.0 in
    let mid = bytes_of (g.D.Disk.states c.walk_for_parts.new.disk) in
    let old = bytes_of (g.D.Disk.states c.args.disk) in
    answer_again (g.W.Write.contents c.args.writer.now) (g.W.Write.contents c.count_whole.new.writer) (TellsCount g.R.Record.form c.args.wanted known mid)
    (TellsCount g.R.Record.form c.args.wanted known old)
    (λ text. count_again g.R.Record.form c.args.wanted known mid old text (λ model. ap (λ s. s.seen) (c.in-Ok.ensures.settled (c.count_whole.ensures.reads.model model))))
    c.count_whole.result.1 c.count_whole.ensures.writes

pub count_parts-requires-clause-framed : goal.count_parts-requires-clause-framed
count_parts-requires-clause-framed g c κs within =
    let e = c.in-Ok.ensures in
    let at = rw c.in-Some.is at e.framed in (
      at.1.0,
      framed_later (g.D.Disk.keeps c.walk_for_parts.new.disk) (g.D.Disk.keeps c.walk_for_parts.new.disk) (bytes_of (g.D.Disk.states c.args.disk)) (bytes_of (g.D.Disk.states c.walk_for_parts.new.disk))
          at.1.0 c.in-Some.framed (λ model. model) (λ model. sym (ap (λ s. s.seen) (e.settled model))) at.1.1,
    )

pub count_parts-requires-clause-width : goal.count_parts-requires-clause-width
count_parts-requires-clause-width g c κs within = let at = rw c.in-Some.is at c.in-Ok.ensures.framed in at.0

pub returns-in-Ok-count_parts-clause-reads : goal.returns-in-Ok-count_parts-clause-reads
returns-in-Ok-count_parts-clause-reads g c =
    let e = c.in-Ok.ensures in
    then_told g.R.Record.form g.D.Disk.keeps g.D.Disk.states g.D.Disk.faults c.args.disk c.walk_for_parts.new.disk c.count_parts.new.disk
    (λ model. g.met.D.Disk.reads_an_image c.args.disk (c.walk_for_parts.ensures.model model)) c.walk_for_parts.ensures.only_syncs e.settled e.faults c.walk_for_parts.ensures.model
    c.count_parts.ensures.same c.count_parts.ensures.images c.count_parts.ensures.model _ _ c.in-Ok-count_parts.ensures.faults c.told.ensures

pub returns-in-Ok-count_parts-clause-writes : goal.returns-in-Ok-count_parts-clause-writes
returns-in-Ok-count_parts-clause-writes g c =
    let laws = g.met.R.Record g.world.𝓛 g.world.𝓜 g.world.𝓡 ((λ s x. x), (λ x. x), (λ x. x), λ x. x) in
    let same = g.met.R.Eq g.world.𝓛 g.world.𝓜 g.world.𝓡 ((λ s x. x), (λ x. x), (λ x. x), λ x. x) in
    let got = c.in-Ok-count_parts.ensures.counted in
    told_answer _ _ _ _ _ _ c.told.ensures c.write_number_line-written.ensures (record {
      records = got.0;
      is = λ r. g.R.PartialEq.eq r c.args.wanted;
      just = equals_alone g.R.PartialEq.eq c.args.wanted same.laws laws.exact;
      file = λ model. subst (λ (bs : List ℕ). OpensTo g.R.Record.form bs got.0) (ap (λ s. s.seen) (c.in-Ok.ensures.settled (c.count_parts.ensures.model model))) (got.1 model);
      told = ap number_line got.2;
    })

pub returns-clause-reads : goal.returns-clause-reads
returns-clause-reads g c =
    let e = c.in-Ok.ensures in
    then_refused g.R.Record.form g.D.Disk.keeps g.D.Disk.states g.D.Disk.faults c.args.disk c.walk_for_parts.new.disk c.count_parts.new.disk
    (λ model. g.met.D.Disk.reads_an_image c.args.disk (c.walk_for_parts.ensures.model model)) c.walk_for_parts.ensures.only_syncs e.settled e.faults c.walk_for_parts.ensures.model
    c.count_parts.ensures.same c.count_parts.ensures.images c.count_parts.ensures.model c.in-Err-count_parts.fault c.in-Err-count_parts.ensures.refused c.in-Err-count_parts.ensures.faults
