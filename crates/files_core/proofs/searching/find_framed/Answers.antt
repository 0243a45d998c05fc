use Rattle.std.proofs.Common.{ℕ, List, refl, sym, ap, subst}
use Rattle.disk_core.specs.Calls.{bytes_of}
use Rattle.pen_core.specs.Typed.{OpensTo}
use Rattle.text_core.proofs.Wanted.{equals_alone}
use Rattle.files_core.specs.Searching.{TellsFirst}
use Rattle.files_core.proofs.Opened.{told_answer}
use Rattle.files_core.proofs.ReadAgain.{answer_again, first_again, reads_again, then_refused, then_told}
use Rattle.files_core.proofs.WindowRecords.{framed_later}
use Rattle.files_core.proofs.searching.find_framed.Goals as goal

pub returns-in_default-clause-reads : goal.returns-in_default-clause-reads
returns-in_default-clause-reads g c =
    let e = c.in-Ok.ensures in
    reads_again g.R.Record.form g.D.Disk.keeps g.D.Disk.states g.D.Disk.faults c.args.disk c.walk_for_parts.new.disk c.find_whole.result.0 c.find_whole.result.1
    (λ model. g.met.D.Disk.reads_an_image c.args.disk (c.walk_for_parts.ensures.model model)) c.walk_for_parts.ensures.only_syncs e.settled e.faults c.walk_for_parts.ensures.model c.find_whole.ensures.reads

pub returns-in_default-clause-writes : goal.returns-in_default-clause-writes
returns-in_default-clause-writes g c =
    let known = g.D.Disk.keeps c.find_whole.result.0 in
    let mid = bytes_of (g.D.Disk.states c.walk_for_parts.new.disk) in
    let old = bytes_of (g.D.Disk.states c.args.disk) in
    answer_again (g.W.Write.contents c.args.writer.now) (g.W.Write.contents c.find_whole.new.writer) (TellsFirst g.R.Record.form c.args.wanted known mid)
    (TellsFirst g.R.Record.form c.args.wanted known old)
    (λ text. first_again g.R.Record.form c.args.wanted known mid old text (λ model. ap (λ s. s.seen) (c.in-Ok.ensures.settled (c.find_whole.ensures.reads.model model))))
    c.find_whole.result.1 c.find_whole.ensures.writes

pub find_in_parts-requires-clause-framed : goal.find_in_parts-requires-clause-framed
find_in_parts-requires-clause-framed g c κs within =
    let e = c.in-Ok.ensures in
    let at = rw c.in-Some.is at e.framed in (
      at.1.0,
      framed_later (g.D.Disk.keeps c.walk_for_parts.new.disk) (g.D.Disk.keeps c.walk_for_parts.new.disk) (bytes_of (g.D.Disk.states c.args.disk)) (bytes_of (g.D.Disk.states c.walk_for_parts.new.disk))
          at.1.0 c.in-Some.framed (λ model. model) (λ model. sym (ap (λ s. s.seen) (e.settled model))) at.1.1,
    )

pub find_in_parts-requires-clause-width : goal.find_in_parts-requires-clause-width
find_in_parts-requires-clause-width g c κs within = let at = rw c.in-Some.is at c.in-Ok.ensures.framed in at.0

pub returns-in-Ok-find_in_parts-clause-reads : goal.returns-in-Ok-find_in_parts-clause-reads
returns-in-Ok-find_in_parts-clause-reads g c =
    let e = c.in-Ok.ensures in
    then_told g.R.Record.form g.D.Disk.keeps g.D.Disk.states g.D.Disk.faults c.args.disk c.walk_for_parts.new.disk c.find_in_parts.new.disk
    (λ model. g.met.D.Disk.reads_an_image c.args.disk (c.walk_for_parts.ensures.model model)) c.walk_for_parts.ensures.only_syncs e.settled e.faults c.walk_for_parts.ensures.model
    c.find_in_parts.ensures.same c.find_in_parts.ensures.images c.find_in_parts.ensures.model _ _ c.in-Ok-find_in_parts.ensures.faults c.told.ensures

pub returns-in-Ok-find_in_parts-clause-writes : goal.returns-in-Ok-find_in_parts-clause-writes
returns-in-Ok-find_in_parts-clause-writes g c =
    let laws = g.met.R.Record g.world.𝓛 g.world.𝓜 g.world.𝓡 ((λ s x. x), (λ x. x), (λ x. x), λ x. x) in
    let same = g.met.R.Eq g.world.𝓛 g.world.𝓜 g.world.𝓡 ((λ s x. x), (λ x. x), (λ x. x), λ x. x) in
    let got = c.in-Ok-find_in_parts.ensures.found in
    told_answer _ _ _ _ _ _ c.told.ensures c.write_found-written.ensures (record {
      records = got.0;
      is = λ r. g.R.PartialEq.eq r c.args.wanted;
      just = equals_alone g.R.PartialEq.eq c.args.wanted same.laws laws.exact;
      found = c.in-Ok-find_in_parts.place;
      file = λ model. subst (λ (bs : List ℕ). OpensTo g.R.Record.form bs got.0) (ap (λ s. s.seen) (c.in-Ok.ensures.settled (c.find_in_parts.ensures.model model))) (got.1 model);
      first = got.2;
      told = refl;
    })

pub returns-clause-reads : goal.returns-clause-reads
returns-clause-reads g c =
    let e = c.in-Ok.ensures in
    then_refused g.R.Record.form g.D.Disk.keeps g.D.Disk.states g.D.Disk.faults c.args.disk c.walk_for_parts.new.disk c.find_in_parts.new.disk
    (λ model. g.met.D.Disk.reads_an_image c.args.disk (c.walk_for_parts.ensures.model model)) c.walk_for_parts.ensures.only_syncs e.settled e.faults c.walk_for_parts.ensures.model
    c.find_in_parts.ensures.same c.find_in_parts.ensures.images c.find_in_parts.ensures.model c.in-Err-find_in_parts.fault c.in-Err-find_in_parts.ensures.refused c.in-Err-find_in_parts.ensures.faults
