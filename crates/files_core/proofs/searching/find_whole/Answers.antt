use Rattle.std.proofs.Common.{refl}
use Rattle.files_core.proofs.Opened.{opened_list, told_answer, same_keeps, told_reads}
use Rattle.text_core.proofs.Wanted.{equals_alone}
use Rattle.files_core.proofs.searching.find_whole.Goals as goal

pub returns-clause-writes : goal.returns-clause-writes
returns-clause-writes g c =
    let laws = g.met.R.Record g.world.𝓛 g.world.𝓜 g.world.𝓡 ((λ s x. x), (λ x. x), (λ x. x), λ x. x) in
    let same = g.met.R.Eq g.world.𝓛 g.world.𝓜 g.world.𝓡 ((λ s x. x), (λ x. x), (λ x. x), λ x. x) in
    told_answer _ _ _ _ _ _ c.told.ensures c.write_found-written.ensures (record {
      records = _;
      is = λ r. g.R.PartialEq.eq r c.args.wanted;
      just = equals_alone g.R.PartialEq.eq c.args.wanted same.laws laws.exact;
      found = c.find_first-found.result;
      file = λ model. opened_list _ _ _ _ (c.in-Ok.ensures.opened (same_keeps g.D.Disk.keeps _ _ c.into_disk.ensures.disk model));
      first = c.find_first-found.ensures;
      told = refl;
    })

pub returns-clause-reads : goal.returns-clause-reads
returns-clause-reads g c =
    told_reads g.R.Record.form g.D.Disk.keeps g.D.Disk.states g.D.Disk.faults _ _ _ _ _ c.into_disk.ensures.disk c.in-Ok.ensures.only_syncs c.in-Ok.ensures.faults
    c.in-Ok.ensures.model c.told.ensures
