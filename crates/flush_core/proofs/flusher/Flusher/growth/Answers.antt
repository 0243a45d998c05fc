use Rattle.std.proofs.Common.{Some, ◌∙◌, sym, ap}
use Rattle.std.specs.Prelude.{option_map}
use Rattle.std.proofs.lemmas.Option.{slice_get-map}
use Rattle.block_core.specs.Growth.{Growth}
use Rattle.flush_core.specs.Flusher.{flusher_of}
use Rattle.flush_core.proofs.Stands.{Stands-pass}
use Rattle.flush_core.proofs.flusher.Flusher.growth.Goals as goal

pub invariant_of-self : goal.invariant_of-self
invariant_of-self g c = Stands-pass g.D.Disk.keeps g.D.Disk.states c.self.invariant c.entry.new.pass c.entry.ensures.same

pub returns-in_err-entry-clause-same : goal.returns-in_err-entry-clause-same
returns-in_err-entry-clause-same g c =
    let s = c.self.inside in
    ap (λ p. flusher_of g.R.Record.form s.pen p s.mark s.before s.taken s.settled) c.entry.ensures.same ∙ c.self.view_is

pub invariant_of-self-2 : goal.invariant_of-self-2
invariant_of-self-2 g c = Stands-pass g.D.Disk.keeps g.D.Disk.states c.self.invariant c.entry.new.pass c.entry.ensures.same

pub returns : goal.returns
returns g c =
    let s = c.self.inside in
    let value = slice_get-map (λ (e : Growth g.row.R.Denot). e.records) s.pass.entries c.args.number
    ∙ ap (option_map (λ (e : Growth g.row.R.Denot). e.records)) c.in_ok-entry.ensures.value ∙ ap Some (sym c.records.ensures.value) in
    rw (← c.self.view_is) (record {
      same = ap (λ p. flusher_of g.R.Record.form s.pen p s.mark s.before s.taken s.settled) c.entry.ensures.same;
      value = value;
    })
