use Rattle.std.proofs.Common.{refl, sym, ◌∙◌}
use Rattle.filing_core.proofs.ending.sound_on.Goals as goal

pub returns-in-Ok : goal.returns-in-Ok
returns-in-Ok g c =
    let e = c.in-Ok.ensures in
    record {
      at = c.in-Some.at;
      damaged = sym c.damage_of.ensures ∙ c.in-Some.is;
      looked = record { same = e.same; images = e.images; no_fault = e.faults; model = e.model };
      front = e.sound;
    }
