use Rattle.std.proofs.Common.{refl, subst, ◌∙◌}
use Rattle.disk_core.specs.Calls.{bytes_of}
use Rattle.segment_core.specs.Raw.{raw}
use Rattle.pen_core.specs.Opening.{IsOpenRefusal}
use Rattle.files_core.proofs.AnyBytes.{any_refusal}
use Rattle.files_core.proofs.FramedScan.{framed_measured}
use Rattle.files_core.proofs.checking.measure_frames.Goals as goal

pub returns-in-Err-clause-refused : goal.returns-in-Err-clause-refused
returns-in-Err-clause-refused g c = λ model.
    let old = bytes_of (g.D.Disk.states c.args.disk.now) in
    any_refusal g.R.Record.form old c.in-Err.fault (subst (λ w. IsOpenRefusal (raw w) old c.in-Err.fault) c.width_of-width.ensures.is (c.in-Err.ensures.refused model))

pub returns-clause-measured : goal.returns-clause-measured
returns-clause-measured g c =
    let e = c.in-Ok.ensures in
    let at = e.framed.1 in
    let laws = g.met.R.Record g.world.𝓛 g.world.𝓜 g.world.𝓡 ((λ s x. x), (λ x. x), (λ x. x), λ x. x) in
    framed_measured g.R.Record.form laws.width_in_range.1 (g.D.Disk.keeps c.walk_disk.new.disk) (bytes_of (g.D.Disk.states c.args.disk.now)) at.0 c.in-Ok.framed at.2
    (e.framed.0 ∙ c.width_of-width.ensures.is) g.R.Record.blank_value c.requires _ c.version.ensures c.width_of-width.ensures.is refl refl c.saturating_sub.ensures
