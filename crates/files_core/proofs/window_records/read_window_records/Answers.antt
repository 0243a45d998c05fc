use Rattle.std.proofs.Common.{ℕ, List, refl, sym, ap, subst, ◌∙◌}
use Rattle.std.proofs.lemmas.Result.{MatchResult-weaker}
use Rattle.disk_core.specs.Calls.{bytes_of}
use Rattle.files_core.specs.Listing.{AreRecordsFrom}
use Rattle.segment_core.specs.Raw.{raw}
use Rattle.pen_core.specs.Opening.{IsOpenRefusal}
use Rattle.files_core.proofs.AnyBytes.{any_refusal}
use Rattle.files_core.proofs.WindowRecords.{framed_later, only_syncs_then, window_read}
use Rattle.files_core.proofs.window_records.read_window_records.Goals as goal

pub returns-in-Err-clause-refused : goal.returns-in-Err-clause-refused
returns-in-Err-clause-refused g c = λ model.
    let old = bytes_of (g.D.Disk.states c.args.disk.now) in
    any_refusal g.R.Record.form old c.in-Err.fault (subst (λ w. IsOpenRefusal (raw w) old c.in-Err.fault) c.width_of.ensures.is (c.in-Err.ensures.refused model))

pub read_parts-requires-clause-framed : goal.read_parts-requires-clause-framed
read_parts-requires-clause-framed g c κs within =
    let e = c.in-Ok.ensures in
    let at = e.framed.1 in (
      at.0,
      framed_later (g.D.Disk.keeps c.walk_disk.new.disk) (g.D.Disk.keeps c.walk_disk.new.disk) (bytes_of (g.D.Disk.states c.args.disk.now)) (bytes_of (g.D.Disk.states c.walk_disk.new.disk))
          at.0 c.in-Ok.framed (λ model. model) (λ model. sym (ap (λ s. s.seen) (e.settled model))) at.2,
    )

pub returns-clause-only_syncs : goal.returns-clause-only_syncs
returns-clause-only_syncs g c = λ model.
    let m = c.read_parts.ensures.model model in
    let k = c.walk_disk.ensures.model m in
    only_syncs_then (g.D.Disk.states c.args.disk.now) (g.D.Disk.states c.walk_disk.new.disk) (g.D.Disk.states c.read_parts.new.disk) (g.met.D.Disk.reads_an_image c.args.disk.now k)
    (c.walk_disk.ensures.only_syncs m) (c.in-Ok.ensures.settled m) (c.read_parts.ensures.same model) (c.read_parts.ensures.images model)

pub returns-clause-read : goal.returns-clause-read
returns-clause-read g c =
    let e = c.in-Ok.ensures in
    let at = e.framed.1 in
    let framed = c.in-Ok.framed in
    let old = bytes_of (g.D.Disk.states c.args.disk.now) in
    let last = g.D.Disk.keeps c.read_parts.new.disk in
    let laws = g.met.R.Record g.world.𝓛 g.world.𝓜 g.world.𝓡 ((λ s x. x), (λ x. x), (λ x. x), λ x. x) in
    let on = framed_later (g.D.Disk.keeps c.walk_disk.new.disk) last old old at.0 framed (λ model. c.read_parts.ensures.model model) (λ model. refl) at.2 in
    MatchResult-weaker c.read_parts.result c.read_parts.ensures.read
    (λ records got.
    window_read g.R.Record.form laws.width_in_range.1 last old at.0 framed on (e.framed.0 ∙ c.width_of.ensures.is) g.R.Record.blank_value c.requires c.args.window.now
    c.min-from.result c.min-count.result records.items c.min-from.ensures c.min-count.ensures got.0
    (λ model. subst (λ (bs : List ℕ). AreRecordsFrom g.R.Record.form bs c.min-from.result c.min-count.result records.items)
    (ap (λ s. s.seen) (e.settled (c.read_parts.ensures.model model))) (got.1 model)))
    (λ _ _. tt)
