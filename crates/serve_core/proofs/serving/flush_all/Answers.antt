use Rattle.std.proofs.Common.{sym, subst, ◌∙◌}
use Rattle.disk_core.specs.State.{IsImage, now}
use Rattle.serve_core.proofs.serving.flush_all.Goals as goal

pub returns-clause-flushed : goal.returns-clause-flushed
returns-clause-flushed g c =
    let e = c.serve-flushed.ensures in
    let on = e.goes_on in
    record {
      of = record {
        directory = on.of_same ∙ c.requires.directory;
        mark = on.mark_of_same ∙ c.requires.mark;
        before = on.before_same ∙ c.requires.before;
        opening = λ kept. on.opening_same kept ∙ c.requires.opening (e.model kept);
      };
      served = record { goes_on = on; images = e.images; model = e.model; fold = e.fold };
      ended = e.ended;
      refused = e.refused;
      counts = e.faults;
    }

pub returns-clause-images : goal.returns-clause-images
returns-clause-images g c = λ kept image is.
    let d = c.disk-disk.ensures in
    d.images (subst g.D.Disk.keeps (sym d.disk) kept) image (subst (λ k. IsImage (now (g.D.Disk.states k)) image) (sym d.disk) is)
