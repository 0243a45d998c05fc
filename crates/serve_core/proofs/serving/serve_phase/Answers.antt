use Rattle.serve_core.proofs.serving.serve_phase.Goals as goal

pub returns : goal.returns
returns g c =
    let left = c.disk_of-disk.ensures in (
      record {
        flusher = c.serve_seats-flusher.result.0;
        comes = c.serve_seats-flusher.ensures.back;
        disk_is = left.disk;
        settled_is = left.count;
        known = left.known;
        images = left.images;
      },
      c.serve_seats-flusher.ensures.clients,
    )
