use Rattle.std.proofs.lemmas.Grind.{common_steps}
use Rattle.std.proofs.Common.{◌≡◌, ◌+◌, ◌-◌, length, take, refl, sym, ap, ◌∙◌, arith}
use Rattle.std.proofs.lemmas.Result.{err_from_is_err_and}
use Rattle.disk_core.specs.State.{now}
use Rattle.disk_core.specs.Calls.{bytes_of}
use Rattle.disk_core.specs.Moments.{clock}
use Rattle.pen_core.specs.Opening.{failed_openings}
use Rattle.pen_core.proofs.Births.{stays_only}
use Rattle.pen_core.proofs.Pieces.{only_syncs_failed, only_syncs_settled, IsWalked, walked_only, walked_bytes, walked_len, walked_settled, all_refused, made_a_sync, made_a_length, made_reads}
use Rattle.pen_core.proofs.Pieces.{needed_behind, reads_made_behind}
use Rattle.pen_core.proofs.scanning.read_disk.Given.{Over}
use Rattle.pen_core.proofs.scanning.read_disk.Goals.{After-feed_all}
use Rattle.pen_core.proofs.scanning.read_disk.Goals as goal

pub returns-in-Err-clause-only_syncs : goal.returns-in-Err-clause-only_syncs
returns-in-Err-clause-only_syncs g c = λ model.
    only_syncs_failed (g.D.Disk.states c.args.disk.now) (g.D.Disk.states c.sync.new.self) (c.in-Err.ensures.same (c.sync.ensures.model model))

pub returns-in-Err-clause-calls : goal.returns-in-Err-clause-calls
returns-in-Err-clause-calls g c =
    let old = g.D.Disk.states c.args.disk.now in
    let len = length (bytes_of old) in
    let n = clock (g.D.Disk.states c.sync.new.self) - clock old in
    record {
      time = (len, λ model. refl, made_a_sync (length c.args.piece.now) len n c.in-Err.fault c.in-Err.ensures.cause.0 (omega (arith, c.sync.ensures.time)));
      reads = grind (arith, common_steps);
    }

pub returns-in-Err-len-clause-only_syncs : goal.returns-in-Err-len-clause-only_syncs
returns-in-Err-len-clause-only_syncs g c = λ model.
    let old = g.D.Disk.states c.args.disk.now in
    let mid = g.D.Disk.states c.sync.new.self in
    let new = g.D.Disk.states c.len.new.self in
    let behind = c.len.ensures.model model in
    let before = c.sync.ensures.model behind in
    let stays = c.len.ensures.same behind in
    only_syncs_settled old mid new (c.in_default.ensures.done before) (g.met.D.Disk.reads_an_image c.args.disk.now before)
    (ap now stays) (stays_only mid new stays)

pub returns-in-Err-len-clause-calls : goal.returns-in-Err-len-clause-calls
returns-in-Err-len-clause-calls g c =
    let old = g.D.Disk.states c.args.disk.now in
    let len = length (bytes_of old) in
    let n = clock (g.D.Disk.states c.len.new.self) - clock old in
    record {
      time = (
        len,
        λ model. refl,
        made_a_length (length c.args.piece.now) len n c.in-Err-len.fault c.in-Err-len.ensures.cause.0
            (omega (arith, c.sync.ensures.time, c.len.ensures.time)),
      );
      reads = grind (arith, common_steps);
    }

-- ---- the bytes were read

walked : (g : Over) (c : After-feed_all g) → g.D.Disk.keeps c.feed_all.new.disk
    → IsWalked c.in-Ok.len (g.D.Disk.states c.args.disk.now) (g.D.Disk.states c.sync.new.self) (g.D.Disk.states c.len.new.self)
    (g.D.Disk.states c.feed_all.new.disk)
walked g c model =
    let behind = c.len.ensures.model (c.feed_all.ensures.model model) in
    let before = c.sync.ensures.model behind in
    record {
      settles = c.in_default.ensures.done before;
      readable = g.met.D.Disk.reads_an_image c.args.disk.now before;
      stays = c.len.ensures.same behind;
      told = c.in-Ok.ensures.value (c.feed_all.ensures.model model);
      same = c.feed_all.ensures.same model;
      images = c.feed_all.ensures.images model;
    }

pub returns-in_err-feed_all : goal.returns-in_err-feed_all
returns-in_err-feed_all g c =
    let old = g.D.Disk.states c.args.disk.now in
    let last = g.D.Disk.states c.len.new.self in
    let new = g.D.Disk.states c.feed_all.new.disk in
    let form = g.R.Record.form in
    let piece = length c.args.piece.now in
    let len = c.in-Ok.len in
    let n = clock new - clock old in
    let made = walked g (goal.at.returns-in_err-feed_all g c).After-feed_all in
    let time : clock last ≡ clock old + 2 = omega (arith, c.sync.ensures.time, c.len.ensures.time) in
    let err = c.in_err-feed_all in
    let fault = err.field-0.0 in
    let read = err.ensures.time in
    let p = err_from_is_err_and c.from_residual.result c.from_residual.ensures.1 in
    rw (p.1, p.2) (record {
      read = tt;
      refused = λ model. all_refused form (bytes_of old) (bytes_of last) len fault (walked_bytes (made model)) (walked_len (made model))
          (err.ensures.refused model);
      only_syncs = λ model. walked_only (made model);
      calls = record {
        time = (len, λ model. walked_len (made model), made_reads piece len n fault err.ensures.cause (omega arith) (omega arith) (omega arith));
        reads = λ model.
            reads_made_behind form piece old last new (walked_bytes (made model)) time fault
            (err.ensures.reads model (walked_len (made model) ∙ ap length (sym (walked_bytes (made model)))));
      };
      faults = err.ensures.faults ∙ ap (λ n. n + failed_openings fault) (c.in-Ok.ensures.cause ∙ c.in_default.ensures.cause);
      model = λ model. c.sync.ensures.model (c.len.ensures.model (c.feed_all.ensures.model model));
    })

pub returns : goal.returns
returns g c =
    let old = g.D.Disk.states c.args.disk.now in
    let last = g.D.Disk.states c.len.new.self in
    let new = g.D.Disk.states c.feed_all.new.disk in
    let form = g.R.Record.form in
    let piece = length c.args.piece.now in
    let len = c.in-Ok.len in
    let n = clock new - clock old in
    let made = walked g (goal.at.returns g c).After-feed_all in
    let time : clock last ≡ clock old + 2 = omega (arith, c.sync.ensures.time, c.len.ensures.time) in
    let ok = c.in_ok-feed_all in
    let read = ok.ensures.time in
    record {
      read = record {
        len = len;
        read = record {
          image = ok.ensures.read.image;
          inside = ok.ensures.read.inside;
          short = ok.ensures.read.short;
          fits = ok.ensures.read.fits;
          fed = ok.ensures.read.fed;
          fed_all = ok.ensures.read.fed_all;
          is = λ model. ok.ensures.read.is model ∙ ap (take (length ok.ensures.read.image)) (walked_bytes (made model));
        };
        long = λ model. walked_len (made model);
        on_disk = λ model. walked_settled (made model);
      };
      refused = λ model. tt;
      only_syncs = λ model. walked_only (made model);
      calls = record {
        time = (len, λ model. walked_len (made model), (omega arith, omega arith, ok.ensures.read.short));
        reads = λ model.
            needed_behind form piece old last new (walked_bytes (made model)) time
            (ok.ensures.reads model (walked_len (made model) ∙ ap length (sym (walked_bytes (made model)))));
      };
      faults = ok.ensures.faults ∙ c.in-Ok.ensures.cause ∙ c.in_default.ensures.cause;
      model = λ model. c.sync.ensures.model (c.len.ensures.model (c.feed_all.ensures.model model));
    }

pub feed_all-requires-clause-length : goal.feed_all-requires-clause-length
feed_all-requires-clause-length g c = grind (arith, common_steps)
