use Rattle.std.proofs.Common.{◌≡◌, sym, subst}
use Rattle.directory_core.specs.Known.{KnowsAll}
use Rattle.serve_core.specs.Serving.{ComesBack}
use Rattle.serve_core.specs.Clients.{TakesClientsIn}
use Rattle.serve_core.proofs.Bytes.{on_ok}
use Rattle.serve_core.proofs.Flushed.{comes_back, takes_in}
use Rattle.serve_core.proofs.serving.serve_clients.Goals as goal

pub take_clients_in-made_all-requires-clause-of : goal.take_clients_in-made_all-requires-clause-of
take_clients_in-made_all-requires-clause-of g c = λ κs within. c.flush_all-flushed.ensures.flushed.of

pub returns-clause-back : goal.returns-clause-back
returns-clause-back g c =
    let form = g.R.Record.form in
    let keeps = g.D.Disk.keeps in
    let states = g.D.Disk.states in
    let faults = g.D.Disk.faults in
    let live = c.args.live.now in
    let old = c.args.flusher.now in
    let mid = c.flush_all-flushed.new.flusher in
    let new = c.take_clients_in-made_all.new.flusher in
    let flushed = c.flush_all-flushed.ensures in
    let taken = c.take_clients_in-made_all.ensures in
    let same = on_ok (KnowsAll mid.pass) (new.pass.entries ≡ mid.pass.entries) c.flush_all-flushed.result taken.all flushed.all in
    subst (ComesBack form keeps states faults live old new) (sym c.outcome.ensures)
    (comes_back form keeps states faults live old mid new taken.learns flushed.images c.flush_all-flushed.result c.take_clients_in-made_all.result c.known.result flushed.flushed same c.known.ensures.count)

pub returns-clause-clients : goal.returns-clause-clients
returns-clause-clients g c =
    let form = g.R.Record.form in
    let keeps = g.D.Disk.keeps in
    let states = g.D.Disk.states in
    let faults = g.D.Disk.faults in
    let live = c.args.live.now in
    let old = c.args.flusher.now in
    let mid = c.flush_all-flushed.new.flusher in
    let new = c.take_clients_in-made_all.new.flusher in
    let taken = c.take_clients_in-made_all.ensures in
    let same = on_ok (KnowsAll mid.pass) (new.pass.entries ≡ mid.pass.entries) c.flush_all-flushed.result taken.all c.flush_all-flushed.ensures.all in
    subst (TakesClientsIn form keeps states live g.I.Read.remaining g.W.Write.contents c.args.pipes.now.value.items new) (sym c.outcome.ensures)
    (takes_in form keeps states faults live old mid new taken.learns c.flush_all-flushed.result c.take_clients_in-made_all.result c.known.result taken.taken.0 taken.taken.1 same)
