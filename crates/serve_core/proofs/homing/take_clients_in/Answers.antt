use Rattle.std.proofs.Common.{◌≡◌, ◌≢◌, List, length, All, subst, sym, ap, ◌∙◌}
use Rattle.std.proofs.lemmas.Bool.{MatchBool-at_true}
use Rattle.book_core.specs.Lists.{Seated, StandInList}
use Rattle.vault_core.specs.Gathering.{made_by}
use Rattle.serve_core.proofs.Clients.{all_of_phase}
use Rattle.serve_core.proofs.homing.take_clients_in.Goals as goal

pub take_in_all-requires-clause-of : goal.take_in_all-requires-clause-of
take_in_all-requires-clause-of g c = λ κs within. record {
  all_of = all_of_phase g.R.Record.form c.args.live.now g.I.Read.remaining g.W.Write.contents c.args._pipes.now.value.items c.args.seats.items c.requires.clients;
  flusher_of = c.requires.of;
}

pub returns-clause-taken : goal.returns-clause-taken
returns-clause-taken g c =
    let e = c.take_in_all.ensures in (
      record {
        seats = c.args.seats.items;
        clients = c.requires.clients;
        chained = c.known-known.ensures.chained;
        begin = e.begin;
        stand = e.stand;
        left = e.left;
      },
      λ yes.
          let made = MatchBool-at_true ((made_by c.as_slice.result.now ≡ c.known.result) × All StandInList c.as_slice.result.now) (made_by c.as_slice.result.now ≢ c.known.result) yes
          c.made_in_all-made_all.ensures in
          ap made_by (sym c.as_slice.ensures.value) ∙ made.0 ∙ c.known.ensures.count,
    )
