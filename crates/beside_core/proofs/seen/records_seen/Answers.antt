use Rattle.beside_core.proofs.SeenInTurn.{answers_in_turn}
use Rattle.beside_core.proofs.seen.records_seen.Goals as goal

pub returns : goal.returns
returns g c = record { answer = c.replay_bytes.ensures; in_turn = answers_in_turn g.R.Record.form c.args.bytes.now c.replay_bytes.result c.replay_bytes.ensures }
