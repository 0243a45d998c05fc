use Rattle.book_core.proofs.PieceLists.{joined_pieces-growths}
use Rattle.book_core.proofs.live.Live.piece_count.Goals as goal

pub returns-clause-joined : goal.returns-clause-joined
returns-clause-joined g c = joined_pieces-growths c.args.self.now.blocks c.args.seat.now.pass.entries
