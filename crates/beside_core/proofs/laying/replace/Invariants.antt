use Rattle.std.proofs.Common.{◌≡◌, ◌*◌, ◌∷◌, [], List, ℕ, take, drop, length}
use Rattle.segment_core.specs.declared.tally.Tally.{Tally}
use Rattle.segment_core.specs.Frame.{records_of_runs}
use Rattle.segment_core.specs.Command.{replaced}
use Rattle.segment_core.specs.Reading.{runs_of, record_bytes_of, record_count}
use Rattle.segment_core.specs.Raw.{cells_in}
use Rattle.beside_core.specs.Edit.{AreNoted, loss_of}
use Rattle.beside_core.specs.Tail.{MayFollowTail, IsLossBy, Stands}
use Rattle.beside_core.proofs.laying.replace.Given as goal

abbrev pub invariant-loop-k : goal.invariant-loop-k
invariant-loop-k g l = record {
  here : l.at ≡ records_of_runs (take l.k (runs_of l.frame.frame)) * g.R.Record.form.width;
  base_is : l.laid.base ≡ l.fn.laid.base;
  long : length l.laid.tail.items ≡ length l.fn.laid.tail.items;
  noted : AreNoted (λ edit. IsLossBy l.fn.laid.base (l.frame.frame ∷ []) (loss_of edit)) l.fn.laid.edits.items l.laid.edits.items;
  left : (tally : Tally) → MayFollowTail g.R.Record.form.width l.fn.laid.base tally l.frame.frame l.fn.laid.tail.items → (known cells : List (List ℕ))
      → Stands g.R.Record.form known tally.size l.fn.laid cells
      → (now : List (List ℕ)) × Stands g.R.Record.form known tally.size l.laid now
      × (replaced cells (runs_of l.frame.frame) (cells_in g.R.Record.form.width (record_count l.frame.frame) (record_bytes_of l.frame.frame))
      ≡ replaced now (drop l.k (runs_of l.frame.frame)) (drop (records_of_runs (take l.k (runs_of l.frame.frame))) (cells_in g.R.Record.form.width (record_count l.frame.frame)
      (record_bytes_of l.frame.frame))));
}
