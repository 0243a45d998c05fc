-- A change that is taken in run by run.
use Rattle.std.proofs.Common.{◌≡◌, ℕ, ◌+◌, ◌-◌, ◌*◌, ◌<◌, ◌≤◌, List, [], ◌∷◌, ◌++◌, length, take, drop, Some, refl, sym, ap, subst, ◌∙◌, arith}
use Rattle.std.specs.Prelude.{slice_get}
use Rattle.std.proofs.lemmas.List.{take-append-drop, drop-drop}
use Rattle.record_core.specs.Bytes.{Encoding}
use Rattle.record_core.specs.Cells.{cell}
use Rattle.segment_core.specs.Frame.{Run, Frame, Group, Change, Shrink, Fold, records_of_runs}
use Rattle.segment_core.specs.Command.{replaced}
use Rattle.segment_core.specs.Reading.{Seen, runs_of, record_bytes_of, record_count}
use Rattle.segment_core.specs.Raw.{cells_in}
use Rattle.segment_core.proofs.RunRows.{records_of_runs_push, drop_got}
use Rattle.segment_core.proofs.FoundLaid.{RunFits}
use Rattle.beside_core.specs.declared.fault.LookFault.{LookFault}
use Rattle.beside_core.specs.declared.fault.LookFault.TheVariants.{Disk, Scan, NoRecord, TooFar, Memory}
use Rattle.beside_core.specs.declared.news.Edit.{Edit}
use Rattle.beside_core.specs.declared.since.Loss.TheVariants.{Changed}
use Rattle.beside_core.specs.Edit.{AreNoted, loss_of}
use Rattle.beside_core.specs.Tail.{IsLossBy, IsDecodeFault, IsReplayFault}
use Rattle.beside_core.proofs.Tails.{next_cells, replaced_next, covers_at}
use Rattle.beside_core.proofs.Noting.{noted_weaker}
use Rattle.beside_core.proofs.Running.{cell-take}

pub loss_in_run : (base : ℕ) (frame : Frame) (k : ℕ) (run : Run) (j : ℕ) → slice_get (runs_of frame) k ≡ Some run → j < run.count → run.start + j < base
    → IsLossBy base (frame ∷ []) (Changed (run.start + j))
loss_in_run base (Group lengths bytes) k run j told lt below = absurd cc
loss_in_run base (Change runs bytes) k run j told lt below = (below, runs, bytes, ([], [], refl), covers_at 0 runs k run j told lt)
loss_in_run base (Shrink n) k run j told lt below = absurd cc
loss_in_run base (Fold count) k run j told lt below = absurd cc

pub noted_in_run : {R : Type 0} (base : ℕ) (frame : Frame) (k : ℕ) (run : Run) (old new : List (Edit R)) → slice_get (runs_of frame) k ≡ Some run
    → AreNoted (λ edit. (j : ℕ) × (j < run.count) × (run.start + j < base) × (loss_of edit ≡ Changed (run.start + j))) old new
    → AreNoted (λ edit. IsLossBy base (frame ∷ []) (loss_of edit)) old new
noted_in_run base frame k run old new told noted =
    noted_weaker (λ edit. (j : ℕ) × (j < run.count) × (run.start + j < base) × (loss_of edit ≡ Changed (run.start + j))) (λ edit. IsLossBy base (frame ∷ []) (loss_of edit)) old new
    (λ edit has. subst (λ loss. IsLossBy base (frame ∷ []) loss) (sym has.3) (loss_in_run base frame k run has.0 told has.1 has.2)) noted

-- the bytes of a run are those of its records in the frame
run_cell : (width done count j : ℕ) (bytes : List ℕ) → j < count → cell width (take (count * width) (drop (done * width) bytes)) j ≡ cell width bytes (done + j)
run_cell width done count j bytes lt =
    let at : done * width + j * width ≡ (done + j) * width = omega arith in
    cell-take width count j (drop (done * width) bytes) lt ∙ ap (take width) (drop-drop (j * width) (done * width) bytes ∙ ap (λ n. drop n bytes) at)

-- where a record of a run can't be read, the frame puts none there
pub fault_of_run : {R : Type 0} (form : Encoding R) (base : ℕ) (frame : Frame) (k : ℕ) (run : Run) (piece : List ℕ) (fault : LookFault) → slice_get (runs_of frame) k ≡ Some run
    → piece ≡ take (run.count * form.width) (drop (records_of_runs (take k (runs_of frame)) * form.width) (record_bytes_of frame)) → IsDecodeFault form run.start piece run.count fault
    → ((i : ℕ) → fault ≡ NoRecord i → i < base) → IsReplayFault form base (frame ∷ []) fault
fault_of_run form base frame k run piece (Disk fault) told is why below = absurd why
fault_of_run form base frame k run piece (Scan fault) told is why below = absurd why
fault_of_run form base frame k run piece TooFar told is why below = absurd why
fault_of_run form base frame k run piece Memory told is why below = tt
fault_of_run form base (Group lengths bytes) k run piece (NoRecord i) told is why below = absurd cc
fault_of_run form base (Shrink n) k run piece (NoRecord i) told is why below = absurd cc
fault_of_run form base (Fold count) k run piece (NoRecord i) told is why below = absurd cc
fault_of_run form base (Change runs bytes) k run piece (NoRecord i) told is why below = (
  below i refl,
  record {
    before = take k runs;
    run = run;
    behind = drop (k + 1) runs;
    bytes = bytes;
    among = (
      [],
      [],
      ap (λ (rs : List Run). Change rs bytes ∷ []) (sym (take-append-drop k runs) ∙ ap (λ (rs : List Run). take k runs ++ rs) (drop_got runs k run told)),
    );
    place = why.0;
    inside = why.2;
    at = why.1;
    bad = ap form.value_of (sym (ap (λ (bs : List ℕ). cell form.width bs why.0) is ∙ run_cell form.width (records_of_runs (take k runs)) run.count why.0 bytes why.2)) ∙ why.3;
  },
)

module _ (width size k at w : ℕ) (area : List ℕ) (change : Seen) (run : Run) (fits : RunFits width size k at w area (runs_of change.frame) run) (wide : w ≡ width) (some : 0
    < width) (shape_wide : change.shape.width ≡ width) (area_is : area ≡ record_bytes_of change.frame) (filled : length area ≡ record_count change.frame
    * change.shape.width) (here : at ≡ records_of_runs (take k (runs_of change.frame)) * width) where
  abbrev done : ℕ
  done = records_of_runs (take k (runs_of change.frame))

  -- the bytes of this run
  pub piece_is : take (at + run.count * w - at) (drop at area) ≡ take (run.count * width) (drop (done * width) (record_bytes_of change.frame))
  piece_is =
      let one : at + run.count * w - at ≡ run.count * width = omega (arith, ap (λ n. run.count * n) wide) in
      ap (λ n. take n (drop at area)) one ∙ ap (λ n. take (run.count * width) (drop n area)) here ∙ ap (λ (bs : List ℕ). take (run.count * width) (drop (done * width) bs)) area_is

  pub sum : records_of_runs (take (k + 1) (runs_of change.frame)) ≡ done + run.count
  sum = ap records_of_runs fits.more ∙ records_of_runs_push (take k (runs_of change.frame)) run

  new : List (List ℕ)
  new = cells_in width (record_count change.frame) (record_bytes_of change.frame)

  same : take run.count (drop done (cells_in width (record_count change.frame) (record_bytes_of change.frame)))
      ≡ cells_in width run.count (take (at + run.count * w - at) (drop at area))
  same =
      let long : length (record_bytes_of change.frame) ≡ record_count change.frame * width = ap length (sym area_is) ∙ filled ∙ ap (λ n. record_count change.frame * n) shape_wide in
      let next = ap (λ n. n * width) sum in
      let within : (done + run.count) * width ≤ record_count change.frame * width
      = omega (arith, fits.within, fits.next, next, ap length area_is, long) in
      next_cells width (record_count change.frame) done run.count (record_bytes_of change.frame) some long within ∙ ap (cells_in width run.count) (sym piece_is)

  pub run_step : slice_get (runs_of change.frame) k ≡ Some run → (now : List (List ℕ))
      → replaced now (drop k (runs_of change.frame)) (drop done (cells_in width (record_count change.frame) (record_bytes_of change.frame)))
      ≡ replaced (take run.start now ++ cells_in width run.count (take (at + run.count * w - at) (drop at area)) ++ drop (run.start + run.count) now) (drop (k + 1) (runs_of change.frame))
      (drop (records_of_runs (take (k + 1) (runs_of change.frame))) (cells_in width (record_count change.frame) (record_bytes_of change.frame)))
  run_step told now =
      let runs : List Run = runs_of change.frame in
      let all : List (List ℕ) = cells_in width (record_count change.frame) (record_bytes_of change.frame) in
      let piece : List ℕ = take (at + run.count * w - at) (drop at area) in
      replaced_next now runs k run (drop done all) told
      ∙ ap (λ (xs : List (List ℕ)). replaced (take run.start now ++ xs ++ drop (run.start + run.count) now) (drop (k + 1) runs) (drop run.count (drop done all))) same
      ∙ ap (λ (rest : List (List ℕ)). replaced (take run.start now ++ cells_in width run.count piece ++ drop (run.start + run.count) now) (drop (k + 1) runs) rest)
      (drop-drop run.count done all ∙ ap (λ n. drop n all) (sym sum))
