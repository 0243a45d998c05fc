-- What holds of a disk that is watched holds of the one below.
use Rattle.std.proofs.Common.{ℕ, List, ap, inl, inr}
use Rattle.record_core.specs.Bytes.{Encoding}
use Rattle.disk_core.specs.FileDisk.{KeepsSoFar, faults_of, states_of}
use Rattle.disk_core.specs.State.{State}
use Rattle.pen_core.specs.PenOf.{PenOf}
use Rattle.pen_core.specs.declared.fault.PenFault.{PenFault}
use Rattle.vault_core.specs.Commands.{IsVaultFoldFault}
use Rattle.vault_core.specs.Settles.{IsSettleFault}
use Rattle.vault_core.specs.Vault.{VaultOf}
use Rattle.vault_core.specs.declared.fault.VaultFault.{VaultFault}
use Rattle.vault_core.specs.declared.fault.VaultFault.TheVariants.{Pen, Unsettled, WrongPhase}
use Rattle.files_core.specs.declared.ended.Ended.{Ended}
use Rattle.files_core.specs.declared.ended.Ended.TheVariants.{Done, OutputFailed, Refused}
use Rattle.files_core.specs.declared.fault.FileFault.{FileFault}
use Rattle.files_core.specs.declared.fault.FileFault.TheVariants.{Word, Input, Open, Vault, Grower, Upgrade}
use Rattle.files_core.specs.declared.watched.Watched.{Watched}
use Rattle.files_core.specs.Ended.{EndsAs}
use Rattle.files_core.specs.Folding.{IsFoldingFault, IsFoldCommandFault, IsNotFolded, KeepsList, NoneLive}
use Rattle.files_core.specs.Opened.{IsOpenedOn, CommandOnlyReads}
use Rattle.files_core.specs.Watched.{below}
use Rattle.filing_core.specs.Complaints.{Disk}

module _ {P : Type 0} where
  abbrev seen_keeps : Watched Disk P → Type 0
  seen_keeps w = KeepsSoFar (below w)

  abbrev seen_states : Watched Disk P → List State
  seen_states w = states_of (below w)

  abbrev seen_faults : Watched Disk P → ℕ
  seen_faults w = faults_of (below w)

  abbrev pen_below : PenOf (Watched Disk P) → PenOf Disk
  pen_below pen = record {
    disk = below pen.disk;
    shape = pen.shape;
    frames = pen.frames;
    vector = pen.vector;
    job = pen.job;
    fold = pen.fold;
    broken = pen.broken;
    tally = pen.tally;
    gate = pen.gate;
    room = pen.room;
    places = pen.places;
  }

  settle_below : (old new : PenOf (Watched Disk P)) (fault : PenFault) → IsSettleFault old new (Pen fault) → IsSettleFault (pen_below old) (pen_below new) (Pen fault)
  settle_below old new fault (inl same) = inl (same.0, same.1, ap (λ (p : PenOf (Watched Disk P)). pen_below p) same.2)
  settle_below old new fault (inr cause) = inr cause

  barred_below : (pen : PenOf (Watched Disk P)) (fault : PenFault) → IsVaultFoldFault pen (Pen fault) → IsVaultFoldFault (pen_below pen) (Pen fault)
  barred_below pen fault why = why

  folding_below : (old new : PenOf (Watched Disk P)) (fault : VaultFault) → IsFoldingFault old new fault → IsFoldingFault (pen_below old) (pen_below new) fault
  folding_below old new (Pen fault) (inl barred) = inl (barred_below old fault barred.0, ap (λ (w : Watched Disk P). below w) barred.1)
  folding_below old new (Pen fault) (inr failed) = inr (pen_below failed.0, ap (λ (w : Watched Disk P). below w) failed.1, settle_below failed.0 new fault failed.2)
  folding_below old new (Unsettled number) (inl barred) = absurd barred.0
  folding_below old new (Unsettled number) (inr failed) = absurd failed.2
  folding_below old new WrongPhase (inl barred) = absurd barred.0
  folding_below old new WrongPhase (inr failed) = absurd failed.2

  none_below : (left : (Watched Disk P)) → NoneLive seen_keeps seen_states left → NoneLive KeepsSoFar states_of (below left)
  none_below left n = record {
    pen = pen_below n.pen;
    disk_is = ap (λ (w : (Watched Disk P)). below w) n.disk_is;
    folded = n.folded;
    kept = λ keeps. let k = n.kept keeps in record { images_open = k.images_open; pending_is_told = k.pending_is_told; gate_is = k.gate_is; tally_is = k.tally_is; size_is = k.size_is };
  }

  pub none_live_below : (left : (Watched Disk P)) (ended : Ended) → EndsAs (NoneLive seen_keeps seen_states left) (λ _. Unit {0}) ended
      → EndsAs (NoneLive KeepsSoFar states_of (below left)) (λ _. Unit {0}) ended
  none_live_below left Done none = none_below left none
  none_live_below left OutputFailed none = none_below left none
  none_live_below left (Refused fault) none = tt

module _ {R P : Type 0} where
  abbrev vault_below : VaultOf R (Watched Disk P) → VaultOf R Disk
  vault_below v = record { pen = pen_below v.pen; blocks = v.blocks; sure = v.sure }

module _ {R P : Type 0} (form : Encoding R) where
  pub reads_below : (disk left : (Watched Disk P)) (ended : Ended) → CommandOnlyReads form seen_keeps seen_states seen_faults disk left ended
      → CommandOnlyReads form KeepsSoFar states_of faults_of (below disk) (below left) ended
  reads_below disk left ended o = record { refused = o.refused; only_syncs = o.only_syncs; faults_are = o.faults_are; model = o.model }

  list_below : (disk left : (Watched Disk P)) → KeepsList form seen_states disk left → KeepsList form states_of (below disk) (below left)
  list_below disk left l = record { records = l.records; file = l.file; images = l.images; settled = l.settled }

  opened_below : (disk : (Watched Disk P)) (v : VaultOf R (Watched Disk P)) → IsOpenedOn form seen_keeps seen_states seen_faults disk v
      → IsOpenedOn form KeepsSoFar states_of faults_of (below disk) (vault_below v)
  opened_below disk v o = record {
    rests = record { width_is = o.rests.width_is; size_is = o.rests.size_is; no_job = o.rests.no_job; no_fold = o.rests.no_fold; whole = o.rests.whole };
    opened = λ keeps. let is = o.opened keeps in record {
      format = is.format;
      found = is.found;
      vector = is.vector;
      shape_is = is.shape_is;
      frames_are = is.frames_are;
      cells_are = is.cells_are;
      tally_is = is.tally_is;
      gate_is = is.gate_is;
    };
    sure = o.sure;
    only_syncs = o.only_syncs;
    faults_same = o.faults_same;
    model = o.model;
  }

  not_folded_below : (disk left : (Watched Disk P)) (fault : VaultFault) → IsNotFolded form seen_keeps seen_states seen_faults disk left fault
      → IsNotFolded form KeepsSoFar states_of faults_of (below disk) (below left) fault
  not_folded_below disk left fault n = record {
    scanned = below n.scanned;
    vault = vault_below n.vault;
    pen = pen_below n.pen;
    only_syncs = n.only_syncs;
    no_fault = n.no_fault;
    opened = opened_below n.scanned n.vault n.opened;
    disk_is = ap (λ (w : (Watched Disk P)). below w) n.disk_is;
    why = folding_below n.vault.pen n.pen fault n.why;
    faults_are = n.faults_are;
    stays = λ keeps. list_below disk left (n.stays keeps);
  }

  fold_refusal_below : (disk left : (Watched Disk P)) (fault : FileFault) → IsFoldCommandFault form seen_keeps seen_states seen_faults disk left fault
      → IsFoldCommandFault form KeepsSoFar states_of faults_of (below disk) (below left) fault
  fold_refusal_below disk left (Open fault) why = why
  fold_refusal_below disk left (Vault fault) why = not_folded_below disk left fault why
  fold_refusal_below disk left (Word word) why = why
  fold_refusal_below disk left (Input refusal) why = why
  fold_refusal_below disk left (Grower stopped) why = why
  fold_refusal_below disk left (Upgrade fault) why = why

  pub folds_below : (disk left : (Watched Disk P)) (ended : Ended)
      → EndsAs (seen_keeps left → KeepsList form seen_states disk left) (IsFoldCommandFault form seen_keeps seen_states seen_faults disk left) ended
      → EndsAs (KeepsSoFar (below left) → KeepsList form states_of (below disk) (below left)) (IsFoldCommandFault form KeepsSoFar states_of faults_of (below disk) (below left)) ended
  folds_below disk left Done stays = λ keeps. list_below disk left (stays keeps)
  folds_below disk left OutputFailed stays = λ keeps. list_below disk left (stays keeps)
  folds_below disk left (Refused fault) why = fold_refusal_below disk left fault why
