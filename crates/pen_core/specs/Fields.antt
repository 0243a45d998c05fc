-- A pen by the record of its fields, as its code has them.
use Rattle.std.specs.Prelude.{ℕ, ◌-◌, List, vec_len, vec_capacity}
use Rattle.disk_core.specs.State.{State}
use Rattle.pen_core.specs.declared.pen.Pen.TheInside.{Inside}
use Rattle.pen_core.specs.InHand.{fold_of, HasFold}
use Rattle.pen_core.specs.Inside.{job_in, IsPen}
use Rattle.pen_core.specs.Listed.{HasLists}
use Rattle.pen_core.specs.Pen.{open_count}
use Rattle.pen_core.specs.PenLog.{PenLog, frames_read, vector_read}
use Rattle.pen_core.specs.PenOf.{PenOf}

abbrev pub log_of : {D : Type 0} → Inside D → PenLog
log_of pen = record {
  shape = pen.shape;
  gate = pen.gate;
  tally = pen.tally;
  bytes = pen.bytes.items;
  step = pen.step;
  broken = pen.broken;
}

-- how many changes a fold counts whose homes may be pending
abbrev pub count_open : {D : Type 0} → Inside D → ℕ
count_open pen = open_count pen.fold.stage pen.fold.count

-- What it is seen as. The frames and the vector are those that a read gives, cut at the gate.
abbrev pub seen_as : {D : Type 0} → (D → List State) → Inside D → PenOf D
seen_as states pen = record {
  disk = pen.disk;
  shape = pen.shape;
  frames = frames_read (states pen.disk) (log_of pen);
  vector = vector_read (states pen.disk) (log_of pen);
  job = job_in (log_of pen);
  fold = fold_of pen.fold;
  broken = pen.broken;
  tally = pen.tally;
  gate = pen.gate;
  room = vec_capacity pen.bytes;
  places = vec_capacity pen.homes.live - vec_len pen.homes.live;
}

-- The invariant: of its job, of its lists, and of its fold. The disk keeps its model, and has been through states.
pub record IsSoundPen {D : Type 0} (keeps : D → Type 0) (states : D → List State) (pen : Inside D) : Type 0 where
  pub job : IsPen (count_open pen) (keeps pen.disk) (states pen.disk) (log_of pen) pen.next
  pub lists : HasLists (keeps pen.disk) (states pen.disk) (log_of pen) pen.homes pen.live pen.fold
  pub fold : HasFold (keeps pen.disk) (states pen.disk) (log_of pen) pen.fold
