-- The two lanes of device calls, from what a flusher's ticks promise.
use Rattle.std.proofs.Common.{◌≡◌, inl, inr, ℕ, ◌+◌, ◌≤◌, false, List, None, refl, sym, ap, subst, ◌∙◌, arith}
use Rattle.disk_core.specs.State.{IsImage, now}
use Rattle.disk_core.specs.Moments.{LeavesOnly, clock}
use Rattle.disk_core.proofs.JoinedMoments.{LeavesOnly-weaker}
use Rattle.pen_core.specs.PenOf.{PenOf}
use Rattle.flush_core.specs.declared.lane.Tick.{Tick}
use Rattle.flush_core.specs.declared.lane.Tick.TheVariants as ticks
use Rattle.flush_core.specs.declared.lane.Lane.{Lane}
use Rattle.flush_core.specs.declared.lane.Lane.TheVariants as lanes
use Rattle.flush_core.specs.Flusher.{FlusherOf, SameGrowths, IsFlusherOf, OpensToSettled, OpensToJob}
use Rattle.flush_core.specs.Refusals.{IsLaneTicked, IsLaneFault, lane_calls, settled_behind, failed}
use Rattle.flush_core.specs.declared.fault.FlushFault.{FlushFault}
use Rattle.flush_core.specs.declared.fault.FlushFault.TheVariants as flush
use Rattle.drive_core.specs.Line.{of_flush}
use Rattle.drive_core.specs.LaneRows.{lane_step}
use Rattle.drive_core.specs.Medium.{Medium}
use Rattle.drive_core.specs.Step.{Step, Answer}
use Rattle.drive_core.specs.Step as step
use Rattle.drive_core.specs.World.{World, GrowthPhase, Growing, DiskOf, hand_of}
use Rattle.drive_core.specs.Outcome.{stray_in}
use Rattle.drive_core.specs.Run.{HasCalls}
use Rattle.book_core.specs.Lists as book
use Rattle.drive_core.specs.Ties.{GrowingOf, IsGrowing, growths_in_hand, disk_of}
use Rattle.drive_core.specs.GrowthTies.{GrowthStep}
use Rattle.drive_core.specs.Rows.{GrowthRow}
use Rattle.drive_core.proofs.PenLanes.{behind_call, brought, log_answered, log_refused, home_answered, home_refused, due_few, home_few}
use Rattle.drive_core.proofs.Steps.{at_phase, answered}
use Rattle.drive_core.proofs.Ties.{flusher_leaves, flusher_rests, other_flusher, flushes_on, behind_of}

-- What a flusher promises of a tick, whatever it answers.
pub record IsTick {R D : Type 0} (m : Medium R D) (live : book.Phase R) (old new : FlusherOf R D) : Type 0 where
  pub is : IsFlusherOf (m.keeps old.pen.disk) live old
  pub same : SameGrowths old new
  pub opening : m.keeps new.pen.disk → new.opening ≡ old.opening
  pub model : m.keeps new.pen.disk → m.keeps old.pen.disk
  pub images : m.keeps new.pen.disk → LeavesOnly (m.states old.pen.disk) (m.states new.pen.disk) (OpensToJob m.form old)
  pub rests : m.keeps new.pen.disk → (image : List ℕ) → IsImage (now (m.states new.pen.disk)) image → OpensToSettled m.form new image

module _ {R D : Type 0} {m : Medium R D} {w : World R} {phase : GrowthPhase} {g : GrowingOf R D} (tie : IsGrowing m w phase g) {new : FlusherOf R D} (tick : IsTick m g.live g.flusher new) where
  -- the world behind it
  abbrev behind : World R
  behind = behind_call w (phase.before + new.settled) (hand_of new.pen) (disk_of m.states m.faults new.pen.disk)

  -- ---- what the job in hand brings then

  abbrev Brings : Type 0
  Brings = new.taken ≡ new.settled + growths_in_hand new.pen.job

  log_brings : (tick : Tick) → IsLaneTicked lanes.Log g.flusher.pen new.pen tick → new.settled ≡ settled_behind g.flusher tick → new.taken ≡ g.flusher.taken → Brings
  log_brings ticks.Idle ticked settled taken =
      let was = tie.flusher.job_brings in
      let job = ap (λ (p : PenOf D). growths_in_hand p.job) ticked.1 in
      omega (arith, was, job, settled, taken)
  log_brings ticks.Step ticked settled taken =
      let was = tie.flusher.job_brings in
      let job : growths_in_hand new.pen.job ≡ growths_in_hand g.flusher.pen.job = ap growths_in_hand ticked.2.2 ∙ ap growths_in_hand (sym ticked.1) in
      omega (arith, was, job, settled, taken)
  log_brings ticks.Done ticked settled taken = let none : growths_in_hand new.pen.job ≡ 0 = ap growths_in_hand ticked.3.job_done in omega (arith, none, settled, taken)
  log_brings ticks.Filed ticked settled taken = absurd ticked
  log_brings ticks.Waiting ticked settled taken = absurd ticked

  home_brings : (tick : Tick) → IsLaneTicked lanes.Home g.flusher.pen new.pen tick → new.settled ≡ g.flusher.settled → new.taken ≡ g.flusher.taken → Brings
  home_brings ticks.Idle ticked settled taken =
      let was = tie.flusher.job_brings in
      let job = ap (λ (p : PenOf D). growths_in_hand p.job) ticked.1 in
      omega (arith, was, job, settled, taken)
  home_brings ticks.Step ticked settled taken = let was = tie.flusher.job_brings in let job = ap growths_in_hand ticked.2.job_same in omega (arith, was, job, settled, taken)
  home_brings ticks.Done ticked settled taken = absurd ticked
  home_brings ticks.Filed ticked settled taken =
      let was = tie.flusher.job_brings in
      let none : growths_in_hand g.flusher.pen.job ≡ 0 = ap growths_in_hand ticked.1.idle in
      let job : growths_in_hand new.pen.job ≡ 0 = ap growths_in_hand ticked.1.job_is in
      omega (arith, was, none, job, settled, taken)
  home_brings ticks.Waiting ticked settled taken =
      let was = tie.flusher.job_brings in
      let job = ap (λ (p : PenOf D). growths_in_hand p.job) ticked.1.same in
      omega (arith, was, job, settled, taken)

  -- a tick that is refused settles nothing, and leaves the job
  job_left : growths_in_hand new.pen.job ≡ growths_in_hand g.flusher.pen.job → new.settled ≡ g.flusher.settled → Brings
  job_left job settled = let was = tie.flusher.job_brings in let taken = tick.same.taken_same in omega (arith, was, job, settled, taken)

  -- ---- from the pen's event

  by_event : {asked : Step R} {answer same : Answer R} {n : ℕ} → answer ≡ same → Brings → clock (m.states new.pen.disk) ≡ clock (m.states g.flusher.pen.disk) + n → n ≤ 1
      → GrowthRow m.form (m.keeps new.pen.disk) w phase asked same behind → HasCalls w asked same n → (n ≡ 0 → behind.disk ≡ w.disk) → stray_in same ≡ None
      → GrowthStep m w (record g { flusher = new }) asked answer n
  by_event {asked} {same = same} {n = n} told brings time few row calls still calm = answered told (record {
    after = behind;
    is_event = record {
      row = at_phase m.form (m.keeps new.pen.disk) w (Growing phase) asked same behind tie.calm tie.phase_is row;
      called = calls;
      time = time ∙ ap (λ (d : DiskOf). clock d.states + n) (sym tie.disk_is);
      still = still;
    };
    inner = λ kept. record {
      within = λ some has. flusher_leaves tie (tick.model kept) tick.is (phase.before + new.settled) (hand_of new.pen) new.pen.disk
          (LeavesOnly-weaker (m.states g.flusher.pen.disk) (m.states new.pen.disk) (OpensToJob m.form g.flusher) (OpensToSettled m.form g.flusher) (λ image opens. opens.kept) (tick.images kept));
      behind = λ some has. flusher_rests behind_tie kept is_new (tick.rests kept);
    };
    stray_is = tie.calm ∙ sym calm;
    few = omega (arith, few);
    tied = behind_of behind_tie;
  })
    where
      behind_tie : IsGrowing m behind phase (record g { flusher = new })
      behind_tie = other_flusher tie w.phase phase.flusher phase.taken (phase.before + new.settled) (hand_of new.pen) (disk_of m.states m.faults new.pen.disk) new tie.phase_is
          (flushes_on tie tick.same.pass_same tick.same.taken_same brings refl) refl refl

      is_new : IsFlusherOf (m.keeps new.pen.disk) g.live new
      is_new = record {
        directory = ap (λ (p : _). p.of) tick.same.pass_same ∙ tick.is.directory;
        mark = ap (λ (m : _). m.of) tick.same.mark_same ∙ tick.is.mark;
        before = tick.same.before_same ∙ tick.is.before;
        opening = λ kept. tick.opening kept ∙ tick.is.opening (tick.model kept);
      }

  -- ---- the log

  abbrev log_calls : ℕ
  log_calls = lane_calls lanes.Log g.flusher.pen

  -- what is settled by a tick
  settled_more : (tick : Tick) → IsLaneTicked lanes.Log g.flusher.pen new.pen tick → new.settled ≡ settled_behind g.flusher tick
      → phase.before + new.settled ≡ w.settled + brought g.flusher.pen.job tick
  settled_more ticks.Idle ticked settled = let before = tie.flusher.settled_is in omega (arith, settled, before)
  settled_more ticks.Step ticked settled = let before = tie.flusher.settled_is in omega (arith, settled, before)
  settled_more ticks.Done ticked settled = let before = tie.flusher.settled_is in let brings = tie.flusher.job_brings in omega (arith, settled, before, brings)
  settled_more ticks.Filed ticked settled = absurd ticked
  settled_more ticks.Waiting ticked settled = absurd ticked

  settled_same : new.settled ≡ g.flusher.settled → phase.before + new.settled ≡ w.settled
  settled_same is = let before = tie.flusher.settled_is in omega (arith, is, before)

  log_answers : {answer : Answer R} (tick : Tick) → answer ≡ step.Ticked tick → clock (m.states new.pen.disk) ≡ clock (m.states g.flusher.pen.disk) + log_calls
      → IsLaneTicked lanes.Log g.flusher.pen new.pen tick → g.flusher.pen.broken ≡ false → new.pen.broken ≡ false → new.settled ≡ settled_behind g.flusher tick
      → GrowthStep m w (record g { flusher = new }) step.Log answer log_calls
  log_answers ticked_as is time ticked whole whole' settled =
      let event = log_answered m w g.flusher.pen new.pen tie.hand_is tie.disk_is (phase.before + new.settled) ticked_as ticked whole whole' (settled_more ticked_as ticked settled) in
      by_event is (log_brings ticked_as ticked settled tick.same.taken_same) time (due_few g.flusher.pen.broken g.flusher.pen.job) event.0 event.1 event.2 refl

  log_refuses : {answer : Answer R} (fault : FlushFault) → answer ≡ step.Refused (of_flush fault) → clock (m.states new.pen.disk) ≡ clock (m.states g.flusher.pen.disk) + log_calls
      → IsLaneFault lanes.Log g.flusher.pen new.pen fault → new.settled ≡ g.flusher.settled → m.faults new.pen.disk ≡ m.faults g.flusher.pen.disk + failed fault
      → GrowthStep m w (record g { flusher = new }) step.Log answer log_calls
  log_refuses (flush.Strayed number) is time why settled counted = absurd why
  log_refuses (flush.Pen fault) is time why settled counted =
      let event = log_refused m w g.flusher.pen new.pen tie.hand_is tie.disk_is (phase.before + new.settled) fault why (settled_same settled) counted in
      let job : growths_in_hand new.pen.job ≡ growths_in_hand g.flusher.pen.job
      = elim why [ inl was ↦ ap (λ (p : PenOf D). growths_in_hand p.job) was.2 | inr by ↦ ap growths_in_hand by.4.job_same ] in
      by_event is (job_left job settled) time (due_few g.flusher.pen.broken g.flusher.pen.job) event.0 event.1 event.2 refl

  -- ---- the homes

  abbrev home_calls : ℕ
  home_calls = lane_calls lanes.Home g.flusher.pen

  -- a tick of the homes settles nothing
  settled_home : (tick : Tick) → IsLaneTicked lanes.Home g.flusher.pen new.pen tick → new.settled ≡ settled_behind g.flusher tick → new.settled ≡ g.flusher.settled
  settled_home ticks.Idle ticked is = is
  settled_home ticks.Step ticked is = is
  settled_home ticks.Done ticked is = absurd ticked
  settled_home ticks.Filed ticked is = is
  settled_home ticks.Waiting ticked is = is

  home_answers : {answer : Answer R} (tick : Tick) → answer ≡ step.Ticked tick → clock (m.states new.pen.disk) ≡ clock (m.states g.flusher.pen.disk) + home_calls
      → IsLaneTicked lanes.Home g.flusher.pen new.pen tick → g.flusher.pen.broken ≡ false → new.pen.broken ≡ false → new.settled ≡ settled_behind g.flusher tick
      → GrowthStep m w (record g { flusher = new }) step.Home answer home_calls
  home_answers ticked_as is time ticked whole whole' told =
      let settled = settled_home ticked_as ticked told in
      let event = home_answered m w g.flusher.pen new.pen tie.hand_is tie.disk_is (phase.before + new.settled) ticked_as ticked whole whole' (settled_same settled) in
      by_event is (home_brings ticked_as ticked settled tick.same.taken_same) time (home_few g.flusher.pen.broken g.flusher.pen.fold) event.0 event.1 event.2 refl

  home_refuses : {answer : Answer R} (fault : FlushFault) → answer ≡ step.Refused (of_flush fault) → clock (m.states new.pen.disk) ≡ clock (m.states g.flusher.pen.disk) + home_calls
      → IsLaneFault lanes.Home g.flusher.pen new.pen fault → new.settled ≡ g.flusher.settled → m.faults new.pen.disk ≡ m.faults g.flusher.pen.disk + failed fault
      → GrowthStep m w (record g { flusher = new }) step.Home answer home_calls
  home_refuses (flush.Strayed number) is time why settled counted = absurd why
  home_refuses (flush.Pen fault) is time why settled counted =
      let event = home_refused m w g.flusher.pen new.pen tie.hand_is tie.disk_is (phase.before + new.settled) fault why (settled_same settled) counted in
      let job : growths_in_hand new.pen.job ≡ growths_in_hand g.flusher.pen.job
      = elim why [ inl was ↦ ap (λ (p : PenOf D). growths_in_hand p.job) was.2 | inr by ↦ ap growths_in_hand by.5.job_same ] in
      by_event is (job_left job settled) time (home_few g.flusher.pen.broken g.flusher.pen.fold) event.0 event.1 event.2 refl

  -- ---- either lane

  pub lane_answers : {answer : Answer R} (lane : Lane) (tick : Tick) → answer ≡ step.Ticked tick
      → clock (m.states new.pen.disk) ≡ clock (m.states g.flusher.pen.disk) + lane_calls lane g.flusher.pen
      → IsLaneTicked lane g.flusher.pen new.pen tick → g.flusher.pen.broken ≡ false → new.pen.broken ≡ false → new.settled ≡ settled_behind g.flusher tick
      → GrowthStep m w (record g { flusher = new }) (lane_step lane) answer (lane_calls lane g.flusher.pen)
  lane_answers lanes.Log ticked_as is time ticked whole whole' settled = log_answers ticked_as is time ticked whole whole' settled
  lane_answers lanes.Home ticked_as is time ticked whole whole' settled = home_answers ticked_as is time ticked whole whole' settled

  pub lane_refuses : {answer : Answer R} (lane : Lane) (fault : FlushFault) → answer ≡ step.Refused (of_flush fault)
      → clock (m.states new.pen.disk) ≡ clock (m.states g.flusher.pen.disk) + lane_calls lane g.flusher.pen
      → IsLaneFault lane g.flusher.pen new.pen fault → new.settled ≡ g.flusher.settled → m.faults new.pen.disk ≡ m.faults g.flusher.pen.disk + failed fault
      → GrowthStep m w (record g { flusher = new }) (lane_step lane) answer (lane_calls lane g.flusher.pen)
  lane_refuses lanes.Log fault is time why settled counted = log_refuses fault is time why settled counted
  lane_refuses lanes.Home fault is time why settled counted = home_refuses fault is time why settled counted

-- with what a crash may leave of the disk as it is lent
pub lent_tick : {R D : Type 0} (m : Medium R D) (live : book.Phase R) {old new : FlusherOf R D} {lent : D} → IsFlusherOf (m.keeps old.pen.disk) live old → SameGrowths old new
    → (m.keeps new.pen.disk → new.opening ≡ old.opening) → (m.keeps new.pen.disk → m.keeps old.pen.disk)
    → (m.keeps new.pen.disk → LeavesOnly (m.states old.pen.disk) (m.states new.pen.disk) (OpensToJob m.form old))
    → lent ≡ new.pen.disk → (m.keeps lent → (image : List ℕ) → IsImage (now (m.states lent)) image → OpensToJob m.form new image) → IsTick m live old new
lent_tick {D = D} m live {new = new} is same opening model images lent_is rests = record {
  is = is;
  same = same;
  opening = opening;
  model = model;
  images = images;
  rests = λ kept image left. (subst (λ (d : D). m.keeps d → (image : List ℕ) → IsImage (now (m.states d)) image → OpensToJob m.form new image) lent_is rests kept image left).kept;
}
