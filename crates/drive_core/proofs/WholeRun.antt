-- At the end of drive's loop: from the run so far and what its calls said.
use Rattle.std.proofs.Common.{◌≡◌, ℕ, List, sym, subst}
use Rattle.record_core.specs.Bytes.{Encoding}
use Rattle.drive_core.specs.Step.{Step, Answer}
use Rattle.drive_core.specs.World.{DiskOf, start}
use Rattle.drive_core.specs.Run.{Event, AreEvents, AreEventsOf, last}
use Rattle.drive_core.specs.Headline.{AllInner}
use Rattle.drive_core.specs.Drive.{IsDriven}
use Rattle.disk_core.specs.State.{State}
use Rattle.drive_core.specs.World.{World}
use Rattle.drive_core.specs.Driving.{HasRun}
use Rattle.drive_core.specs.Ties.{disk_of}
use Rattle.drive_core.proofs.Headline.{headline, leaves_told}

pub driven : {R : Type 0} (form : Encoding R) (keeps : Type 0) (old new : DiskOf) (steps : List (Step R)) (answers : List (Answer R)) (calls : List ℕ) (events : List (Event R))
    → AreEventsOf steps answers calls events → AreEvents form keeps (start old) events → (last (start old) events).disk ≡ new → (keeps → AllInner form (start old) events)
    → IsDriven form keeps old steps answers calls new
driven form keeps old new steps answers calls events are run ends inner = record {
  events = events;
  are_of = are;
  run = run;
  ends = ends;
  leaves = λ k. headline form keeps (start old) events (λ has. absurd has) (λ has. absurd has) run (inner k);
  told = λ k. leaves_told form keeps (start old) events (λ has. absurd has) (λ has. absurd has) run (inner k);
}

-- the run of all steps, on the disk that is handed back
pub end_run : {R D : Type 0} (form : Encoding R) (states : D → List State) (faults : D → ℕ) (keeps : D → Type 0) (old mine new : D) → new ≡ mine
    → (Tied : World R → Type 0) (steps all : List (Step R)) (answers : List (Answer R)) (calls : List ℕ) → all ≡ steps
    → HasRun form (keeps mine) Tied (start (disk_of states faults old)) steps answers calls → ((w : World R) → Tied w → w.disk ≡ disk_of states faults mine)
    → IsDriven form (keeps new) (disk_of states faults old) all answers calls (disk_of states faults new)
end_run {D = D} form states faults keeps old mine new is Tied steps all answers calls same r ends =
    subst (λ (d : D). IsDriven form (keeps d) (disk_of states faults old) all answers calls (disk_of states faults d)) (sym is)
    (subst (λ ss. IsDriven form (keeps mine) (disk_of states faults old) ss answers calls (disk_of states faults mine)) (sym same)
    (driven form (keeps mine) (disk_of states faults old) (disk_of states faults mine) steps answers calls r.events r.are_of r.run (ends _ r.tied) r.inner))
