-- What came of a flusher that has served, once its clients' seats are taken in.
use Rattle.std.proofs.Common.{◌≡◌, ℕ, List, length, Bool, true, false, Option, Result, Ok, Err, OnOk, refl, sym, ap, ◌∙◌, arith}
use Rattle.record_core.specs.Bytes.{Encoding}
use Rattle.disk_core.specs.State.{State, IsImage, now}
use Rattle.pen_core.specs.PenOf.{PenOf}
use Rattle.book_core.specs.declared.mark.MarkState.TheVariants as marks
use Rattle.book_core.specs.declared.mark.Reading.{Reading}
use Rattle.book_core.specs.Marks.{MarkEnd}
use Rattle.book_core.specs.Lists.{Phase}
use Rattle.flush_core.specs.declared.fault.FlushFault.{FlushFault}
use Rattle.flush_core.specs.declared.fault.FlushFault.TheVariants.{Strayed}
use Rattle.flush_core.specs.Flusher.{FlusherOf, FlusherLearns, OpensToJob}
use Rattle.flush_core.proofs.Goes.{Serves-learns}
use Rattle.vault_core.proofs.Handed.{IsFlusherOf-learns}
use Rattle.vault_core.specs.Gathering.{made_by}
use Rattle.serve_core.specs.declared.client.Pipes.{Pipes}
use Rattle.serve_core.specs.Serving.{ComesBack, HasFlushed, HasStoppedBy, outcome_of}
use Rattle.serve_core.specs.Clients.{HasTakenIn, TakesClientsIn}

module _ {R D : Type 0} (form : Encoding R) (keeps : D → Type 0) (states : D → List State) (faults : D → ℕ) (live : Phase R) (old mid new : FlusherOf R D)
    (learns : FlusherLearns mid new) where
  -- it learnt nothing, since it knew all growths
  served_on : (x : Unit {0}) → HasFlushed form keeps states faults live old mid {X = Unit {0}} (Ok x) → new.pass.entries ≡ mid.pass.entries
      → HasFlushed form keeps states faults live old new {X = Unit {0}} (Ok x)
  served_on x flushed same = record {
    of = IsFlusherOf-learns keeps live mid new flushed.of learns;
    served = Serves-learns flushed.served learns;
    ended = record {
      all = learns.settled_same ∙ flushed.ended.all ∙ ap length (sym same);
      idle = ap (λ (p : PenOf D). p.job) learns.pen_same ∙ flushed.ended.idle;
      told = ap (λ (m : MarkEnd). m.told) learns.mark_same ∙ flushed.ended.told ∙ ended (sym learns.settled_same);
    };
    refused = tt;
    counts = ap (λ (p : PenOf D). faults p.disk) learns.pen_same ∙ flushed.counts;
  }
    where
      reading : ℕ → Reading
      reading n = record { count = n; state = marks.Ended }

      ended : mid.settled ≡ new.settled → reading mid.settled ≡ reading new.settled
      ended same_count = ap reading same_count

  module _ (images : keeps mid.pen.disk → (image : List ℕ) → IsImage (now (states mid.pen.disk)) image → OpensToJob form mid image) where
    -- it stopped
    stopped_by : (fault : FlushFault) → HasFlushed form keeps states faults live old mid {X = Unit {0}} (Err fault) → HasStoppedBy form keeps states faults live old new fault
    stopped_by fault flushed = record { stopped = mid; flushed = flushed; learns = learns; images = images }

    -- one of its growths has strayed
    strayed : (x : Unit {0}) (number : ℕ) → HasFlushed form keeps states faults live old mid {X = Unit {0}} (Ok x) → number ≡ length mid.pass.entries
        → HasStoppedBy form keeps states faults live old new (Strayed number)
    strayed x number flushed is = stopped_by (Strayed number) (record {
      of = flushed.of;
      served = flushed.served;
      ended = tt;
      refused = (is, flushed.ended.idle);
      counts = let counts = flushed.counts in omega (arith, counts);
    })

    pub comes_back : (flushed : Result (Unit {0}) FlushFault) (made_all : Bool) (known : ℕ) → HasFlushed form keeps states faults live old mid flushed
        → OnOk flushed (new.pass.entries ≡ mid.pass.entries) → known ≡ length new.pass.entries → ComesBack form keeps states faults live old new (outcome_of flushed made_all known)
    comes_back (Ok x) true known has same is = served_on x has same
    comes_back (Ok x) false known has same is = strayed x known has (is ∙ ap length same)
    comes_back (Err fault) made_all known has same is = stopped_by fault has

  -- where that wasn't refused, its clients made all that it knows
  pub takes_in : {I W : Type 0} {remaining : I → Option (List ℕ)} {contents : W → Option (List ℕ)} {pipes : List (Pipes I W)} (flushed : Result (Unit {0}) FlushFault) (made_all : Bool) (known : ℕ)
      → (has : HasTakenIn form keeps states live remaining contents pipes new) → (made_all ≡ true → made_by has.seats ≡ length mid.pass.entries) → OnOk flushed (new.pass.entries ≡ mid.pass.entries)
      → TakesClientsIn form keeps states live remaining contents pipes new (outcome_of flushed made_all known)
  takes_in (Ok x) true known has made same = (has, made refl ∙ ap length (sym same))
  takes_in (Ok x) false known has made same = has
  takes_in (Err fault) made_all known has made same = has
