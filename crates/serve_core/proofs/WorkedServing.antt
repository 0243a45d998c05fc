-- Worked ends of a server: what it may leave, why it may refuse, and a client that is not served, each with the nearest that may
-- not be.
use Rattle.std.proofs.Common.{◌≡◌, ◌≢◌, ℕ, zero, suc, ◌^◌, ◌<◌, ◌≤◌, inl, inr, false, true≢false, List, [], ◌∷◌, ◌++◌, length, take, Some, None, Result, Ok, Err, refl, sym, ap, subst, ◌∙◌, arith}
use Rattle.record_core.specs.Bytes.{Encoding}
use Rattle.disk_core.specs.Fault.{CountsFailures}
use Rattle.disk_core.specs.State.{State, settled}
use Rattle.disk_core.specs.declared.fault.DiskFault.TheVariants as disks
use Rattle.disk_core.proofs.ImageLemmas.{IsImage-settled, settled_image}
use Rattle.pen_core.specs.Typed.{OpensTo}
use Rattle.pen_core.proofs.Typed.{OpensTo_same}
use Rattle.pen_core.specs.declared.fault.PenFault.TheVariants as pens
use Rattle.block_core.specs.Growth.{Growth}
use Rattle.directory_core.specs.Chain.{grown_records}
use Rattle.book_core.specs.Lists.{Phase, Seated}
use Rattle.flush_core.specs.declared.fault.FlushFault.TheVariants as flushes
use Rattle.flush_core.specs.Flusher.{FlusherOf}
use Rattle.vault_core.specs.declared.fault.VaultFault.TheVariants as vaults
use Rattle.serve_core.specs.declared.fault.ServeFault.{ServeFault}
use Rattle.serve_core.specs.declared.fault.ServeFault.TheVariants as faults
use Rattle.serve_core.specs.Talks.{HasFinished}
use Rattle.serve_core.specs.Serving.{OpensBehind, IsServed, IsShareRefusal, IsFlusherStop, IsServeRefusal, serve_failures}

-- ---- what is left

abbrev same_states : List State → List State
same_states states = states

module _ {R : Type 0} (form : Encoding R) (small : form.width < 2 ^ 16) (r : R) (image : List ℕ) (opens : OpensTo form image []) where
  abbrev disk : List State
  disk = settled image ∷ []

  abbrev growth : Growth R
  growth = record { number = 0; start = 0; seat = 0; serial = 0; records = r ∷ [] }

  still_empty : (settled_to : ℕ) (found : List ℕ) → settled_to ≤ 0 → found ≡ image → OpensBehind form [] (growth ∷ []) settled_to found
  still_empty settled_to found le is = record { count = 0; at_least = le; known = omega arith; opens = subst (λ bytes. OpensTo form bytes []) (sym is) opens }

  -- a growth that isn't settled may be lacking
  unsettled_may_lack : IsServed form same_states disk disk 0
  unsettled_may_lack = record {
    before = [];
    growths = growth ∷ [];
    file = opens;
    few = omega arith;
    meanwhile = record {
      past = ([], refl);
      each = λ found left. elim left.1 [ inl here ↦ inl here | inr never ↦ absurd never ];
      newest = λ found is. inl is;
    };
    stands = λ found is. still_empty 0 found (omega arith) (IsImage-settled image found is);
  }

  never_both : [] ≡ r ∷ [] → ⊥
  never_both is = absurd cc

  -- one that is settled stands in each image
  settled_is_left : (served : IsServed form same_states disk disk 1) → served.growths ≡ growth ∷ [] → ⊥
  settled_is_left served is =
      let behind = served.stands image (settled_image image) in
      let before : [] ≡ served.before = OpensTo_same form image [] served.before small opens served.file in
      let known = subst (λ (gs : List (Growth R)). behind.count ≤ length gs) is behind.known in
      at behind.count behind.at_least known
      (subst (λ (gs : List (Growth R)). OpensTo form image ([] ++ grown_records (take behind.count gs))) is
      (subst (λ (rs : List R). OpensTo form image (rs ++ grown_records (take behind.count served.growths))) (sym before) behind.opens))
    where
      at : (count : ℕ) → 1 ≤ count → count ≤ 1 → OpensTo form image ([] ++ grown_records (take count (growth ∷ []))) → ⊥
      at zero least most opens_to = absurd (omega (arith, least))
      at (suc zero) least most opens_to = never_both (OpensTo_same form image [] (r ∷ []) small opens opens_to)
      at (suc (suc n)) least most opens_to = absurd (omega (arith, most))

  -- nor may a crash meanwhile have left what opens to nothing
  not_torn : (other : List ℕ) (settled_to : ℕ) → other ≢ image → ((records : List R) → OpensTo form other records → ⊥)
      → IsServed form same_states disk (settled image ∷ settled other ∷ disk) settled_to → ⊥
  not_torn other settled_to differs opens_not served = elim (served.meanwhile.each other (omega arith, inr (omega arith, inl (settled_image other)))) [
    | inl before ↦ differs (IsImage-settled image other before)
    | inr grown ↦ opens_not (served.before ++ grown_records (take grown.count served.growths)) grown.opens
  ]

  -- no more are settled than were grown
  no_more_than_grown : (served : IsServed form same_states disk disk 2) → served.growths ≡ growth ∷ [] → ⊥
  no_more_than_grown served is = let few = served.few in let one = ap length is in absurd (omega arith)

-- ---- refusals

clients_shared : IsShareRefusal 0 (vaults.Pen pens.TooLarge) × IsShareRefusal 65 (vaults.Pen pens.TooLarge) × IsShareRefusal 64 (vaults.Pen pens.Memory)
clients_shared = (inl refl, inr (omega arith), (omega arith, omega arith))

not_too_many : (IsShareRefusal 1 (vaults.Pen pens.TooLarge) → ⊥) × (IsShareRefusal 64 (vaults.Pen pens.TooLarge) → ⊥)
not_too_many = ((λ is. elim is [ inl none ↦ absurd (omega arith) | inr above ↦ absurd (omega arith) ]), λ is. elim is [ inl none ↦ absurd (omega arith) | inr above ↦ absurd (omega arith) ])

no_memory_of_too_many : (IsShareRefusal 65 (vaults.Pen pens.Memory) → ⊥) × (IsShareRefusal 0 (vaults.Pen pens.Memory) → ⊥)
no_memory_of_too_many = ((λ is. let few = is.1 in absurd (omega arith)), λ is. let some = is.0 in absurd (omega arith))

not_shared_otherwise : (IsShareRefusal 1 (vaults.Pen pens.Broken) → ⊥) × (IsShareRefusal 1 vaults.WrongPhase → ⊥) × ((n : ℕ) → IsShareRefusal 1 (vaults.Unsettled n) → ⊥)
not_shared_otherwise = ((λ is. is), (λ is. is), λ n is. is)

module _ {R D : Type 0} (form : Encoding R) (keeps : D → Type 0) (states : D → List State) (left : D) (f : FlusherOf R D) where
  no_thread_for_none : (IsServeRefusal form keeps states 0 left 0 faults.Thread → ⊥) × (IsServeRefusal form keeps states 65 left 0 faults.Thread → ⊥) × IsServeRefusal form keeps states 64 left 0 faults.Thread
  no_thread_for_none = ((λ is. let some = is.0 in absurd (omega arith)), (λ is. let few = is.1 in absurd (omega arith)), (omega arith, omega arith))

  -- the count that is reported is the flusher's
  count_is_its : (settled_to : ℕ) (fault : _) (is : IsServeRefusal form keeps states 1 left settled_to (faults.Flush fault)) → settled_to ≡ is.flusher.settled
  count_is_its settled_to fault is = is.settled_is

  -- a flusher whose pen is whole didn't stop by a call of the disk, and none stops as if a job were in hand
  not_by_the_disk : f.pen.broken ≡ false → IsFlusherStop form.width f (flushes.Pen (pens.Disk disks.Write)) → ⊥
  not_by_the_disk whole is = true≢false (sym is ∙ whole)

  not_busy : (IsFlusherStop form.width f (flushes.Pen pens.Busy) → ⊥) × (IsFlusherStop form.width f (flushes.Pen pens.Broken) → ⊥)
  not_busy = ((λ is. is), λ is. is)

  strays_behind_the_known : (n : ℕ) → IsFlusherStop form.width f (flushes.Strayed n) → n ≡ length f.pass.entries
  strays_behind_the_known n is = is.1

failures : (serve_failures faults.Thread ≡ 0) × (serve_failures (faults.Share vaults.WrongPhase) ≡ 0) × (serve_failures (faults.Flush (flushes.Strayed 3)) ≡ 0)
    × (serve_failures (faults.Flush (flushes.Pen (pens.Disk disks.Sync))) ≡ 1) × (serve_failures (faults.Flush (flushes.Pen pens.Memory)) ≡ 0)
failures = (refl, refl, refl, refl, refl)

abbrev Counts : ℕ → ℕ → Result (Unit {0}) ServeFault → Type 0
Counts old new result = CountsFailures serve_failures old new result

counted : Counts 4 4 (Ok tt) × Counts 4 5 (Err (faults.Flush (flushes.Pen (pens.Disk disks.Sync)))) × Counts 4 4 (Err faults.Thread)
counted = (refl, refl, refl)

not_counted : (Counts 4 5 (Ok tt) → ⊥) × (Counts 4 4 (Err (faults.Flush (flushes.Pen (pens.Disk disks.Sync)))) → ⊥) × (Counts 4 5 (Err faults.Thread) → ⊥)
not_counted = ((λ is. absurd (omega arith)), (λ is. absurd (omega arith)), λ is. absurd (omega arith))

-- ---- clients

-- a client that wasn't talked with grew nothing, and nothing was read of it
module _ {R : Type 0} (form : Encoding R) (live : Phase R) (begun now : Seated R) where
  in_silence : HasFinished form live begun begun (Some (1 ∷ [])) (Some (1 ∷ [])) (Some []) (Some []) None
  in_silence = (refl, refl, refl)

  nothing_read : HasFinished form live begun now (Some (1 ∷ [])) (Some []) (Some []) (Some []) None → ⊥
  nothing_read has = absurd (let same = has.1 in cc)

  nothing_told : HasFinished form live begun now (Some []) (Some []) (Some []) (Some (0 ∷ [])) None → ⊥
  nothing_told has = absurd (let same = has.2 in cc)

  nothing_grown : (growth : Growth R) → begun.made ≡ [] → now.made ≡ growth ∷ [] → HasFinished form live begun now (Some []) (Some []) (Some []) (Some []) None → ⊥
  nothing_grown growth none one has = absurd (let same = sym none ∙ ap (λ (s : Seated R). s.made) (sym has.0) ∙ one in cc)
