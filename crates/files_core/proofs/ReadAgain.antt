-- A command that reads a file again which was synced and read before.
use Rattle.std.proofs.Common.{◌≡◌, ◌⊎◌, ℕ, ◌+◌, List, Option, Result, MatchResult, inl, inr, refl, sym, ap, subst, ◌∙◌}
use Rattle.record_core.specs.Bytes.{Encoding}
use Rattle.disk_core.specs.State.{State, now, settled, IsImage}
use Rattle.disk_core.specs.Calls.{bytes_of}
use Rattle.disk_core.specs.Moments.{LeavesOnly}
use Rattle.pen_core.specs.declared.fault.OpenFault.{OpenFault}
use Rattle.pen_core.specs.Opening.{IsOpenRefusal, OnlySyncs, failed_openings}
use Rattle.pen_core.specs.Typed.{OpensTo}
use Rattle.files_core.specs.declared.ended.Ended.{Ended}
use Rattle.files_core.specs.declared.ended.Ended.TheVariants.{Done, OutputFailed, Refused}
use Rattle.files_core.specs.declared.fault.FileFault.{FileFault}
use Rattle.files_core.specs.declared.fault.FileFault.TheVariants.{Word, Input, Open, Vault, Grower, Upgrade}
use Rattle.files_core.specs.Ended.{EndsAs, WritesAnswer}
use Rattle.files_core.specs.Opened.{IsOpenFault, CommandOnlyReads, failed_reading}
use Rattle.files_core.specs.Searching.{TellsCount, TellsFirst}
use Rattle.files_core.proofs.Opened.{told_reads}
use Rattle.files_core.proofs.WindowRecords.{only_syncs_then}

-- ---- of other bytes that are the same ones

fault_again : {R : Type 0} (form : Encoding R) (known : Type 0) (bytes others : List ℕ) → (known → bytes ≡ others) → (fault : FileFault) → IsOpenFault form known bytes fault
    → IsOpenFault form known others fault
fault_again form known bytes others same (Open fault) refused = λ model. subst (λ (bs : List ℕ). IsOpenRefusal form bs fault) (same model) (refused model)
fault_again form known bytes others same (Word word) refused = refused
fault_again form known bytes others same (Input refusal) refused = refused
fault_again form known bytes others same (Vault fault) refused = refused
fault_again form known bytes others same (Grower stopped) refused = refused
fault_again form known bytes others same (Upgrade fault) refused = refused

ends_again : {R : Type 0} (form : Encoding R) (known : Type 0) (bytes others : List ℕ) → (known → bytes ≡ others) → (ended : Ended)
    → EndsAs (Unit {0}) (IsOpenFault form known bytes) ended → EndsAs (Unit {0}) (IsOpenFault form known others) ended
ends_again form known bytes others same Done ends = tt
ends_again form known bytes others same OutputFailed ends = tt
ends_again form known bytes others same (Refused fault) ends = fault_again form known bytes others same fault ends

pub answer_again : (old new : Option (List ℕ)) (P Q : List ℕ → Type 0) → ((text : List ℕ) → P text → Q text) → (ended : Ended) → WritesAnswer old new P ended → WritesAnswer old new Q ended
answer_again old new P Q to Done answer = (answer.0, to answer.0 answer.1, answer.2)
answer_again old new P Q to OutputFailed answer = tt
answer_again old new P Q to (Refused fault) answer = answer

module _ {R : Type 0} (form : Encoding R) (wanted : R) (known : Type 0) (bytes others text : List ℕ) (same : known → bytes ≡ others) where
  pub count_again : TellsCount form wanted known bytes text → TellsCount form wanted known others text
  count_again tells = record {
    records = tells.records;
    is = tells.is;
    just = tells.just;
    file = λ model. subst (λ (bs : List ℕ). OpensTo form bs tells.records) (same model) (tells.file model);
    told = tells.told;
  }

  pub first_again : TellsFirst form wanted known bytes text → TellsFirst form wanted known others text
  first_again tells = record {
    records = tells.records;
    is = tells.is;
    just = tells.just;
    found = tells.found;
    file = λ model. subst (λ (bs : List ℕ). OpensTo form bs tells.records) (same model) (tells.file model);
    first = tells.first;
    told = tells.told;
  }

-- ---- the disk

stands_still : (old mid new : List State) → now mid ≡ settled (bytes_of old) → (now new ≡ now mid) ⊎ (now new ≡ settled (bytes_of mid)) → now new ≡ now mid
stands_still old mid new is (inl same) = same
stands_still old mid new is (inr synced) = synced ∙ ap (λ s. settled s.seen) is ∙ sym is

-- It was synced, and what it held then is read again.
pub reads_again : {R D : Type 0} (form : Encoding R) (keeps : D → Type 0) (states : D → List State) (faults : D → ℕ) (disk mid left : D) (ended : Ended)
    → (keeps mid → IsImage (now (states disk)) (bytes_of (states disk))) → (keeps mid → OnlySyncs (states disk) (states mid)) → (keeps mid → now (states mid) ≡ settled (bytes_of (states disk)))
    → faults mid ≡ faults disk → (keeps mid → keeps disk) → CommandOnlyReads form keeps states faults mid left ended → CommandOnlyReads form keeps states faults disk left ended
reads_again form keeps states faults disk mid left ended readable syncs is none back reads = record {
  refused = ends_again form (keeps left) (bytes_of (states mid)) (bytes_of (states disk)) (λ kept. ap (λ s. s.seen) (is (reads.model kept))) ended reads.refused;
  only_syncs = λ kept. (
      let m = reads.model kept in
      let then = reads.only_syncs kept in
      only_syncs_then (states disk) (states mid) (states left) (readable m) (syncs m) (is m) (stands_still (states disk) (states mid) (states left) (is m) then.stands) then.left_before);
  faults_are = reads.faults_are ∙ ap (λ n. n + failed_reading ended) none;
  model = λ kept. back (reads.model kept);
}

module _ {R D : Type 0} (form : Encoding R) (keeps : D → Type 0) (states : D → List State) (faults : D → ℕ) (disk mid left : D)
    (readable : keeps mid → IsImage (now (states disk)) (bytes_of (states disk))) (syncs : keeps mid → OnlySyncs (states disk) (states mid))
    (is : keeps mid → now (states mid) ≡ settled (bytes_of (states disk))) (none : faults mid ≡ faults disk) (back : keeps mid → keeps disk)
    (same : keeps left → now (states left) ≡ now (states mid)) (leaves : keeps left → LeavesOnly (states mid) (states left) (IsImage (now (states mid)))) (model : keeps left → keeps mid) where
  then_synced : keeps left → OnlySyncs (states disk) (states left)
  then_synced kept = let m = model kept in only_syncs_then (states disk) (states mid) (states left) (readable m) (syncs m) (is m) (same kept) (leaves kept)

  -- it was synced, and then read
  pub then_told : {X E : Type 0} (written : Result X E) (ended : Ended) → faults left ≡ faults mid → MatchResult written (λ _. ended ≡ Done) (λ _. ended ≡ OutputFailed)
      → CommandOnlyReads form keeps states faults disk left ended
  then_told written ended no_fault told = told_reads form keeps states faults disk left left written ended refl then_synced (no_fault ∙ none) (λ kept. back (model kept)) told

  -- or that was refused
  pub then_refused : (fault : OpenFault) → (keeps left → IsOpenRefusal form (bytes_of (states mid)) fault) → faults left ≡ faults mid + failed_openings fault
      → CommandOnlyReads form keeps states faults disk left (Refused (Open fault))
  then_refused fault refused counted = record {
    refused = λ kept. subst (λ (bs : List ℕ). IsOpenRefusal form bs fault) (ap (λ s. s.seen) (is (model kept))) (refused kept);
    only_syncs = then_synced;
    faults_are = counted ∙ ap (λ n. n + failed_openings fault) none;
    model = λ kept. back (model kept);
  }
