-- A file that a command has opened.
use Rattle.std.proofs.Common.{◌≡◌, ◌⊎◌, ℕ, ◌+◌, List, Some, None, Option, Result, Ok, Err, MatchResult, OnOk, inl, inr, refl, sym, ap, subst, ◌∙◌, arith}
use Rattle.std.specs.Io.KnownBytes.{Appends}
use Rattle.files_core.specs.declared.ended.Ended.{Ended}
use Rattle.files_core.specs.declared.ended.Ended.TheVariants.{Done, OutputFailed}
use Rattle.files_core.specs.declared.fault.FileFault.{FileFault}
use Rattle.files_core.specs.Ended.{EndsAs, WritesAnswer, WritesText}
use Rattle.vault_core.specs.Vault.{OpensToEither}
use Rattle.record_core.specs.Bytes.{Encoding}
use Rattle.disk_core.specs.State.{State, now, IsImage}
use Rattle.disk_core.specs.Moments.{LeavesOnly}
use Rattle.disk_core.proofs.ImageLemmas.{IsImage-settled}
use Rattle.disk_core.proofs.JoinedMoments.{LeavesOnly-join, LeavesOnly-weaker}
use Rattle.pen_core.specs.Opening.{IsOpened, OnlySyncs}
use Rattle.pen_core.specs.PenOf.{PenOf}
use Rattle.pen_core.specs.Typed.{OpensTo}
use Rattle.disk_core.specs.Calls.{bytes_of}
use Rattle.files_core.specs.Opened.{IsOpenFault, LeavesBeforeOr, CommandOnlyReads, failed_reading}

-- the records of the pen are those of the bytes
pub opened_list : {R D : Type 0} (form : Encoding R) (bytes : List ℕ) (pen : PenOf D) (records : List R) → IsOpened form bytes pen records → OpensTo form bytes records
opened_list form bytes pen records opened = record { format = opened.format; frames = opened.found; vector = opened.vector }

-- it was opened alone
pub opened_alone : (old new : List State) (P : List ℕ → Type 0) → OnlySyncs old new → LeavesBeforeOr old new P
opened_alone old new P syncs = LeavesOnly-weaker old new (IsImage (now old)) (λ image. IsImage (now old) image ⊎ P image) (λ image is. inl is) syncs.left_before

-- it was opened, and calls were made
pub opened_then : (old mid new : List State) (P : List ℕ → Type 0) → OnlySyncs old mid → LeavesOnly mid new P → LeavesBeforeOr old new P
opened_then old mid new P syncs leaves =
    LeavesOnly-join old mid new (λ image. IsImage (now old) image ⊎ P image) (opened_alone old mid P syncs)
    (LeavesOnly-weaker mid new P (λ image. IsImage (now old) image ⊎ P image) (λ image has. inr has) leaves)

-- an answer was told so
pub told_text : {X E : Type 0} (old new : Option (List ℕ)) (text : List ℕ) (written : Result X E) (ended : Ended)
    → MatchResult written (λ _. ended ≡ Done) (λ _. ended ≡ OutputFailed) → OnOk written (Appends old new text) → WritesText old new text ended
told_text old new text (Ok x) ended told appends = subst (WritesText old new text) (sym told) appends
told_text old new text (Err e) ended told appends = subst (WritesText old new text) (sym told) tt

pub told_answer : {X E : Type 0} (old new : Option (List ℕ)) (text : List ℕ) (IsAnswer : List ℕ → Type 0) (written : Result X E) (ended : Ended)
    → MatchResult written (λ _. ended ≡ Done) (λ _. ended ≡ OutputFailed) → OnOk written (Appends old new text) → IsAnswer text
    → WritesAnswer old new IsAnswer ended
told_answer old new text IsAnswer (Ok x) ended told appends is = subst (WritesAnswer old new IsAnswer) (sym told) (text, is, appends)
told_answer old new text IsAnswer (Err e) ended told appends is = subst (WritesAnswer old new IsAnswer) (sym told) tt

-- the disk that is given back is the one that was kept
pub same_keeps : {D : Type 0} (keeps : D → Type 0) (left own : D) → left ≡ own → keeps left → keeps own
same_keeps keeps left own same model = subst keeps same model

pub told_ends : {X E : Type 0} (done : Type 0) (refused : FileFault → Type 0) (written : Result X E) (ended : Ended)
    → MatchResult written (λ _. ended ≡ Done) (λ _. ended ≡ OutputFailed) → done → EndsAs done refused ended
told_ends done refused (Ok x) ended told holds = subst (EndsAs done refused) (sym told) holds
told_ends done refused (Err e) ended told holds = subst (EndsAs done refused) (sym told) holds

-- its work is done
pub told_done : {X E : Type 0} (written : Result X E) (ended : Ended) → MatchResult written (λ _. ended ≡ Done) (λ _. ended ≡ OutputFailed) → (ended ≡ Done) ⊎ (ended ≡ OutputFailed)
told_done (Ok x) ended told = inl told
told_done (Err e) ended told = inr told

pub done_ends : (done : Type 0) (refused : FileFault → Type 0) (ended : Ended) → (ended ≡ Done) ⊎ (ended ≡ OutputFailed) → done → EndsAs done refused ended
done_ends done refused ended (inl is) holds = subst (EndsAs done refused) (sym is) holds
done_ends done refused ended (inr is) holds = subst (EndsAs done refused) (sym is) holds

pub done_answer : (old new : Option (List ℕ)) (text : List ℕ) (IsAnswer : List ℕ → Type 0) (ended : Ended) → (ended ≡ Done) ⊎ (ended ≡ OutputFailed) → WritesText old new text ended
    → IsAnswer text → WritesAnswer old new IsAnswer ended
done_answer old new text IsAnswer ended (inl done) writes is = subst (WritesAnswer old new IsAnswer) (sym done) (text, is, subst (WritesText old new text) done writes)
done_answer old new text IsAnswer ended (inr half) writes is = subst (WritesAnswer old new IsAnswer) (sym half) tt

-- no call had failed where its work is done
pub told_counts : {D X E : Type 0} (faults : D → ℕ) (failed : Ended → ℕ) (disk left : D) (written : Result X E) (ended : Ended) → failed Done ≡ 0
    → failed OutputFailed ≡ 0 → MatchResult written (λ _. ended ≡ Done) (λ _. ended ≡ OutputFailed) → faults left ≡ faults disk
    → faults left ≡ faults disk + failed ended
told_counts faults failed disk left (Ok x) ended done half told same = let none : failed ended ≡ 0 = ap failed told ∙ done in omega (arith, none, same)
told_counts faults failed disk left (Err e) ended done half told same = let none : failed ended ≡ 0 = ap failed told ∙ half in omega (arith, none, same)

-- the file was only read, and the answer told so
pub told_reads : {R D X E : Type 0} (form : Encoding R) (keeps : D → Type 0) (states : D → List State) (faults : D → ℕ) (disk own left : D)
    (written : Result X E) (ended : Ended) → left ≡ own → (keeps own → OnlySyncs (states disk) (states own)) → faults own ≡ faults disk
    → (keeps own → keeps disk) → MatchResult written (λ _. ended ≡ Done) (λ _. ended ≡ OutputFailed) → CommandOnlyReads form keeps states faults disk left ended
told_reads form keeps states faults disk own left written ended same syncs none model told = record {
  refused = told_ends (Unit {0}) (IsOpenFault form (keeps left) (bytes_of (states disk))) written ended told tt;
  only_syncs = subst (λ d. keeps d → OnlySyncs (states disk) (states d)) (sym same) syncs;
  faults_are = told_counts faults failed_reading disk left written ended refl refl told (ap faults same ∙ none);
  model = λ kept. model (subst keeps same kept);
}

-- one of two lists that are the same one
pub opens_same : {R : Type 0} (form : Encoding R) (was behind records : List R) (image : List ℕ) → was ≡ records → behind ≡ records
    → OpensToEither form was behind image → OpensTo form image records
opens_same form was behind records image first second (inl opens) = subst (OpensTo form image) first opens
opens_same form was behind records image first second (inr opens) = subst (OpensTo form image) second opens

-- it was opened, and once more
pub opened_again : (old mid new : List State) → IsImage (now old) (bytes_of old) → OnlySyncs old mid → OnlySyncs mid new → LeavesOnly old new (IsImage (now old))
opened_again old mid new reads first then =
    LeavesOnly-join old mid new (IsImage (now old)) first.left_before (LeavesOnly-weaker mid new (IsImage (now mid)) (IsImage (now old)) back then.left_before)
  where
    back : (image : List ℕ) → IsImage (now mid) image → IsImage (now old) image
    back image is = elim first.stands [
      | inl same ↦ subst (λ s. IsImage s image) same is
      | inr synced ↦ subst (IsImage (now old)) (sym (IsImage-settled (bytes_of old) image (subst (λ s. IsImage s image) synced is))) reads
    ]
