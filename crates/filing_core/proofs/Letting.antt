-- What holds of a writer through which a lock is let go holds of the one under it.
use Rattle.std.proofs.Common.{◌≡◌, ◌∙◌, ℕ, List, [], ◌∷◌, ap, sym, subst, Result, MutBor}
use Rattle.std.specs.Prelude.{Option, Some, None}
use Rattle.std.specs.Io.KnownBytes.{Appends, Keeps}
use Rattle.files_core.specs.Ended.{WritesAnswer}
use Rattle.files_core.specs.declared.ended.Ended.{Ended}
use Rattle.files_core.specs.declared.ended.Ended.TheVariants.{Done, OutputFailed, Refused}
use Rattle.stat_core.specs.Ended.{IsTold}
use Rattle.stat_core.specs.Text.{summary_text}
use Rattle.stat_core.specs.declared.fault.StatFault.{StatFault}
use Rattle.stat_core.specs.declared.summary.Summary.{Summary}
use Rattle.stat_core.specs.declared.telling.StatEnded.{StatEnded}
use Rattle.stat_core.specs.declared.telling.StatEnded.TheVariants as stat_ends
use Rattle.stat_core.specs.declared.writing.Form.{Form}
use Rattle.filing_core.specs.Releasing.{known_through}

abbrev front : List ℕ → ℕ
front [] = 0
front (x ∷ xs) = x

abbrev behind : List ℕ → List ℕ
behind [] = []
behind (x ∷ xs) = xs

module _ (name name' : ℕ) where
  appends_to : (old mid new : Option (List ℕ)) → (name' ≡ name → new ≡ mid) → (bytes : List ℕ) → Appends (known_through name old) (known_through name' mid) bytes → Appends old new bytes
  appends_to None mid new is bytes appended = tt
  appends_to (Some xs) None new is bytes appended = absurd appended
  appends_to (Some xs) (Some ys) new is bytes appended =
      subst (λ (known : Option (List ℕ)). Appends (Some xs) known bytes) (sym (is (ap (λ l. front l) appended))) (ap (λ l. behind l) appended)

  keeps_to : (old mid new : Option (List ℕ)) → (name' ≡ name → new ≡ mid) → Keeps (known_through name old) (known_through name' mid) → Keeps old new
  keeps_to None mid new is kept = tt
  keeps_to (Some xs) None new is kept = absurd kept
  keeps_to (Some xs) (Some ys) new is kept = subst (λ (known : Option (List ℕ)). Keeps (Some xs) known) (sym (is (ap (λ l. front l) kept))) (ap (λ l. behind l) kept)

-- The writer that was lent by this name, the borrow of it that is kept, and that behind an engine; and what the writer is then.
module _ {W : Type 0} (contents : W → Option (List ℕ)) (given : W) {name : ℕ} (first last : MutBor W) (now : first.now ≡ given) (same : first.ghost_name ≡ name)
    (new : W) (is : last.ghost_name ≡ name → new ≡ last.now) where
  appends_through : (bytes : List ℕ) → Appends (known_through first.ghost_name (contents first.now)) (known_through last.ghost_name (contents last.now)) bytes
      → Appends (contents given) (contents new) bytes
  appends_through bytes appended = subst (λ w. Appends (contents w) (contents new) bytes) now
      (appends_to first.ghost_name last.ghost_name _ (contents last.now) (contents new) (λ e. ap (λ w. contents w) (is (e ∙ same))) bytes appended)

  keeps_through : Keeps (known_through first.ghost_name (contents first.now)) (known_through last.ghost_name (contents last.now)) → Keeps (contents given) (contents new)
  keeps_through kept = subst (λ w. Keeps (contents w) (contents new)) now
      (keeps_to first.ghost_name last.ghost_name _ (contents last.now) (contents new) (λ e. ap (λ w. contents w) (is (e ∙ same))) kept)

  pub writes_through : (IsAnswer : List ℕ → Type 0) (ended : Ended)
      → WritesAnswer (known_through first.ghost_name (contents first.now)) (known_through last.ghost_name (contents last.now)) IsAnswer ended
      → WritesAnswer (contents given) (contents new) IsAnswer ended
  writes_through IsAnswer Done writes = (writes.0, writes.1, appends_through writes.0 writes.2)
  writes_through IsAnswer OutputFailed writes = tt
  writes_through IsAnswer (Refused fault) writes = keeps_through writes

  pub told_through : (known : Type 0) (image : List ℕ) (AreCalls : Result Summary StatFault → Type 0) (form : Form) (ended : StatEnded)
      → IsTold known image AreCalls form (known_through first.ghost_name (contents first.now)) (known_through last.ghost_name (contents last.now)) ended
      → IsTold known image AreCalls form (contents given) (contents new) ended
  told_through known image AreCalls form stat_ends.Done told = (told.0, told.1, told.2, appends_through (summary_text form told.0) told.3)
  told_through known image AreCalls form (stat_ends.Refused fault) told = (told.0, told.1, keeps_through told.2)
  told_through known image AreCalls form (stat_ends.Unwritten error) told = told
