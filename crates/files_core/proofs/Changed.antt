-- Lists that commands have put in the place of others.
use Rattle.std.proofs.Common.{◌≡◌, ◌⊎◌, ℕ, ◌<◌, Bool, true, false, List, [], ◌∷◌, length, Result, Ok, Err, MatchResult, OnOk, inl, inr, refl, sym, ap, subst, ◌∙◌, arith}
use Rattle.std.specs.Prelude.{IfErr}
use Rattle.std.proofs.lemmas.Bool.Decides.{nat_tests}
use Rattle.std.proofs.lemmas.Bool.{cases_lt}
use Rattle.record_core.specs.Bytes.{Encoding}
use Rattle.disk_core.specs.State.{State, now, IsImage}
use Rattle.disk_core.specs.Calls.{bytes_of}
use Rattle.disk_core.specs.Moments.{LeavesOnly}
use Rattle.segment_core.specs.Frame.{Frame}
use Rattle.pen_core.specs.declared.fault.PenFault.{PenFault}
use Rattle.pen_core.specs.Refusals.{change_lines, one_run}
use Rattle.vault_core.specs.declared.fault.VaultFault.{VaultFault}
use Rattle.vault_core.specs.Commands.{IsCommand, IsNothingFault, StandsCommanded, changed_frame}
use Rattle.vault_core.specs.Touched.{IsTouched, cover}
use Rattle.vault_core.specs.Vault.{VaultOf, MayHold, OpensToEither, list_of}
use Rattle.files_core.specs.Changing.{IsSet, IsSetFault, Replaces}
use Rattle.files_core.specs.Given.{given_from}
use Rattle.files_core.specs.Opened.{IsOpenedOn, LeavesBeforeOr}
use Rattle.files_core.proofs.Opened.{opened_list, opened_alone, opened_then, opens_same}

-- A vault's disk was taken out of it: what a crash may leave of it is what may be left of the vault.
pub record IsTakenFrom {R D : Type 0} (form : Encoding R) (keeps : D → Type 0) (states : D → List State) (v : VaultOf R D) (left : D) : Type 0 where
  pub disk : left ≡ v.pen.disk
  pub images : keeps left → (image : List ℕ) → IsImage (now (states left)) image → MayHold form v image

module _ {R D : Type 0} {form : Encoding R} {keeps : D → Type 0} {states : D → List State} {faults : D → ℕ} {disk left : D} {v w : VaultOf R D}
    (opened : IsOpenedOn form keeps states faults disk v) (taken : IsTakenFrom form keeps states w left) where
  -- by a command that was committed
  pub replaced_by : (IsMadeOf : List R → List R → Type 0) → IsMadeOf (list_of v) (list_of w)
      → (frame : Frame) (lines : List (Bool × PenFault)) → IsCommand form keeps states faults frame lines v w (Ok tt) → keeps left → Replaces form states IsMadeOf disk left
  replaced_by IsMadeOf made frame lines command model = record {
    was = list_of v;
    behind = list_of w;
    file = opened_list form (bytes_of (states disk)) v.pen (list_of v) (opened.opened before);
    made = made;
    images = subst (λ d. LeavesBeforeOr (states disk) (states d) (OpensToEither form (list_of v) (list_of w))) (sym taken.disk)
        (opened_then (states disk) (states v.pen.disk) (states w.pen.disk) (OpensToEither form (list_of v) (list_of w)) (opened.only_syncs before)
        (subst (λ sure. LeavesOnly (states v.pen.disk) (states w.pen.disk) (OpensToEither form sure (list_of w))) (opened.sure before) (command.images own)));
    settled = λ image is. opens_same form w.sure (list_of w) (list_of w) image (command.sure own) refl (taken.images model image is);
  }
    where
      own : keeps w.pen.disk
      own = subst keeps taken.disk model

      before : keeps v.pen.disk
      before = command.model own

  -- by one that had nothing to do
  pub replaced_by_none : (IsMadeOf : List R → List R → Type 0) → IsMadeOf (list_of v) (list_of w) → w ≡ v → keeps left
      → Replaces form states IsMadeOf disk left
  replaced_by_none IsMadeOf made none model = record {
    was = list_of v;
    behind = list_of w;
    file = opened_list form (bytes_of (states disk)) v.pen (list_of v) (opened.opened before);
    made = made;
    images = subst (λ d. LeavesBeforeOr (states disk) (states d) (OpensToEither form (list_of v) (list_of w))) (sym stays)
        (opened_alone (states disk) (states v.pen.disk) (OpensToEither form (list_of v) (list_of w)) (opened.only_syncs before));
    settled = λ image is. opens_same form w.sure (list_of w) (list_of w) image (subst (λ x. x.sure ≡ list_of x) (sym none) (opened.sure before)) refl (taken.images model image is);
  }
    where
      stays : left ≡ v.pen.disk
      stays = taken.disk ∙ ap (λ x. x.pen.disk) none

      before : keeps v.pen.disk
      before = subst keeps stays model

pub empty_or : {X : Type 0} (xs : List X) → (xs ≡ []) ⊎ (0 < length xs)
empty_or [] = inl refl
empty_or (x ∷ xs) = inr (omega arith)

-- a vault that was opened is not broken
pub not_broken : {R D : Type 0} (form : Encoding R) (keeps : D → Type 0) (states : D → List State) (faults : D → ℕ) (disk : D) (v : VaultOf R D)
    (fault : VaultFault) → IsOpenedOn form keeps states faults disk v → IsNothingFault v.pen fault → ⊥
not_broken form keeps states faults disk v fault opened refused = cc (opened.rests.whole, refused.1)

-- a number is below another, above it, or the same
pub three_ways : (m n : ℕ) → (m < n) ⊎ ((n < m) ⊎ (m ≡ n))
three_ways m n = elim (cases_lt m n) [
  | inl lt ↦ inl lt
  | inr ge ↦ elim (cases_lt n m) [ inl gt ↦ inr (inl gt) | inr le ↦ inr (inr (omega (arith, ge, le))) ]
]

-- ---- records that are put in the place of others

-- a touch of no position leaves a list
touched_nowhere : {R : Type 0} (one : ℕ → R → R) (start : ℕ) (records : List R) → IsTouched one (one_run start 0) records records
touched_nowhere one start records = record { same_length = refl; inside = λ i on. absurd (none i on); outside = λ i off. refl }
  where
    none : (i : ℕ) → cover (one_run start 0) i ≡ true → ⊥
    none i on = grind (arith, nat_tests)

module _ {R D : Type 0} (form : Encoding R) (keeps : D → Type 0) (states : D → List State) (faults : D → ℕ) (start : ℕ) (v w : VaultOf R D) where
  -- what a vault answers of a change of so many records
  abbrev AnswersChange : List R → Result (Unit {0}) VaultFault → Type 0
  AnswersChange records result =
      (0 < length records → MatchResult result
      (λ _. IsTouched (given_from start records) (one_run start (length records)) (list_of v) (list_of w))
      (StandsCommanded (IsTouched (given_from start records) (one_run start (length records)) (list_of v) (list_of w)) (w.blocks ≡ v.blocks)))
      × (0 < length records
      → IsCommand form keeps states faults (changed_frame form (one_run start (length records)) (list_of w)) (change_lines v.pen (one_run start (length records))) v w result)
      × (length records ≡ 0 → (w ≡ v) × MatchResult result (λ _. v.pen.broken ≡ false) (IsNothingFault v.pen))

  pub change_sets : (records : List R) (result : Result (Unit {0}) VaultFault) → AnswersChange records result → OnOk result (IsSet form keeps states faults start records v w)
  change_sets [] (Ok x) so = record {
    list = subst (λ (u : VaultOf R D). IsTouched (given_from start []) (one_run start 0) (list_of v) (list_of u)) (sym (so.2 refl).0) (touched_nowhere (given_from start []) start (list_of v));
    some = so.1;
    none = λ is. (so.2 refl).0;
  }
  change_sets (r ∷ records) (Ok x) so = record { list = so.0 (omega arith); some = so.1; none = λ is. (so.2 (ap length is)).0 }
  change_sets records (Err fault) so = tt

  pub change_refuses : (records : List R) (result : Result (Unit {0}) VaultFault) → v.pen.broken ≡ false → AnswersChange records result
      → IfErr result (IsSetFault form keeps states faults start records v w)
  change_refuses records (Ok x) whole so = tt
  change_refuses [] (Err fault) whole so = absurd (cc (whole, (so.2 refl).1.1))
  change_refuses (r ∷ records) (Err fault) whole so = record { some = omega arith; command = so.1 (omega arith); list = so.0 (omega arith) }
