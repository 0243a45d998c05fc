-- What the definitions of words and refusals say, on small examples: what each allows, and the nearest that it doesn't.
use Rattle.std.proofs.Common.{◌≡◌, ◌≢◌, inl, inr, ℕ, ◌^◌, ◌<◌, ◌≤◌, List, [], ◌∷◌, ◌++◌, length, take, get_or, Some, None}
use Rattle.std.proofs.Common.{refl, sym, ap, subst, ◌∙◌, arith, codes, length-append}
use Rattle.std.specs.Fmt.{digits}
use Rattle.std.proofs.lemmas.List.Elements.{All-nil, All-cons}
use Rattle.record_core.specs.Bytes.{Encoding}
use Rattle.disk_core.specs.State.{State, settled, written}
use Rattle.disk_core.specs.declared.fault.DiskFault.TheVariants.{Sync}
use Rattle.segment_core.specs.Fault.{damaged, IsFirstFault, IsRefused}
use Rattle.segment_core.specs.declared.fault.Cause.TheVariants.{Kind, NoGate, ShortFrame}
use Rattle.segment_core.specs.declared.fault.ScanFault.{ScanFault}
use Rattle.segment_core.specs.declared.fault.ScanFault.TheVariants.{Memory, Unborn}
use Rattle.segment_core.proofs.Decided.{one_fault}
use Rattle.segment_core.proofs.OneVector.{memory_alone}
use Rattle.text_core.specs.Text.{Spelling}
use Rattle.text_core.specs.declared.refusal.Refusal.TheVariants as refusals
use Rattle.book_core.specs.declared.fault.GrowFault.TheVariants.{Full}
use Rattle.pen_core.specs.declared.fault.OpenFault.TheVariants.{Scan, Disk}
use Rattle.pen_core.specs.declared.fault.PenFault.TheVariants as faults
use Rattle.pen_core.specs.PenOf.{PenOf}
use Rattle.pen_core.specs.Typed.{OpensTo}
use Rattle.vault_core.specs.declared.fault.VaultFault.{VaultFault}
use Rattle.vault_core.specs.declared.fault.VaultFault.TheVariants.{Pen}
use Rattle.vault_core.specs.declared.upgrading.UpgradeFault.TheVariants.{NotOld}
use Rattle.files_core.specs.declared.ended.Ended.TheVariants.{Done, OutputFailed, Refused}
use Rattle.files_core.specs.declared.fault.FileFault.TheVariants as told
use Rattle.files_core.specs.declared.fault.Stopped.{Stopped}
use Rattle.files_core.specs.declared.fault.Word.TheVariants.{Records, Start}
use Rattle.files_core.specs.Asked.{IsNoNumber, IsNumber, IsNumberOr, IsRecord, IsRecordsRefusal, IsWordPart, SpellsRecords}
use Rattle.files_core.specs.Faults.{fault_line, file_fault_name, upgrade_name}
use Rattle.files_core.specs.Folding.{IsFoldCommandFault, IsFoldingFault, IsNotFolded, KeepsList, failed_folding}
use Rattle.files_core.specs.Upgraded.{IsUpgradeRefusal}
use Rattle.files_core.specs.Opened.{IsNotOpened, failed_reading}
use Rattle.files_core.specs.SoundFront.{IsCutAt, IsFrontRefusal, IsNoCut, closed_at}

-- ---- words

-- letters, each its own text
abbrev letters : Spelling ℕ
letters = record { is_value = λ n. 65 ≤ n; text_of = λ n. n ∷ [] }

a_letter : IsRecord letters (65 ∷ []) 65
a_letter = record { value = omega arith; text = refl }

letter_alone : (n : ℕ) → IsRecord letters (65 ∷ []) n → n ≡ 65
letter_alone n so = ap (λ bs. get_or bs 0 0) so.text

no_digit : (n : ℕ) → IsRecord letters (codes "5") n → ⊥
no_digit n so = omega (arith, so.value, ap (λ bs. get_or bs 0 0) so.text)

ten : IsNumber (codes "10") 10
unfolding digits
ten = record { value = omega arith; text = refl }

no_wide_number : IsNumber (codes "18446744073709551616") 18446744073709551616 → ⊥
no_wide_number so = omega (arith, so.value)

-- a word that isn't there is the other number, and it is refused by no test
default_alone : (n : ℕ) → IsNumberOr None 7 n → n ≡ 7
default_alone n so = so

word_alone : (word : List ℕ) (n : ℕ) → IsNumberOr (Some word) 7 n → IsNumber word n
word_alone word n so = so

none_is_no_fault : IsNoNumber None → ⊥
none_is_no_fault so = so

ten_is_no_fault : IsNoNumber (Some (codes "10")) → ⊥
ten_is_no_fault none = none 10 ten

-- ---- records with a comma between each two

two_letters : SpellsRecords letters (codes "A,B") (65 ∷ 66 ∷ [])
two_letters = record { some = omega arith; values = (omega arith, (omega arith, tt)); text = refl }

not_no_record : SpellsRecords letters [] [] → ⊥
not_no_record so = omega (arith, so.some)

not_the_first_alone : SpellsRecords letters (codes "A,B") (65 ∷ []) → ⊥
not_the_first_alone so = omega (arith, ap length so.text)

not_turned : SpellsRecords letters (codes "A,B") (66 ∷ 65 ∷ []) → ⊥
not_turned so = omega (arith, ap (λ (bs : List ℕ). get_or bs 0 0) so.text)

not_of_no_value : SpellsRecords letters (codes "A,5") (65 ∷ 53 ∷ []) → ⊥
not_of_no_value so = omega (arith, so.values.1.0)

second_part : IsWordPart (codes "A,5") (codes "5")
second_part = record { rest = codes "5"; begins = inr (codes "A", refl); ends = inl refl; plain = All-cons (λ b. b ≢ 44) 53 [] (omega arith) (All-nil (λ b. b ≢ 44)) }

not_over_a_comma : IsWordPart (codes "A,5") (codes "A,5") → ⊥
not_over_a_comma so = so.plain 1 0 (omega arith) refl

not_inside : IsWordPart (codes "AB") (codes "A") → ⊥
not_inside so = elim so.begins [
  | inl whole ↦ elim so.ends [
    | inl all ↦ omega (arith, ap length (whole ∙ all))
    | inr more ↦ omega (arith, ap (λ (bs : List ℕ). get_or bs 1 0) (whole ∙ more.1))
  ]
  | inr front ↦ no_comma front.0 front.1
]
  where
    no_comma : (front : List ℕ) → codes "AB" ≡ front ++ 44 ∷ so.rest → ⊥
    no_comma [] is = omega (arith, ap (λ (bs : List ℕ). get_or bs 0 0) is)
    no_comma (b ∷ []) is = omega (arith, ap (λ (bs : List ℕ). get_or bs 1 0) is)
    no_comma (b ∷ c ∷ front) is = omega (arith, ap length is, length-append front (44 ∷ so.rest))

five_is_refused : IsRecordsRefusal letters (codes "A,5") (told.Word Records)
five_is_refused = inl (refl, (codes "5", second_part, no_digit))

not_as_another_word : IsRecordsRefusal letters (codes "A,5") (told.Word Start) → ⊥
not_as_another_word so = elim so [ inl word ↦ (let same = word.0 in absurd cc) | inr memory ↦ absurd cc ]

-- one record is refused for memory alone
letter_part : (part : List ℕ) → IsWordPart (codes "A") part → part ≡ codes "A"
letter_part part so = elim so.begins [
  | inl whole ↦ elim so.ends [ inl all ↦ sym (whole ∙ all) | inr more ↦ absurd (no_comma part more.0 (whole ∙ more.1)) ]
  | inr front ↦ absurd (no_comma front.0 so.rest front.1)
]
  where
    no_comma : (front rest : List ℕ) → codes "A" ≡ front ++ 44 ∷ rest → ⊥
    no_comma [] rest is = omega (arith, ap (λ (bs : List ℕ). get_or bs 0 0) is)
    no_comma (b ∷ front) rest is = omega (arith, ap length is, length-append front (44 ∷ rest))

letter_refused : IsRecordsRefusal letters (codes "A") (told.Word Records) → ⊥
letter_refused so = elim so [
  | inl word ↦ word.1.2 65 (subst (λ part. IsRecord letters part 65) (sym (letter_part word.1.0 word.1.1)) a_letter)
  | inr memory ↦ absurd cc
]

-- ---- fronts that are cut short

module _ {R : Type 0} (form : Encoding R) (front : List ℕ) where
  cut_at_gate : IsFirstFault form front (damaged 55 NoGate) → IsCutAt form front 55
  cut_at_gate first = inl first

  cut_in_frame : IsFirstFault form front (damaged 55 ShortFrame) → IsCutAt form front 55
  cut_in_frame first = inr first

  place_of_gate : (n : ℕ) → damaged n NoGate ≡ damaged 55 NoGate → n ≡ 55
  place_of_gate n is = cc

  cut_there : (n : ℕ) → IsFirstFault form front (damaged 55 NoGate) → IsCutAt form front n → n ≡ 55
  cut_there n first cut = elim cut [
    | inl gate ↦ place_of_gate n (one_fault form front (damaged n NoGate) (damaged 55 NoGate) gate first)
    | inr frame ↦ absurd (let clash = one_fault form front (damaged n ShortFrame) (damaged 55 NoGate) frame first in cc)
  ]

  -- another fault is no cut, nor is a whole file
  not_cut_by_kind : (n : ℕ) → IsFirstFault form front (damaged 55 (Kind 9)) → IsCutAt form front n → ⊥
  not_cut_by_kind n first cut = elim cut [
    | inl gate ↦ absurd (let clash = one_fault form front (damaged n NoGate) (damaged 55 (Kind 9)) gate first in cc)
    | inr frame ↦ absurd (let clash = one_fault form front (damaged n ShortFrame) (damaged 55 (Kind 9)) frame first in cc)
  ]

  module _ (records : List R) (small : form.width < 2 ^ 16) (opens : OpensTo form front records) where
    refused_for_memory : (fault : ScanFault) → IsRefused form front fault → fault ≡ Memory
    refused_for_memory fault refused = memory_alone opens.format form front opens.frames records fault small opens.vector refused

    not_cut_whole : (n : ℕ) → IsCutAt form front n → ⊥
    not_cut_whole n cut = elim cut [
      | inl gate ↦ absurd (let memory = refused_for_memory (damaged n NoGate) (inl gate) in cc)
      | inr frame ↦ absurd (let memory = refused_for_memory (damaged n ShortFrame) (inl frame) in cc)
    ]

    -- so what is before a place and is a file is refused for memory alone
    front_refused : (bytes : List ℕ) (at : ℕ) (fault : ScanFault) → take at bytes ≡ front → IsFrontRefusal form bytes at (Scan fault) → fault ≡ Memory
    front_refused bytes at fault is so = elim so [
      | inl whole ↦ refused_for_memory fault (subst (λ bs. IsRefused form bs fault) is whole.0)
      | inr cut ↦ absurd (not_cut_whole cut.0 (subst (λ bs. IsCutAt form bs cut.0) is cut.1))
    ]

closed : closed_at 3 (1 ∷ 2 ∷ 3 ∷ 4 ∷ []) ≡ 1 ∷ 2 ∷ 3 ∷ 0 ∷ []
closed = refl

no_gate_at_55 : IsNoCut 55 (damaged 55 NoGate) → ⊥
no_gate_at_55 none = (none 55 (omega arith) (omega arith)).0 refl

short_at_55 : IsNoCut 55 (damaged 55 ShortFrame) → ⊥
short_at_55 none = (none 55 (omega arith) (omega arith)).1 refl

past_54 : IsNoCut 54 (damaged 55 NoGate)
past_54 end within small = (λ same. (let is : 55 ≡ end = cc in omega (arith, is, within)), λ same. absurd cc)

-- ---- refusals of commands, on disks that are their states

abbrev Disks : Type 0
Disks = List State

abbrev itself : Disks → List State
itself states = states

abbrev known : Disks → Type 0
known states = Unit {0}

abbrev no_fault : Disks → ℕ
no_fault states = 0

module _ (form : Encoding ℕ) (b : ℕ) where
  abbrev disk : Disks
  disk = settled (b ∷ []) ∷ []

  abbrev rewritten : Disks
  rewritten = written (settled (b ∷ [])) 0 (b ∷ []) ∷ disk

  -- a file that wasn't opened wasn't written to
  not_over : IsNotOpened form known itself no_fault disk rewritten (Scan Unborn) → ⊥
  not_over so = elim (so.only_syncs tt).stands [
    | inl same ↦ (let pending = ap (λ s. length s.pending) same in omega (arith, pending))
    | inr same ↦ (let pending = ap (λ s. length s.pending) same in omega (arith, pending))
  ]

  not_unheard : (left : Disks) → IsNotOpened form known itself no_fault disk left (Disk Sync) → ⊥
  not_unheard left so = omega (arith, so.faults_are)

  unfolded : (left : Disks) → IsFoldCommandFault form known itself no_fault disk left (told.Open (Disk Sync)) → ⊥
  unfolded left so = omega (arith, so.1)

  -- a fold that memory refused has written nothing, and where a call failed it is counted
  not_refused_over : (old new : PenOf Disks) → old.disk ≡ disk → new.disk ≡ rewritten → IsFoldingFault old new (Pen faults.Memory) → ⊥
  not_refused_over old new was is so = elim so [
    | inl unbegun ↦ omega (arith, ap length (sym is ∙ unbegun.1 ∙ was))
    | inr failed ↦ elim failed.2 [ inl broken ↦ (let clash = broken.0 in absurd cc) | inr stopped ↦ (let clash = stopped.1 in absurd cc) ]
  ]

  not_folded : (left : Disks) (fault : VaultFault) → IsNotFolded form known itself no_fault disk left fault → KeepsList form itself disk left
  not_folded left fault so = so.stays tt

  not_uncounted : (left : Disks) → IsNotFolded form known itself no_fault disk left (Pen (faults.Disk Sync)) → ⊥
  not_uncounted left so = omega (arith, so.faults_are)

  -- a file that is no old one makes no new one
  not_upgraded : (left left_new : Disks) → IsUpgradeRefusal form known itself known itself no_fault disk disk left left_new (told.Upgrade NotOld) → left_new ≡ disk
  not_upgraded left left_new so = so.2.1

  never_upgraded_so : (left left_new : Disks) → IsUpgradeRefusal form known itself known itself no_fault disk disk left left_new (told.Word Start) → ⊥
  never_upgraded_so left left_new so = so

-- how many calls failed
failures : (failed_reading Done ≡ 0) × (failed_reading OutputFailed ≡ 0) × (failed_reading (Refused (told.Open (Disk Sync))) ≡ 1) × (failed_reading (Refused (told.Open (Scan Unborn))) ≡ 0)
    × (failed_folding Done ≡ 0) × (failed_folding (Refused (told.Vault (Pen (faults.Disk Sync)))) ≡ 1) × (failed_folding (Refused (told.Vault (Pen faults.Memory))) ≡ 0)
failures = (refl, refl, refl, refl, refl, refl, refl)

-- ---- names

abbrev stop : ℕ → ℕ → Stopped
stop line size = record { grower = 0; line = line; fault = Full; size = size }

names : (file_fault_name (told.Word Start) ≡ codes "word") × (file_fault_name (told.Input (refusals.Line 3)) ≡ codes "line 3") × (file_fault_name (told.Grower (stop 3 9)) ≡ codes "full")
    × (upgrade_name NotOld ≡ codes "not version 1") × (fault_line (told.Word Start) ≡ codes "refused: word\n")
unfolding digits
names = (refl, refl, refl, refl, refl)
