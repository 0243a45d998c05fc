-- Worked lines: which faults each kind has, which answers a row may give, and which counts of calls.
use Rattle.std.proofs.Common.{◌≡◌, ◌⊎◌, inl, inr, ℕ, zero, suc, ◌-◌, ◌≤◌, Bool, true, false, List, [], ◌∷◌, length, Option, Some, None, refl, ap, ◌∙◌, arith}
use Rattle.std.proofs.lemmas.Option.{same_Some}
use Rattle.std.specs.Prelude.{replicate, slice_get}
use Rattle.disk_core.specs.declared.fault.DiskFault.{DiskFault}
use Rattle.disk_core.specs.declared.fault.DiskFault.TheVariants as causes
use Rattle.segment_core.specs.declared.fault.ScanFault.{ScanFault}
use Rattle.pen_core.specs.Births.{calls_of_creation}
use Rattle.pen_core.specs.declared.fault.PenFault.TheVariants as pen
use Rattle.book_core.specs.declared.fault.GrowFault.TheVariants as grow
use Rattle.book_core.specs.declared.mark.MarkState.TheVariants.{Running, Ended}
use Rattle.vault_core.specs.declared.fault.VaultFault.TheVariants as vault
use Rattle.drive_core.specs.declared.fault.StepFault.{StepFault}
use Rattle.drive_core.specs.declared.fault.StepFault.TheVariants.{Vault, Grow, Scan}
use Rattle.drive_core.specs.declared.step.Answer.TheVariants as answers
use Rattle.drive_core.specs.Asked.{answer_of}
use Rattle.drive_core.specs.Line.{Line, When, Might, Allows, is_vault_memory, is_grow_memory, is_strayed, is_disk, is_exists, is_scan}
use Rattle.drive_core.specs.Step.{Answer}
use Rattle.drive_core.specs.Step as step
use Rattle.drive_core.specs.World.{World, Hand, GrowthPhase, vector_at}
use Rattle.drive_core.specs.Outcome.{elsewhere}
use Rattle.drive_core.specs.GrowthRows.{within, knowing, put_lines, IsLook, IsMarkRead}
use Rattle.drive_core.specs.LaneRows.{device_lines}
use Rattle.drive_core.specs.OpeningRows.{AreCallsOfMaking}
use Rattle.drive_core.specs.Run.{CreateCalls, OpenFaultCalls}
use Rattle.drive_core.proofs.WorkedSteps.{shared, two, phase_of}

-- ---- each kind has these faults and no other

is_vault_memory_alone : (fault : StepFault) → is_vault_memory fault ≡ true → fault ≡ Vault (vault.Pen pen.Memory)
is_vault_memory_alone (Vault (vault.Pen pen.Memory)) is = refl
is_vault_memory_alone (Vault other) is = absurd cc
is_vault_memory_alone (Grow other) is = absurd cc
is_vault_memory_alone (Scan other) is = absurd cc

is_grow_memory_alone : (fault : StepFault) → is_grow_memory fault ≡ true → fault ≡ Grow grow.Memory
is_grow_memory_alone (Grow grow.Memory) is = refl
is_grow_memory_alone (Grow other) is = absurd cc
is_grow_memory_alone (Vault other) is = absurd cc
is_grow_memory_alone (Scan other) is = absurd cc

is_strayed_alone : (fault : StepFault) → is_strayed fault ≡ true → (n : ℕ) × (fault ≡ Grow (grow.Strayed n))
is_strayed_alone (Grow (grow.Strayed n)) is = (n, refl)
is_strayed_alone (Grow other) is = absurd cc
is_strayed_alone (Vault other) is = absurd cc
is_strayed_alone (Scan other) is = absurd cc

is_disk_alone : (fault : StepFault) → is_disk fault ≡ true → (cause : DiskFault) × (fault ≡ Vault (vault.Pen (pen.Disk cause)))
is_disk_alone (Vault (vault.Pen (pen.Disk cause))) is = (cause, refl)
is_disk_alone (Vault other) is = absurd cc
is_disk_alone (Grow other) is = absurd cc
is_disk_alone (Scan other) is = absurd cc

is_exists_alone : (fault : StepFault) → is_exists fault ≡ true → fault ≡ Vault (vault.Pen pen.Exists)
is_exists_alone (Vault (vault.Pen pen.Exists)) is = refl
is_exists_alone (Vault other) is = absurd cc
is_exists_alone (Grow other) is = absurd cc
is_exists_alone (Scan other) is = absurd cc

is_scan_alone : (fault : StepFault) → is_scan fault ≡ true → (why : ScanFault) × (fault ≡ Scan why)
is_scan_alone (Scan why) is = (why, refl)
is_scan_alone (Vault other) is = absurd cc
is_scan_alone (Grow other) is = absurd cc

-- ---- a look may find any growth that was put, and no other

abbrev both : GrowthPhase
both = phase_of two.phase

abbrev size_in : {R : Type 0} → Answer R → ℕ
size_in (step.Size n) = n
size_in other = 0

-- seat 0 knows its own growth of two records; the other seat's has one
finds_own : IsLook two both (Some 0) (step.Size 2) (within two (knowing both (Some 0) 1))
finds_own = inl (inr refl, (1, (omega arith, omega arith), refl, refl))

finds_both : IsLook two both (Some 0) (step.Size 3) (within two (knowing both (Some 0) 2))
finds_both = inl (inr refl, (2, (omega arith, omega arith), refl, refl))

finds_no_other : (size : ℕ) (after : World ℕ) → IsLook two both (Some 0) (step.Size size) after → (size ≡ 2) ⊎ (size ≡ 3)
finds_no_other size after row = elim row [
  | inl ok ↦ of ok.1.0 ok.1.1.0 ok.1.1.1 (ap size_in ok.1.2)
  | inr refused ↦ absurd (let is = refused.2 in cc)
]
  where
    of : (n : ℕ) → 1 ≤ n → n ≤ 2 → size ≡ length (vector_at two both n) → (size ≡ 2) ⊎ (size ≡ 3)
    of zero least most is = absurd (omega (arith, least))
    of (suc zero) least most is = inl is
    of (suc (suc zero)) least most is = inr is
    of (suc (suc (suc n))) least most is = absurd (omega (arith, most))

-- ---- a seat is told no more than the mark, and no less than before

abbrev count_in : {R : Type 0} → Answer R → ℕ
count_in (step.Told n state) = n
count_in other = 0

-- before the mark is raised it tells 0
tells_none : (n : ℕ) (after : World ℕ) → IsMarkRead two both 0 (step.Told n Running) after → n ≡ 0
tells_none n after row = elim row [
  | inl ok ↦ (let most = ok.1.2 in let is = ap count_in ok.1.3 in omega (arith, most, is))
  | inr refused ↦ absurd (let is = refused.2 in cc)
]

-- with the mark at 2, and 1 told before
abbrev raised : GrowthPhase
raised = record both { mark = 2; told = 1 ∷ 0 ∷ [] }

tells_between : (n : ℕ) (after : World ℕ) → IsMarkRead two raised 0 (step.Told n Running) after → (n ≡ 1) ⊎ (n ≡ 2)
tells_between n after row = elim row [
  | inl ok ↦ (let least = ok.1.1 in let most = ok.1.2 in let is = ap count_in ok.1.3 in of n (omega (arith, least, is)) (omega (arith, most, is)))
  | inr refused ↦ absurd (let is = refused.2 in cc)
]
  where
    of : (n : ℕ) → 1 ≤ n → n ≤ 2 → (n ≡ 1) ⊎ (n ≡ 2)
    of zero least most = absurd (omega (arith, least))
    of (suc zero) least most = inl refl
    of (suc (suc zero)) least most = inr refl
    of (suc (suc (suc n))) least most = absurd (omega (arith, most))

-- it isn't told that the mark has ended: these are two answers
abbrev running_in : {R : Type 0} → Answer R → Bool
running_in (step.Told n Running) = true
running_in other = false

two_answers : (n : ℕ) → ◌≡◌ {A = Answer ℕ} (answer_of (answers.Settled n Ended)) (answer_of (answers.Settled n Running)) → ⊥
two_answers n is = let differ : false ≡ true = ap running_in is in absurd cc

-- ---- a device call is refused by the device alone, or as the pen is broken

whole_calls : (hand : Hand) → hand.broken ≡ false → Allows (device_lines hand true) None
whole_calls hand whole = at hand.broken whole
  where
    at : (broken : Bool) → broken ≡ false → Allows (When broken (Vault (vault.Pen pen.Broken)) ∷ Might is_disk ∷ []) None
    at true is = absurd cc
    at false is = inr refl

whole_refuses : (hand : Hand) (fault : StepFault) → hand.broken ≡ false → Allows (device_lines hand true) (Some fault) → (cause : DiskFault) × (fault ≡ Vault (vault.Pen (pen.Disk cause)))
whole_refuses hand fault whole allows = at hand.broken whole allows
  where
    at : (broken : Bool) → broken ≡ false → Allows (When broken (Vault (vault.Pen pen.Broken)) ∷ Might is_disk ∷ []) (Some fault)
        → (cause : DiskFault) × (fault ≡ Vault (vault.Pen (pen.Disk cause)))
    at true is allows = absurd cc
    at false is allows = elim allows [
      | inl might ↦ is_disk_alone fault (ap is_disk (same_Some fault might.0 might.1) ∙ might.2)
      | inr none ↦ absurd cc
    ]

broken_refuses : (hand : Hand) (calls : Bool) (answer : Option StepFault) → hand.broken ≡ true → Allows (device_lines hand calls) answer → answer ≡ Some (Vault (vault.Pen pen.Broken))
broken_refuses hand calls answer broken allows = of calls allows
  where
    at : (is : Bool) (lines : List Line) → is ≡ true → Allows (When is (Vault (vault.Pen pen.Broken)) ∷ lines) answer → answer ≡ Some (Vault (vault.Pen pen.Broken))
    at true lines is allows = allows
    at false lines is allows = absurd cc

    of : (calls : Bool) → Allows (device_lines hand calls) answer → answer ≡ Some (Vault (vault.Pen pen.Broken))
    of true allows = at hand.broken (Might is_disk ∷ []) broken allows
    of false allows = at hand.broken [] broken allows

-- without a call nothing is refused
whole_without : (hand : Hand) (answer : Option StepFault) → hand.broken ≡ false → Allows (device_lines hand false) answer → answer ≡ None
whole_without hand answer whole allows = at hand.broken whole allows
  where
    at : (broken : Bool) → broken ≡ false → Allows (When broken (Vault (vault.Pen pen.Broken)) ∷ []) answer → answer ≡ None
    at true is allows = absurd cc
    at false is allows = allows

-- ---- a put of one record with room for it wants memory, or something strayed

puts_refused : (fault : StepFault) → Allows (put_lines 8 shared (phase_of shared.phase) (1 ∷ [])) (Some fault) → (fault ≡ Grow grow.Memory) ⊎ ((n : ℕ) × (fault ≡ Grow (grow.Strayed n)))
puts_refused fault allows = elim allows [
  | inl might ↦ inl (memory might.0 might.1 might.2)
  | inr behind ↦ elim behind [
    | inl might ↦ inr (is_strayed_alone fault (ap is_strayed (same_Some fault might.0 might.1) ∙ might.2))
    | inr last ↦ elim last [
      | inl might ↦ inl (memory might.0 might.1 might.2)
      | inr none ↦ absurd cc
    ]
  ]
]
  where
    memory : (found : StepFault) → Some fault ≡ Some found → is_grow_memory found ≡ true → fault ≡ Grow grow.Memory
    memory found is kind = is_grow_memory_alone fault (ap is_grow_memory (same_Some fault found is) ∙ kind)

puts_accepted : Allows (put_lines 8 shared (phase_of shared.phase) (1 ∷ [])) None
puts_accepted = inr (inr (inr refl))

-- in a closed phase it isn't accepted
abbrev closed : GrowthPhase
closed = record (phase_of shared.phase) { closed = true }

closed_refuses : Allows (put_lines 8 (within shared closed) closed (1 ∷ [])) None → ⊥
closed_refuses allows = elim allows [ inl might ↦ absurd (let is = might.1 in cc) | inr is ↦ absurd cc ]

-- ---- of a world that is another but for its disk all else is that one's

pub record IsBut {R : Type 0} (x w : World R) : Type 0 where
  pub phase_same : w.phase ≡ x.phase
  pub base_same : w.base ≡ x.base
  pub history_same : w.history ≡ x.history
  pub settled_same : w.settled ≡ x.settled
  pub hand_same : w.hand ≡ x.hand
  pub strayed_same : w.strayed ≡ x.strayed

is_but : {R : Type 0} (x w : World R) → w ≡ elsewhere x w → IsBut x w
is_but {R} x w is = record {
  phase_same = ap (λ (y : World R). y.phase) is;
  base_same = ap (λ (y : World R). y.base) is;
  history_same = ap (λ (y : World R). y.history) is;
  settled_same = ap (λ (y : World R). y.settled) is;
  hand_same = ap (λ (y : World R). y.hand) is;
  strayed_same = ap (λ (y : World R). y.strayed) is;
}

-- ---- counts of calls

creates_in_eight : CreateCalls {R = ℕ} step.Fine 9 → ⊥
creates_in_eight calls = let most = calls.1 in omega (arith, most)

finds_in_eight : CreateCalls {R = ℕ} (step.Refused (Vault (vault.Pen pen.Exists))) 9 → ⊥
finds_in_eight calls = omega (arith, calls)

fails_at_a_call : (cause : DiskFault) → OpenFaultCalls (Vault (vault.Pen (pen.Disk cause))) 0 → ⊥
fails_at_a_call cause calls = omega (arith, calls)

-- where the disk has no byte a creation makes eight calls, and where it has thirteen it finds the file by the second
creates_in : (n : ℕ) → AreCallsOfMaking [] None n → n ≡ 8
creates_in n calls = calls

abbrev thirteen : List ℕ
thirteen = replicate 13 0

finds_by_length : (n : ℕ) → AreCallsOfMaking thirteen (Some pen.Exists) n → n ≡ 2
finds_by_length n calls = elim calls [
  | inl length ↦ (let place = the_second (n - 1) length.1.1 in let some = length.1.0 in omega (arith, place, some))
  | inr read ↦ absurd (let few = read.0 in omega (arith, few))
]
  where
    the_second : (k : ℕ) → slice_get (calls_of_creation thirteen) k ≡ Some causes.Length → k ≡ 1
    the_second zero is = absurd cc
    the_second (suc zero) is = refl
    the_second (suc (suc zero)) is = absurd cc
    the_second (suc (suc (suc zero))) is = absurd cc
    the_second (suc (suc (suc (suc zero)))) is = absurd cc
    the_second (suc (suc (suc (suc (suc zero))))) is = absurd cc
    the_second (suc (suc (suc (suc (suc (suc k)))))) is = absurd cc
