-- Worked runs of the program: what each type's records are, and what is written and told at an end, each with the nearest that isn't.
use Rattle.std.proofs.Common.{◌≡◌, ℕ, inl, inr, List, [], ◌∷◌, Some, None, Option, Result, Ok, Err, refl, sym, ap, ◌∙◌, arith}
use Rattle.std.specs.Prelude.{Bool, true, false, codes}
use Rattle.record_core.specs.Bytes.{Encoding}
use Rattle.text_core.specs.Text.{Spelling}
use Rattle.text_core.specs.declared.refusal.Refusal.TheVariants as refusals
use Rattle.text_core.specs.declared.status.Status.{Status}
use Rattle.text_core.specs.declared.status.Status.TheVariants as statuses
use Rattle.files_core.specs.declared.fault.FileFault.TheVariants as faults
use Rattle.words_core.specs.declared.request.RecordType.{RecordType}
use Rattle.words_core.specs.declared.request.RecordType.TheVariants.{U8, U16, U32, U64, I32, I64, F32, F64, Pair, Flagged, Bytes16, Bytes24, Bytes32, Bytes64}
use Rattle.sentences.specs.declared.complaint.Complaint.{Complaint}
use Rattle.sentences.specs.declared.complaint.Complaint.TheVariants as complaints
use Rattle.sentences.specs.declared.role.Role.TheVariants as roles
use Rattle.cvec.specs.Runs.{IsAskedRun, IsComplaintRun, IsFileRun, IsIdleRun, IsRefusedTo, IsTellRun, IsToldRun, OfType, complaint_line}

-- ---- types

-- the records of a type are so many bytes
abbrev HasWidth : RecordType → ℕ → Type 0
HasWidth of width = OfType of (λ R form spelling. form.width ≡ width)

numbers : HasWidth U8 1 × HasWidth U16 2 × HasWidth U32 4 × HasWidth U64 8 × HasWidth I32 4 × HasWidth I64 8 × HasWidth F32 4 × HasWidth F64 8
numbers = (refl, refl, refl, refl, refl, refl, refl, refl)

joined : HasWidth Pair 16 × HasWidth Flagged 9 × HasWidth Bytes16 16 × HasWidth Bytes24 24 × HasWidth Bytes32 32 × HasWidth Bytes64 64
joined = (refl, refl, refl, refl, refl, refl)

no_other_width : (HasWidth U8 2 → ⊥) × (HasWidth U64 4 → ⊥) × (HasWidth F32 8 → ⊥) × (HasWidth Pair 9 → ⊥) × (HasWidth Flagged 16 → ⊥) × (HasWidth Bytes32 64 → ⊥)
no_other_width =
    ((λ is. absurd (omega arith)), (λ is. absurd (omega arith)), (λ is. absurd (omega arith)), (λ is. absurd (omega arith)), (λ is. absurd (omega arith)), λ is. absurd (omega arith))

-- ---- what is written of a complaint

refused_file : complaint_line (complaints.InUse roles.New) ≡ codes "refused: file\n"
refused_file = refl

-- how much of a file is sound stands on standard error, and changes nothing of the line
same_line : (sound : ℕ) → complaint_line (complaints.Damaged sound (faults.Input refusals.Memory)) ≡ complaint_line (complaints.Fault (faults.Input refusals.Memory))
same_line sound = refl

of_memory : complaint_line (complaints.Fault (faults.Input refusals.Memory)) ≡ codes "refused: memory\n"
of_memory = refl

abbrev in_use : Complaint
in_use = complaints.InUse roles.File

complained : IsComplaintRun (Some []) (Some (codes "refused: file\n")) in_use statuses.Refused × IsComplaintRun (Some []) (Some []) in_use statuses.OutputFailed
complained = (refl, tt)

not_complained : (IsComplaintRun (Some []) (Some []) in_use statuses.Refused → ⊥) × (IsComplaintRun (Some []) (Some (codes "refused: file\n")) in_use statuses.Done → ⊥)
    × (IsComplaintRun (Some []) (Some []) in_use statuses.Usage → ⊥)
not_complained = ((λ is. absurd cc), (λ is. is), λ is. is)

-- ---- how a command's end is told

module _ (old before : Option (List ℕ)) (aside : Bool) where
  told : IsToldRun aside (Ok statuses.Done) old old before before statuses.Done None
  told = (refl, refl, refl, refl)

  -- by its status alone, and nothing more is written, nor aside
  not_told : (IsToldRun aside (Ok statuses.Done) old old before before statuses.OutputFailed None → ⊥)
      × (IsToldRun aside (Ok statuses.Done) old old before before statuses.Done (Some in_use) → ⊥)
      × (IsToldRun aside (Ok statuses.Done) (Some []) (Some (49 ∷ [])) before before statuses.Done None → ⊥)
      × (IsToldRun aside (Ok statuses.Done) old old (Some []) (Some (49 ∷ [])) statuses.Done None → ⊥)
  not_told = ((λ is. absurd (let same = is.2 in cc)), (λ is. absurd (let none = is.3 in cc)), (λ is. absurd (let same = is.0 in cc)), λ is. absurd (let same = is.1 in cc))

  -- a complaint is told, as itself
  complaint_told : (status : Status) → (IsToldRun aside (Err in_use) old old before before status None → ⊥)
      × (IsToldRun aside (Err in_use) old old before before status (Some (complaints.InUse roles.New)) → ⊥)
  complaint_told status = ((λ is. absurd (let some = is.0 in cc)), λ is. absurd (let same = is.0 in cc))

-- its line goes to the output, or aside where that is asked for, and to one of them
refused_to : IsRefusedTo false (Some []) (Some (codes "refused: file\n")) (Some []) (Some []) in_use statuses.Refused
    × IsRefusedTo true (Some []) (Some []) (Some []) (Some (codes "refused: file\n")) in_use statuses.Refused
refused_to = ((refl, refl), (refl, refl))

not_refused_to : (IsRefusedTo true (Some []) (Some (codes "refused: file\n")) (Some []) (Some []) in_use statuses.Refused → ⊥)
    × (IsRefusedTo false (Some []) (Some []) (Some []) (Some (codes "refused: file\n")) in_use statuses.Refused → ⊥)
    × (IsRefusedTo true (Some []) (Some (codes "refused: file\n")) (Some []) (Some (codes "refused: file\n")) in_use statuses.Refused → ⊥)
not_refused_to = ((λ is. absurd (let line = is.0 in cc)), (λ is. absurd (let line = is.0 in cc)), λ is. absurd (let same = is.1 in cc))

-- ---- words that ask for nothing, and what the program tells of itself

idle : IsIdleRun (Some []) (Some []) statuses.Usage × IsIdleRun (Some []) (Some (codes "refused: memory\n")) statuses.Refused
idle = (refl, refl)

not_idle : (IsIdleRun (Some []) (Some []) statuses.Done → ⊥) × (IsIdleRun (Some []) (Some (49 ∷ [])) statuses.Usage → ⊥) × (IsIdleRun (Some []) (Some []) statuses.Refused → ⊥)
not_idle = ((λ is. is), (λ is. absurd cc), λ is. absurd cc)

told_of_itself : IsTellRun (49 ∷ []) (Some []) (Some (49 ∷ [])) statuses.Done × (IsTellRun (49 ∷ []) (Some []) (Some []) statuses.Done → ⊥) × (IsTellRun (49 ∷ []) (Some []) (Some []) statuses.Usage → ⊥)
told_of_itself = (refl, (λ is. absurd cc), λ is. is)

-- no complaint is told where nothing was asked for
none_asked : IsAskedRun None (Some []) (Some []) (Some []) (Some []) (Some []) statuses.Usage None
    × (IsAskedRun None (Some []) (Some []) (Some []) (Some []) (Some []) statuses.Usage (Some in_use) → ⊥)
none_asked = ((refl, refl, refl), λ is. absurd (let none = is.1 in cc))

-- what was run is what is told of
told_of_the_run : (IsRun : Option (List ℕ) → Result Status Complaint → Type 0) → IsRun (Some []) (Ok statuses.Done) → IsFileRun IsRun false (Some []) (Some []) (Some []) statuses.Done None
told_of_the_run IsRun run = record { mid = Some []; filed = Ok statuses.Done; run = run; told = (refl, refl, refl, refl) }

not_of_another_run : (IsRun : Option (List ℕ) → Result Status Complaint → Type 0) → ((mid : Option (List ℕ)) (status : Status) → IsRun mid (Ok status) → ⊥) → IsFileRun IsRun false (Some []) (Some []) (Some []) statuses.Done None → ⊥
not_of_another_run IsRun none is = by_filed is.filed is.run is.told
  where
    by_filed : (filed : Result Status Complaint) → IsRun is.mid filed → IsToldRun false filed is.mid (Some []) (Some []) (Some []) statuses.Done None → ⊥
    by_filed (Ok status) run told = none is.mid status run
    by_filed (Err why) run told = absurd (let some = told.0 in cc)
