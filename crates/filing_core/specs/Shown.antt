-- What is shown of a line of the input that is refused.
use Rattle.std.specs.Prelude.{◌≡◌, ℕ, List, Option, Some, None, IfSome, Result, Err}
use Rattle.std.specs.Option.{option_copied}
use Rattle.std.specs.NonZero.{non_zero_u32_get}
use Rattle.text_core.specs.Text.{Spelling}
use Rattle.text_core.specs.declared.refusal.Refusal.TheVariants as refusals
use Rattle.text_core.specs.declared.status.Status.{Status}
use Rattle.lines_core.specs.Excerpts.{IsBadLineShown}
use Rattle.lines_core.specs.declared.excerpt.Excerpt.{Excerpt}
use Rattle.load_core.specs.Appending.{IsLineBehind}
use Rattle.files_core.specs.declared.fault.FileFault.TheVariants as faults
use Rattle.sentences.specs.declared.complaint.Complaint.{Complaint}
use Rattle.sentences.specs.declared.complaint.Complaint.TheVariants as complaints
use Rattle.words_core.specs.declared.request.FileTask.{FileTask}
use Rattle.words_core.specs.declared.request.FileTask.TheVariants.{Load, Append, Set}

-- the input was refused for line n, and what is shown is of that line
abbrev pub IsInputShown : {R : Type 0} → Spelling R → Option (List ℕ) → Result Status Complaint → Option Excerpt → Type 0
IsInputShown spelling input filed shown = IfSome shown (λ excerpt. IfSome input (λ bytes.
    (n : ℕ) × (filed ≡ Err (complaints.Fault (faults.Input (refusals.Line n)))) × IsBadLineShown spelling bytes n excerpt))

-- the same of `set`, where no word has its records
abbrev pub IsSetShown : {R : Type 0} → Spelling R → Option (List ℕ) → Option (List ℕ) → Result Status Complaint → Option Excerpt → Type 0
IsSetShown spelling (Some word) input filed shown = shown ≡ None
IsSetShown spelling None input filed shown = IsInputShown spelling input filed shown

-- what is shown is of a line of the input of `load`, `append` or `set` that is no growth line
abbrev pub IsCommandShown : {R : Type 0} → Spelling R → FileTask → Option (List ℕ) → Result Status Complaint → Option Excerpt → Type 0
IsCommandShown spelling (Load growers) input filed shown = IsInputShown spelling input filed shown
IsCommandShown spelling (Set start records) input filed shown = IsSetShown spelling (option_copied records) input filed shown
IsCommandShown spelling (Append block every) input filed shown = IfSome shown (IsLineBehind spelling (non_zero_u32_get block) input)
IsCommandShown spelling other input filed shown = shown ≡ None
