-- When the engines refuse, and the names of why `show` does.
use Rattle.std.specs.Prelude.{◌≡◌, ℕ, ◌+◌, ◌<◌, ◌≤◌, List, length, ◌⊎◌}
use Rattle.record_core.specs.Bytes.{Encoding}
use Rattle.segment_core.specs.declared.fault.ImageFault.TheVariants as image_faults
use Rattle.segment_core.specs.Written.{IsImageRefused}
use Rattle.segment_core.specs.Fault.{IsRefused}
use Rattle.segment_core.specs.Names.{scan_name}
use Rattle.text_core.specs.declared.refusal.Refusal.{Refusal}
use Rattle.text_core.specs.declared.refusal.Refusal.TheVariants as refusals
use Rattle.text_core.specs.GroupLine.{AreGroupLines, IsGroupLine}
use Rattle.text_core.specs.HexLine.{IsHexLine}
use Rattle.text_core.specs.Lines.{IsFirstBadLine}
use Rattle.text_core.specs.Refusals.{name_of, refused_line, input_limit, IsInputRefusal, IsHexRefusal}
use Rattle.text_core.specs.Text.{Spelling}
use Rattle.image_core.specs.declared.fault.ShowFault.{ShowFault}
use Rattle.image_core.specs.declared.fault.ShowFault.TheVariants.{Input, Scan}

-- an input of group lines was refused
abbrev pub IsImageRefusal : {R : Type 0} → Encoding R → Spelling R → List ℕ → Refusal → Type 0
IsImageRefusal form spelling input (refusals.Line n) = IsFirstBadLine (IsGroupLine spelling) input n
IsImageRefusal {R} form spelling input (refusals.TooLargeAtLine n) =
    (groups : List (List (List R))) × (k : ℕ) × AreGroupLines spelling input groups × IsImageRefused form.width groups (image_faults.TooLarge k) × (n ≡ k + 1)
IsImageRefusal form spelling input refusals.InputTooLong = input_limit < length input
IsImageRefusal form spelling input refusals.Input = Unit {0}
IsImageRefusal form spelling input refusals.Memory = Unit {0}
IsImageRefusal form spelling input refusals.NotHex = ⊥

abbrev pub show_fault_name : ShowFault → List ℕ
show_fault_name (Input refusal) = name_of refusal
show_fault_name (Scan fault) = scan_name fault

-- the line that is printed
abbrev pub show_fault_line : ShowFault → List ℕ
show_fault_line fault = refused_line (show_fault_name fault)

-- A reader's bytes were not taken, or an input of hex within the bound was refused.
abbrev pub IsShowRefusal : {R : Type 0} → Encoding R → List ℕ → ShowFault → Type 0
IsShowRefusal form input (Input refusal) = IsInputRefusal input refusal ⊎ ((length input ≤ input_limit) × IsHexRefusal input refusal)
IsShowRefusal form input (Scan fault) = (length input ≤ input_limit) × (bytes : List ℕ) × IsHexLine input bytes × IsRefused form bytes fault
