-- The words of commands over files that ask for nothing.
use Rattle.std.specs.Prelude.{◌≡◌, ◌⊎◌, ◌≤◌, ◌^◌, ◌-◌, ℕ, List, length, Option, Some, None, IfSome}
use Rattle.text_core.specs.Text.{Spelling}
use Rattle.text_core.specs.Refusals.{input_limit}
use Rattle.text_core.specs.declared.refusal.Refusal.{Refusal}
use Rattle.files_core.specs.declared.asked.Window.{Window}
use Rattle.files_core.specs.declared.fault.Word.TheVariants as words
use Rattle.files_core.specs.declared.fault.FileFault.{FileFault}
use Rattle.files_core.specs.declared.fault.FileFault.TheVariants.{Word, Input}
use Rattle.files_core.specs.Asked.{IsNumber, IsNumberOr, IsNoNumber, IsRecord, IsRecordsRefusal, SpellsRecords}
use Rattle.lines_core.specs.GrowthLines.{AllGrowthsFit, AreGrowthLines, AreLineRecords, IsLinesRefusal, IsSpellingRefusal}

-- the window that the words name
abbrev pub IsWindow : Option (List ℕ) → Option (List ℕ) → Window → Type 0
IsWindow from count window = IsNumberOr from 0 window.from × IsNumberOr count (2 ^ 64 - 1) window.count

-- one of them is no number, and the fault tells of the first
abbrev pub IsNoWindow : Option (List ℕ) → Option (List ℕ) → FileFault → Type 0
IsNoWindow from count fault =
    ((fault ≡ Word words.From) × IsNoNumber from)
    ⊎ ((fault ≡ Word words.Count) × ((n : ℕ) × IsNumberOr from 0 n) × IsNoNumber count)

module _ {R : Type 0} (spelling : Spelling R) where
  abbrev pub IsNoRecord : List ℕ → FileFault → Type 0
  IsNoRecord word fault = (fault ≡ Word words.Record) × ((r : R) → IsRecord spelling word r → ⊥)

  -- the records that `set` is given: those of the word RECORDS, or where there is none those of all lines of the input
  abbrev pub AreSetRecords : Option (List ℕ) → Option (List ℕ) → List R → Type 0
  AreSetRecords (Some word) input records = SpellsRecords spelling word records
  AreSetRecords None input records = IfSome input (λ bytes. AreLineRecords spelling bytes records) × IfSome input (λ bytes. length bytes ≤ input_limit)

  -- it is given none, for this reason
  abbrev pub IsNoSetRecords : Option (List ℕ) → Option (List ℕ) → FileFault → Type 0
  IsNoSetRecords (Some word) input fault = IsRecordsRefusal spelling word fault
  IsNoSetRecords None input fault = (refusal : Refusal) × (fault ≡ Input refusal) × IfSome input (λ bytes. IsSpellingRefusal spelling bytes refusal)

  -- START is no number, or there are no records
  abbrev pub IsNoSetting : List ℕ → Option (List ℕ) → Option (List ℕ) → FileFault → Type 0
  IsNoSetting start word input fault =
      ((fault ≡ Word words.Start) × ((n : ℕ) → IsNumber start n → ⊥))
      ⊎ (((n : ℕ) × IsNumber start n) × IsNoSetRecords word input fault)

  -- N is no number, or RECORD is no record
  abbrev pub IsNoResizing : List ℕ → List ℕ → FileFault → Type 0
  IsNoResizing len word fault =
      ((fault ≡ Word words.Length) × ((n : ℕ) → IsNumber len n → ⊥))
      ⊎ ((fault ≡ Word words.Record) × ((n : ℕ) × IsNumber len n) × ((r : R) → IsRecord spelling word r → ⊥))

  -- the input has these growths, one a line
  abbrev pub AreInputGrowths : ℕ → Option (List ℕ) → List (List R) → Type 0
  AreInputGrowths width input growths =
      IfSome input (λ bytes. AreGrowthLines spelling bytes growths) × IfSome input (λ bytes. length bytes ≤ input_limit) × AllGrowthsFit width growths

  -- it has none, for this reason
  abbrev pub IsNoInput : ℕ → Option (List ℕ) → FileFault → Type 0
  IsNoInput width input fault = (refusal : Refusal) × (fault ≡ Input refusal) × IfSome input (λ bytes. IsLinesRefusal width spelling bytes refusal)
