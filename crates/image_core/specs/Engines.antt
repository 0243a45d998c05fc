-- What the engines write for an input, where a reader and a writer tell their bytes.
use Rattle.std.specs.Prelude.{◌≡◌, ℕ, ◌≤◌, List, length, Option, ◌⊎◌}
use Rattle.std.specs.Io.KnownBytes.{Appends}
use Rattle.hex.specs.Hex.{encode_lower}
use Rattle.record_core.specs.Bytes.{Encoding}
use Rattle.segment_core.specs.declared.format.Format.{Format}
use Rattle.segment_core.specs.Frame.{Frame}
use Rattle.segment_core.specs.Vector.{HasVector}
use Rattle.segment_core.specs.Written.{file_of, AllFit}
use Rattle.text_core.specs.declared.refusal.Refusal.{Refusal}
use Rattle.text_core.specs.declared.status.Status.{Status}
use Rattle.text_core.specs.declared.status.Status.TheVariants.{Done, Refused, OutputFailed, Usage}
use Rattle.text_core.specs.GroupLine.{AreGroupLines}
use Rattle.text_core.specs.HexLine.{IsHexLine}
use Rattle.text_core.specs.Text.{Spelling, ended_line, record_lines}
use Rattle.text_core.specs.Refusals.{refusal_line, input_limit, IsInputRefusal}
use Rattle.image_core.specs.declared.fault.ShowFault.{ShowFault}
use Rattle.image_core.specs.Refusals.{IsImageRefusal, IsShowRefusal, show_fault_line}

-- the file of the groups that the input spells
abbrev pub IsFileOfLines : {R : Type 0} → Encoding R → Spelling R → List ℕ → List ℕ → Type 0
IsFileOfLines {R} form spelling input file =
    (groups : List (List (List R))) × AreGroupLines spelling input groups × AllFit form.width groups × (file ≡ file_of form groups)

-- the hex of that file
abbrev pub IsImageHex : {R : Type 0} → Encoding R → Spelling R → List ℕ → List ℕ → Type 0
IsImageHex form spelling input hex = (file : List ℕ) × IsFileOfLines form spelling input file × (hex ≡ encode_lower file)

-- that hex as a line, of an input within the bound
abbrev pub WritesImage : {R : Type 0} → Encoding R → Spelling R → List ℕ → Option (List ℕ) → Option (List ℕ) → Type 0
WritesImage form spelling input old new =
    (hex : List ℕ) × IsImageHex form spelling input hex × (length input ≤ input_limit) × Appends old new (ended_line hex)

-- the line of a refusal: of the reader's bytes as they came, or of an input within the bound
abbrev pub WritesImageRefusal : {R : Type 0} → Encoding R → Spelling R → List ℕ → Option (List ℕ) → Option (List ℕ) → Type 0
WritesImageRefusal form spelling input old new =
    (refusal : Refusal) × IsImageRefusal form spelling input refusal × (IsInputRefusal input refusal ⊎ (length input ≤ input_limit)) × Appends old new (refusal_line refusal)

-- how an image engine may end, and what it has written then
abbrev pub IsImageRun : {R : Type 0} → Encoding R → Spelling R → List ℕ → Option (List ℕ) → Option (List ℕ) → Status → Type 0
IsImageRun form spelling input old new Done = WritesImage form spelling input old new
IsImageRun form spelling input old new Refused = WritesImageRefusal form spelling input old new
IsImageRun form spelling input old new OutputFailed = Unit {0}
IsImageRun form spelling input old new Usage = ⊥

-- the vector of the image whose hex the input is, a file of either format
abbrev pub IsVectorOfHex : {R : Type 0} → Encoding R → List ℕ → List R → Type 0
IsVectorOfHex form input records =
    (image : List ℕ) × (format : Format) × (frames : List Frame) × IsHexLine input image × HasVector format form image frames records

-- its records, one a line, of an input within the bound
abbrev pub WritesVector : {R : Type 0} → Encoding R → Spelling R → List ℕ → Option (List ℕ) → Option (List ℕ) → Type 0
WritesVector {R} form spelling input old new =
    (records : List R) × IsVectorOfHex form input records × (length input ≤ input_limit) × Appends old new (record_lines spelling.text_of records)

abbrev pub WritesShowRefusal : {R : Type 0} → Encoding R → List ℕ → Option (List ℕ) → Option (List ℕ) → Type 0
WritesShowRefusal form input old new =
    (fault : ShowFault) × IsShowRefusal form input fault × Appends old new (show_fault_line fault)

-- how a show engine may end, and what it has written then
abbrev pub IsShowRun : {R : Type 0} → Encoding R → Spelling R → List ℕ → Option (List ℕ) → Option (List ℕ) → Status → Type 0
IsShowRun form spelling input old new Done = WritesVector form spelling input old new
IsShowRun form spelling input old new Refused = WritesShowRefusal form input old new
IsShowRun form spelling input old new OutputFailed = Unit {0}
IsShowRun form spelling input old new Usage = ⊥
