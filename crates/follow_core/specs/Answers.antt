-- The texts that commands answer for the records of a vector.
use Rattle.std.specs.Prelude.{◌≡◌, ℕ, ◌-◌, List, ◌++◌, length, take, drop, codes, decimal, Bool, Option}
use Rattle.std.specs.List.{count_by}
use Rattle.record_core.specs.Bytes.{Encoding}
use Rattle.segment_core.specs.declared.format.Shape.{Shape}
use Rattle.segment_core.specs.Shape.{version_of}
use Rattle.segment_core.specs.Frame.{Frame}
use Rattle.segment_core.specs.Tally.{tally_of}
use Rattle.search_core.specs.Search.{IsFirst}
use Rattle.text_core.specs.Text.{ended_line, record_lines}
use Rattle.text_core.specs.Answers.{number_line, found_line, TestsFor}
use Rattle.follow_core.specs.Beside.{AreRecordsLeft}

-- those from a position on, so many at most, one a line
abbrev pub AreListed : {R : Type 0} → (R → List ℕ) → ℕ → ℕ → List R → List ℕ → Type 0
AreListed text_of from count records text = text ≡ record_lines text_of (take count (drop from records))

-- how many of them are the one that is wanted
abbrev pub IsCountLine : {R : Type 0} → R → List R → List ℕ → Type 0
IsCountLine {R} wanted records text = (is : R → Bool) × TestsFor wanted is × (text ≡ number_line (count_by is records))

-- the least position of one that is, if there is one
abbrev pub IsFoundLine : {R : Type 0} → R → List R → List ℕ → Type 0
IsFoundLine {R} wanted records text = (is : R → Bool) × TestsFor wanted is × (found : Option ℕ) × IsFirst is records found × (text ≡ found_line found)

-- the version, the width, and how many records there are
abbrev pub measures_front : Shape → ℕ → List ℕ
measures_front shape size = (codes "ok version " ++ decimal (version_of shape.format)) ++ (codes " width " ++ decimal shape.width) ++ (codes " size " ++ decimal size)

-- these, and how many frames and live changes
abbrev pub measures_line : Shape → ℕ → ℕ → ℕ → List ℕ
measures_line shape size frames live = ended_line (measures_front shape size ++ (codes " frames " ++ decimal frames) ++ (codes " live " ++ decimal live))

-- the text is this line of a file with these frames, whose records can all be read
abbrev pub AreMeasuresTold : {R : Type 0} → Encoding R → Shape → List ℕ → List Frame → Type 0
AreMeasuresTold {R} form shape text frames =
    (records : List R) × AreRecordsLeft form frames records
    × (text ≡ measures_line shape (length records) (length frames) ((tally_of frames).changes - (tally_of frames).folded))
