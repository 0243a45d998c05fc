-- Records of a window of positions, one a line.
use Rattle.std.specs.Prelude.{◌≡◌, ℕ, List, take, drop}
use Rattle.record_core.specs.Bytes.{Encoding}
use Rattle.pen_core.specs.Typed.{OpensTo}
use Rattle.text_core.specs.Text.{record_lines}
use Rattle.files_core.specs.declared.asked.Window.{Window}

-- those of the positions of the window
abbrev pub in_window : {R : Type 0} → Window → List R → List R
in_window window records = take window.count (drop window.from records)

-- the text has the records of the window of a vector, one a line: of the file's, where its bytes are known
pub record IsWindowListed {R : Type 0} (form : Encoding R) (text_of : R → List ℕ) (window : Window) (known : Type 0) (bytes text : List ℕ) : Type 0 where
  pub records : List R
  pub file : known → OpensTo form bytes records
  pub lines : text ≡ record_lines text_of (in_window window records)

-- the records are those of the window of a vector: of the file's, where its bytes are known
pub record AreWindowOf {R : Type 0} (form : Encoding R) (window : Window) (known : Type 0) (bytes : List ℕ) (read : List R) : Type 0 where
  pub records : List R
  pub file : known → OpensTo form bytes records
  pub shown : read ≡ in_window window records

-- these are so many records of the file's vector, from a position on
abbrev pub AreRecordsFrom : {R : Type 0} → Encoding R → List ℕ → ℕ → ℕ → List R → Type 0
AreRecordsFrom {R = R} form bytes from count read = (records : List R) → OpensTo form bytes records → read ≡ take count (drop from records)
