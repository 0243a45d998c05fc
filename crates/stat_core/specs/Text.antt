-- The text of a summary: names and numbers, as lines or as a JSON object.
use Rattle.std.specs.Prelude.{ℕ, ◌+◌, ◌-◌, List, [], ◌++◌, codes, decimal}
use Rattle.stat_core.specs.declared.writing.Form.{Form}
use Rattle.stat_core.specs.declared.writing.Form.TheVariants.{Lines, Json}
use Rattle.stat_core.specs.declared.summary.Summary.{Summary}

abbrev pub opening_text : Form → ℕ → List ℕ
opening_text Lines version = (codes "version " ++ decimal version) ++ codes "\n"
opening_text Json version = codes "{\"version\":" ++ decimal version

abbrev pub field_text : Form → List ℕ → ℕ → List ℕ
field_text Lines name n = name ++ (codes " " ++ decimal n) ++ codes "\n"
field_text Json name n = codes ",\"" ++ name ++ (codes "\":" ++ decimal n)

abbrev pub closing_text : Form → List ℕ
closing_text Lines = []
closing_text Json = codes "}\n"

-- what the header tells, and the file's length
unfoldable pub file_text : Form → Summary → List ℕ
file_text form s = opening_text form s.version ++ field_text form (codes "width") s.width ++ field_text form (codes "bytes") s.bytes

-- the frames of each kind
unfoldable pub frames_text : Form → Summary → List ℕ
frames_text form s = field_text form (codes "groups") s.groups ++ field_text form (codes "changes") s.changes ++ field_text form (codes "shrinks") s.shrinks ++ field_text form (codes "folds") s.folds

-- what they leave
unfoldable pub vector_text : Form → Summary → List ℕ
vector_text form s =
    field_text form (codes "growths") s.growths ++ field_text form (codes "records") s.records
    ++ field_text form (codes "size") s.size ++ field_text form (codes "live") (s.changes - s.folded)

-- where they end
unfoldable pub end_text : Form → Summary → List ℕ
end_text form s = field_text form (codes "gate") s.gate ++ field_text form (codes "behind") (s.bytes - (s.gate + 1)) ++ closing_text form

abbrev pub summary_text : Form → Summary → List ℕ
summary_text form s = file_text form s ++ frames_text form s ++ vector_text form s ++ end_text form s
