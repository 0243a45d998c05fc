-- Records that are copied out as their bytes.
use Rattle.std.specs.Prelude.{ℕ, List}
use Rattle.record_core.specs.Bytes.{Encoding}
use Rattle.c_core.specs.Records.{AreWritten}
use Rattle.cvec_c.specs.declared.stat.CvecStat.{CvecStat}
use Rattle.cvec_c.specs.Stat.{HasStat}

-- the image has a vector of records of this form, of which bytes are written so, and the fields are its own
abbrev pub ReadsBytes : List ℕ → ℕ → List ℕ → List ℕ → ℕ → CvecStat → (R : Type 0) → Encoding R → Type 0
ReadsBytes image from old new count stat R form = (records : List R) × HasStat form image records stat × AreWritten form records from old new count
