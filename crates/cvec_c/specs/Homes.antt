-- Where the records of an image stand.
use Rattle.std.specs.Prelude.{◌≡◌, ◌≤◌, ◌<◌, ℕ, List, length, map, take, slice_get}
use Rattle.std.specs.Option.{option_and_then}
use Rattle.record_core.specs.Bytes.{Encoding}
use Rattle.segment_core.specs.declared.found.Home.{Home}
use Rattle.segment_core.specs.Vector.{record_in}
use Rattle.segment_core.specs.Found.{home_among, AreInTurn}
use Rattle.cvec_c.specs.declared.homes.CvecHome.{CvecHome}
use Rattle.cvec_c.specs.declared.stat.CvecStat.{CvecStat}
use Rattle.cvec_c.specs.Stat.{HasStat}

-- the homes that C is told
abbrev pub as_homes : List CvecHome → List Home
as_homes told = map (λ home. record { position = home.position; place = home.place; count = home.count }) told

-- The image has this vector, the fields are its own, and so are the homes.
pub record HasHomes {R : Type 0} (form : Encoding R) (image : List ℕ) (records : List R) (stat : CvecStat) (homes : List Home) : Type 0 where
  pub holds : HasStat form image records stat
  -- each position lies in one of them, in order
  pub in_turn : AreInTurn 0 homes (length records)
  -- where no change is live, the record of each position is the one that stands in its home
  pub stand : stat.changes ≤ stat.folded → (i : ℕ) → i < length records → option_and_then (record_in form image) (home_among form.width homes i) ≡ slice_get records i

-- the image has this vector, and these are the homes
abbrev pub TellsHomes : List ℕ → List CvecHome → ℕ → CvecStat → (R : Type 0) → Encoding R → Type 0
TellsHomes image told count stat R form = (records : List R) × HasHomes form image records stat (as_homes (take count told))

-- it has one with so many homes
abbrev pub NeedsRoom : List ℕ → ℕ → (R : Type 0) → Encoding R → Type 0
NeedsRoom image count R form = (records : List R) × (holds : CvecStat) × (homes : List Home) × HasHomes form image records holds homes × (count ≡ length homes)
