-- A place in a file from which a follower can go on, as one word.
use Rattle.std.specs.Prelude.{◌≡◌, ℕ, ◌<◌, ◌^◌, List, length, decimal}
use Rattle.segment_core.specs.declared.format.Shape.{Shape}
use Rattle.segment_core.specs.Frame.{Frame, text}
use Rattle.segment_core.specs.Tally.{tally_of}
use Rattle.text_core.specs.Halves.{halves_text}
use Rattle.beside_core.specs.declared.bookmark.Bookmark.{Bookmark}
use Rattle.follow_core.specs.declared.place.Place.{Place}

-- gate, size, changes and folded, with a colon between each two
abbrev pub place_text : Place → List ℕ
place_text place = halves_text (decimal place.gate) (halves_text (decimal place.size) (halves_text (decimal place.changes) (decimal place.folded)))

-- numbers that a place can have
pub record IsPlace (place : Place) : Type 0 where
  pub gate : place.gate < 2 ^ 64
  pub size : place.size < 2 ^ 64
  pub changes : place.changes < 2 ^ 64
  pub folded : place.folded < 2 ^ 64

-- it is that of the gate behind these frames, and of what they leave
pub record IsPlaceBehind (shape : Shape) (known : List Frame) (place : Place) : Type 0 where
  pub gate_is : place.gate ≡ length (text shape known)
  pub size_is : place.size ≡ (tally_of known).size
  pub changes_are : place.changes ≡ (tally_of known).changes
  pub folded_is : place.folded ≡ (tally_of known).folded

-- it is that of a bookmark
pub record IsPlaceOf (mark : Bookmark) (place : Place) : Type 0 where
  pub gate_is : place.gate ≡ mark.gate
  pub size_is : place.size ≡ mark.tally.size
  pub changes_are : place.changes ≡ mark.tally.changes
  pub folded_is : place.folded ≡ mark.tally.folded
