-- What the frames so far leave, and which frame may come then.
use Rattle.std.specs.Prelude.{◌≡◌, ℕ, ◌+◌, Bool, true, false, List, [], ◌∷◌, sum, nat_le, nat_lt, not, ◌||◌, ◌&&◌}
use Rattle.std.specs.List.{list_all}
use Rattle.segment_core.specs.declared.format.Shape.{Shape}
use Rattle.segment_core.specs.declared.tally.Tally.{Tally}
use Rattle.segment_core.specs.Frame.{Run, Frame, Group, Change, Shrink, Fold}
use Rattle.segment_core.specs.Layout.{IsFrame}
use Rattle.record_core.specs.Limits.{record_limit}

abbrev pub nothing : Tally
nothing = record { size = 0; changes = 0; folded = 0 }

abbrev pub after : Tally → Frame → Tally
after tally (Group lengths bytes) = record { size = tally.size + sum lengths; changes = tally.changes; folded = tally.folded }
after tally (Change runs bytes) = record { size = tally.size; changes = tally.changes + 1; folded = tally.folded }
after tally (Shrink n) = record { size = n; changes = tally.changes; folded = tally.folded }
after tally (Fold count) = record { size = tally.size; changes = tally.changes; folded = count }

abbrev pub tally_from : Tally → List Frame → Tally
tally_from tally [] = tally
tally_from tally (frame ∷ frames) = tally_from (after tally frame) frames

abbrev pub tally_of : List Frame → Tally
tally_of frames = tally_from nothing frames

-- each run begins at or behind the end of the one before
abbrev pub are_ascending : ℕ → List Run → Bool
are_ascending end [] = true
are_ascending end (run ∷ runs) = nat_le end run.start && are_ascending (run.start + run.count) runs

-- the runs end inside a vector of this length
abbrev pub are_inside : ℕ → List Run → Bool
are_inside size runs = list_all (λ run. nat_le (run.start + run.count) size) runs

-- a Change whose runs aren't in order, or overlap
abbrev pub is_disordered : Frame → Bool
is_disordered (Group lengths bytes) = false
is_disordered (Change runs bytes) = not (are_ascending 0 runs)
is_disordered (Shrink n) = false
is_disordered (Fold count) = false

-- a Change outside the vector so far, a Shrink to more than it has
abbrev pub is_outside : Tally → Frame → Bool
is_outside tally (Group lengths bytes) = false
is_outside tally (Change runs bytes) = not (are_inside tally.size runs)
is_outside tally (Shrink n) = nat_lt tally.size n
is_outside tally (Fold count) = false

-- a Shrink while a change is live
abbrev pub is_unfolded : Tally → Frame → Bool
is_unfolded tally (Group lengths bytes) = false
is_unfolded tally (Change runs bytes) = false
is_unfolded tally (Shrink n) = nat_lt tally.folded tally.changes
is_unfolded tally (Fold count) = false

-- a Fold count that falls, or passes the changes so far
abbrev pub is_miscounted : Tally → Frame → Bool
is_miscounted tally (Group lengths bytes) = false
is_miscounted tally (Change runs bytes) = false
is_miscounted tally (Shrink n) = false
is_miscounted tally (Fold count) = nat_lt count tally.folded || nat_lt tally.changes count

-- a Group that brings the records past the limit
abbrev pub is_too_long : Tally → Frame → Bool
is_too_long tally (Group lengths bytes) = nat_lt record_limit (tally.size + sum lengths)
is_too_long tally (Change runs bytes) = false
is_too_long tally (Shrink n) = false
is_too_long tally (Fold count) = false

pub record MayFollow (tally : Tally) (frame : Frame) : Type 0 where
  pub ordered : is_disordered frame ≡ false
  pub inside : is_outside tally frame ≡ false
  pub folded : is_unfolded tally frame ≡ false
  pub counted : is_miscounted tally frame ≡ false
  pub short : is_too_long tally frame ≡ false

-- the frames keep every rule, one after the other
abbrev pub AreLegalFrom : Shape → Tally → List Frame → Type 0
AreLegalFrom shape tally [] = Unit {0}
AreLegalFrom shape tally (frame ∷ frames) = IsFrame shape frame × MayFollow tally frame × AreLegalFrom shape (after tally frame) frames

abbrev pub AreLegal : Shape → List Frame → Type 0
AreLegal shape frames = AreLegalFrom shape nothing frames
