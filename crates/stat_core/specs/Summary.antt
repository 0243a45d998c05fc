-- The numbers of frames, by what is told of them.
use Rattle.std.specs.Prelude.{ℕ, ◌+◌, ◌≤◌, List, [], ◌∷◌}
use Rattle.segment_core.specs.declared.format.Shape.{Shape}
use Rattle.segment_core.specs.declared.tally.Tally.{Tally}
use Rattle.segment_core.specs.Shape.{version_of}
use Rattle.segment_core.specs.Frame.{Frame, header_len, frame_head_len}
use Rattle.stat_core.specs.declared.outline.Outline.{Outline}
use Rattle.stat_core.specs.declared.outline.Outline.TheVariants.{Group, Change, Shrink, Fold}
use Rattle.stat_core.specs.declared.summary.Summary.{Summary}
use Rattle.stat_core.specs.Outline.{outline_of, outline_len}

-- of no frame, in a file of so many bytes
abbrev pub begun : Shape → ℕ → Summary
begun shape bytes = record {
  version = version_of shape.format;
  width = shape.width;
  bytes = bytes;
  groups = 0;
  changes = 0;
  shrinks = 0;
  folds = 0;
  growths = 0;
  records = 0;
  size = 0;
  folded = 0;
  gate = header_len;
}

-- of one frame more
abbrev pub grown : Shape → Summary → Outline → Summary
grown shape s (Group growths records) = record s {
  groups = s.groups + 1;
  growths = s.growths + growths;
  records = s.records + records;
  size = s.size + records;
  gate = s.gate + frame_head_len + outline_len shape (Group growths records);
}
grown shape s (Change runs records) = record s { changes = s.changes + 1; gate = s.gate + frame_head_len + outline_len shape (Change runs records) }
grown shape s (Shrink n) = record s { shrinks = s.shrinks + 1; size = n; gate = s.gate + frame_head_len + outline_len shape (Shrink n) }
grown shape s (Fold count) = record s { folds = s.folds + 1; folded = count; gate = s.gate + frame_head_len + outline_len shape (Fold count) }

-- of all these, the newest first
abbrev pub summary_of : Shape → ℕ → List Outline → Summary
summary_of shape bytes [] = begun shape bytes
summary_of shape bytes (outline ∷ earlier) = grown shape (summary_of shape bytes earlier) outline

-- of frames, in their order
abbrev pub counted_from : Shape → Summary → List Frame → Summary
counted_from shape s [] = s
counted_from shape s (frame ∷ frames) = counted_from shape (grown shape s (outline_of frame)) frames

abbrev pub summary_of_frames : Shape → ℕ → List Frame → Summary
summary_of_frames shape bytes frames = counted_from shape (begun shape bytes) frames

abbrev pub tally_in : Summary → Tally
tally_in s = record { size = s.size; changes = s.changes; folded = s.folded }

-- each number is small beside the place of the gate
pub record AreFew (s : Summary) : Type 0 where
  pub frames : s.groups + s.changes + s.shrinks + s.folds ≤ s.gate
  pub growths : s.growths ≤ s.gate
  pub records : s.records ≤ s.gate
  pub size : s.size ≤ s.gate
