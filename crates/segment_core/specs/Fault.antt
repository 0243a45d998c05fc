-- The first fault of an image: the first line that holds of a table, at the end of the longest list of frames
-- that begins the image; past all frames, the least position that has no record.
use Rattle.std.specs.Prelude.{◌≡◌, ℕ, ◌+◌, ◌<◌, Bool, List, [], ◌∷◌, ◌++◌, length, take, drop, slice_index, Option, Some, None, IsSome, MatchOption, codes, nat_le, nat_lt, not, ◌==◌, ◌&&◌, ◌||◌}
use Rattle.std.specs.Prelude.{if◌then◌else◌, nat_eq, ◌⊎◌}
use Rattle.std.specs.List.{starts_with}
use Rattle.std.specs.Int.{w16, from_le_bytes}
use Rattle.record_core.specs.Bytes.{Encoding}
use Rattle.segment_core.specs.declared.fault.Cause.{Cause}
use Rattle.segment_core.specs.declared.fault.Cause.TheVariants.{NoGate, ShortFrame, Kind, TooLarge, Layout, Runs, Range, Unfolded, FoldCount, TooLong, BadRecord}
use Rattle.segment_core.specs.declared.fault.ScanFault.{ScanFault}
use Rattle.segment_core.specs.declared.fault.ScanFault.TheVariants.{Unborn, NotSegment, Version, Width, Damaged, Memory}
use Rattle.segment_core.specs.declared.format.Format.{Format}
use Rattle.segment_core.specs.declared.format.Shape.{Shape}
use Rattle.segment_core.specs.Shape.{limit_of, shape_of, format_in}
use Rattle.segment_core.specs.Frame.{Frame, text, open_gate, header_len, frame_head_len}
use Rattle.segment_core.specs.Layout.{u32_at, is_layout, frame_in}
use Rattle.segment_core.specs.declared.tally.Tally.{Tally}
use Rattle.segment_core.specs.Tally.{tally_of, is_disordered, is_outside, is_unfolded, is_miscounted, is_too_long}
use Rattle.segment_core.specs.Image.{IsLongest}
use Rattle.segment_core.specs.Vector.{place_of, record_at}

-- what is answered at the first test that holds
abbrev pub first_line : List (Bool × ScanFault) → Option ScanFault
first_line [] = None
first_line (line ∷ lines) = if line.0 then Some line.1 else first_line lines

abbrev pub damaged : ℕ → Cause → ScanFault
damaged at cause = Damaged at cause

-- a version that is read
abbrev pub is_version : ℕ → Bool
is_version byte = byte == 1 || byte == 2

-- the header, from its first byte on
unfoldable pub header_lines : ℕ → List ℕ → List (Bool × ScanFault)
header_lines width image =
    (nat_le (length image) 1 || not (slice_index image 0 == open_gate), Unborn)
    ∷ (nat_lt (length image) header_len || not (starts_with nat_eq (drop 1 image) (codes "CVECSEG")), NotSegment)
    ∷ (not (is_version (slice_index image 8)), Version (slice_index image 8))
    ∷ (not (from_le_bytes w16 (take 2 (drop 9 image)) == width), Width (from_le_bytes w16 (take 2 (drop 9 image))))
    ∷ []

abbrev pub header_fault : ℕ → List ℕ → Option ScanFault
header_fault width image = first_line (header_lines width image)

-- the fault that a header has, whatever the width of the records
abbrev pub IsHeaderFault : List ℕ → ScanFault → Type 0
IsHeaderFault image fault = (width : ℕ) → 0 < width → header_fault width image ≡ Some fault

-- the header is sound, and names this format
pub record IsSound (width : ℕ) (format : Format) (image : List ℕ) : Type 0 where
  pub no_fault : header_fault width image ≡ None
  pub names : format_in image ≡ format

-- the fields of the frame that begins these bytes
abbrev pub kind_in : List ℕ → ℕ
kind_in bytes = slice_index bytes 1

abbrev pub payload_len_in : List ℕ → ℕ
payload_len_in bytes = u32_at bytes 2

abbrev pub payload_in : List ℕ → List ℕ
payload_in bytes = take (payload_len_in bytes) (drop frame_head_len bytes)

-- the byte of a kind of frame
abbrev pub is_kind : ℕ → Bool
is_kind byte = nat_lt 0 byte && nat_lt byte 5

-- the frame at p by itself, where bytes is the image from p on
unfoldable pub frame_lines : Shape → ℕ → List ℕ → List (Bool × ScanFault)
frame_lines shape p bytes =
    (length bytes == 0, damaged p NoGate)
    ∷ (nat_lt (length bytes) frame_head_len, damaged p ShortFrame)
    ∷ (not (is_kind (kind_in bytes)), damaged (p + 1) (Kind (kind_in bytes)))
    ∷ (nat_lt (limit_of shape.format) (payload_len_in bytes), damaged (p + 2) TooLarge)
    ∷ (nat_lt (length bytes) (frame_head_len + payload_len_in bytes), damaged p ShortFrame)
    ∷ (not (is_layout shape (kind_in bytes) (payload_in bytes)), damaged (p + frame_head_len) Layout)
    ∷ []

-- the frame at p after those before it
unfoldable pub order_lines : ℕ → Tally → Frame → List (Bool × ScanFault)
order_lines p tally frame =
    (is_disordered frame, damaged (p + frame_head_len) Runs)
    ∷ (is_outside tally frame, damaged (p + frame_head_len) Range)
    ∷ (is_unfolded tally frame, damaged p Unfolded)
    ∷ (is_miscounted tally frame, damaged (p + frame_head_len) FoldCount)
    ∷ (is_too_long tally frame, damaged (p + frame_head_len) TooLong)
    ∷ []

-- a gate that is there and isn't open
abbrev pub is_closed : List ℕ → Bool
is_closed bytes = nat_lt 0 (length bytes) && not (slice_index bytes 0 == open_gate)

-- what is wrong at p: nothing where a closed gate ends the frames
unfoldable pub frame_fault : Shape → ℕ → Tally → List ℕ → Option ScanFault
frame_fault shape p tally bytes =
    if is_closed bytes then None else first_line (frame_lines shape p bytes ++ order_lines p tally (frame_in shape (kind_in bytes) (payload_in bytes)))

-- position i is the least that has no record
pub record IsLeastBad {R : Type 0} (format : Format) (form : Encoding R) (image : List ℕ) (frames : List Frame) (i : ℕ) : Type 0 where
  pub inside : i < (tally_of frames).size
  pub bad : record_at format form image frames i ≡ None
  pub before : (k : ℕ) → k < i → IsSome (record_at format form image frames k)

abbrev pub IsBadRecord : {R : Type 0} → Format → Encoding R → List ℕ → List Frame → ScanFault → Type 0
IsBadRecord format form image frames fault =
    (i : ℕ) × (place : ℕ) × IsLeastBad format form image frames i × (place_of (shape_of format form) frames i ≡ Some place) × (fault ≡ damaged place BadRecord)

-- the fault at the end of these frames
abbrev pub EndsWith : {R : Type 0} → Format → Encoding R → List ℕ → List Frame → ScanFault → Type 0
EndsWith format form image frames fault =
    let shape = shape_of format form in
    let p = length (text shape frames) in
    MatchOption (frame_fault shape p (tally_of frames) (drop p image)) (IsBadRecord format form image frames fault) (λ first. fault ≡ first)

-- the fault behind a sound header, which names the format
abbrev pub IsFrameFault : {R : Type 0} → Format → Encoding R → List ℕ → ScanFault → Type 0
IsFrameFault format form image fault = (frames : List Frame) × IsLongest (shape_of format form) image frames × EndsWith format form image frames fault

abbrev pub IsFirstFault : {R : Type 0} → Encoding R → List ℕ → ScanFault → Type 0
IsFirstFault form image fault = MatchOption (header_fault form.width image) (IsFrameFault (format_in image) form image fault) (λ first. fault ≡ first)

-- what a scan may answer in place of the image's vector: its first fault, or, once the header is read, that
-- memory was refused
abbrev pub IsRefused : {R : Type 0} → Encoding R → List ℕ → ScanFault → Type 0
IsRefused form image fault = IsFirstFault form image fault ⊎ ((fault ≡ Memory) × (header_fault form.width image ≡ None))
