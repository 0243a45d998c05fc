-- The fields of a frame, as a reader finds them in the payload.
use Rattle.std.proofs.Common.{◌≡◌, ℕ, ◌+◌, ◌-◌, ◌*◌, ◌/◌, ◌<◌, ◌≤◌, true, false, List, [], ◌∷◌, ◌++◌, length, drop, get_or, Option, Some, None, Ok, Err, refl, sym, ap, subst, ◌∙◌, append_assoc, arith}
use Rattle.std.specs.Prelude.{slice_get, sum, MatchOption, IfSome, IfNone}
use Rattle.std.specs.List.{flat_map}
use Rattle.std.specs.Int.{w32, to_le_bytes}
use Rattle.std.proofs.lemmas.List.{append-nil, drop_at, length-append}
use Rattle.segment_core.specs.declared.frame_head.Unread.{Unread}
use Rattle.segment_core.specs.declared.frame_head.Unread.TheVariants.{Short, Fault}
use Rattle.segment_core.specs.declared.format.Format.{Format}
use Rattle.segment_core.specs.declared.format.Format.TheVariants.{One, Two}
use Rattle.segment_core.specs.declared.format.Shape.{Shape}
use Rattle.segment_core.specs.declared.format.FrameKind.{FrameKind}
use Rattle.segment_core.specs.declared.format.FrameKind.TheVariants as kinds
use Rattle.segment_core.specs.declared.fault.ScanFault.{ScanFault}
use Rattle.segment_core.specs.Shape.{version_of}
use Rattle.segment_core.specs.Frame.{Frame, Group, Change, Shrink, Fold, number_len, runs_len, runs_text, payload_of, frame_text}
use Rattle.segment_core.specs.Kind.{kind_byte}
use Rattle.segment_core.specs.Layout.{u32_at, count_in, lengths_in, run_count_in, runs_in, frame_in, is_group_layout, is_layout}
use Rattle.segment_core.specs.Fault.{first_line, frame_lines, is_closed}
use Rattle.segment_core.specs.Reading.{Seen, IsNext, IsRead, IsShort, BeginsWith, lengths_of, runs_of, record_bytes_of, record_count, head_len}
use Rattle.segment_core.proofs.Numbers.{u32_at-drop, length-numbers_in, get_or-numbers_in, length-numbers_text}
use Rattle.segment_core.proofs.RunRows.{length-runs_text, length-runs_from, run_read, run_read-drop, slice_get-runs_from}
use Rattle.segment_core.proofs.Lines.{frame_lines-frame_text, is_closed-frame_text}

-- where the gate is closed, no frame begins
pub none_behind_closed : (shape : Shape) (bytes : List ℕ) (frame : Frame) → is_closed bytes ≡ true → BeginsWith shape bytes frame → ⊥
none_behind_closed shape bytes frame closed begins =
    let clash : true ≡ false = sym closed ∙ ap is_closed begins.text.1 ∙ is_closed-frame_text shape.format frame begins.text.0 in
    absurd cc

-- nor where a line of the table holds
pub none_where_faulty : (shape : Shape) (p : ℕ) (bytes : List ℕ) (frame : Frame) (fault : ScanFault)
    → first_line (frame_lines shape p bytes) ≡ Some fault → BeginsWith shape bytes frame
    → ⊥
none_where_faulty shape p bytes frame fault some begins =
    let clash : Some fault ≡ None = sym some ∙ ap (λ bs. first_line (frame_lines shape p bs)) begins.text.1 ∙ frame_lines-frame_text shape p frame begins.text.0 begins.whole in
    absurd cc

-- nor past the end
pub none_past_end : (shape : Shape) (bytes : List ℕ) (frame : Frame) → length bytes ≡ 0 → BeginsWith shape bytes frame → ⊥
none_past_end shape bytes frame none begins =
    let clash : 0 ≡ length (frame_text shape.format frame ++ begins.text.0) = sym none ∙ ap length begins.text.1 in
    absurd cc

-- nor where it is cut short
pub none_where_short : (shape : Shape) (p : ℕ) (bytes : List ℕ) (frame : Frame) → 0 < length bytes → IsShort shape p bytes → BeginsWith shape bytes frame → ⊥
none_where_short shape p bytes frame some short begins = none_where_faulty shape p bytes frame _ (short.cut some) begins

-- ---- heads

pub heads_of_group : (shape : Shape) (payload : List ℕ) → length (lengths_of (frame_in shape 1 payload)) ≡ count_in payload
heads_of_group shape payload = length-numbers_in (count_in payload) (drop 4 payload)

pub heads_of_change : (shape : Shape) (payload : List ℕ) → length (runs_of (frame_in shape 2 payload)) ≡ run_count_in shape.format payload
heads_of_change shape payload = length-runs_from shape.format _ (run_count_in shape.format payload) (drop (number_len shape.format) payload)

-- the bytes of the records stand behind the head
behind_head : (format : Format) (frame : Frame) → drop (head_len format frame) (payload_of format frame) ≡ record_bytes_of frame
behind_head format (Group lengths bytes) =
    let count : List ℕ = to_le_bytes w32 (length lengths) in
    let numbers : List ℕ = flat_map (to_le_bytes w32) lengths in
    let len : length (count ++ numbers) ≡ 4 + length lengths * 4 = length-append count numbers ∙ ap (λ n. 4 + n) (length-numbers_text lengths) in
    ap (drop (4 + length lengths * 4)) (sym (append_assoc count numbers bytes)) ∙ drop_at (count ++ numbers) bytes (4 + length lengths * 4) len
behind_head format (Change runs bytes) = drop_at (runs_text format runs) bytes (runs_len format (length runs)) (length-runs_text format runs)
behind_head format (Shrink n) = refl
behind_head format (Fold count) = refl

pub area_read : (at : ℕ) (shape : Shape) (heads records : ℕ) (payload : List ℕ) (frame : Frame)
    → IsRead at shape heads records payload frame
    → drop (head_len shape.format frame) payload ≡ record_bytes_of frame
area_read at shape heads records payload frame read = ap (drop (head_len shape.format frame)) (sym read.spelled) ∙ behind_head shape.format frame

pub length_read : (shape : Shape) (payload : List ℕ) (kind : FrameKind) (k : ℕ)
    → k < length (lengths_of (frame_in shape (kind_byte kind) payload))
    → u32_at payload (4 + k * 4) ≡ get_or (lengths_of (frame_in shape (kind_byte kind) payload)) k 0
length_read shape payload kinds.Group k lt =
    let count = heads_of_group shape payload in
    sym (u32_at-drop payload 4 (k * 4)) ∙ sym (get_or-numbers_in (count_in payload) (drop 4 payload) k (omega arith))
length_read shape payload kinds.Change k lt = absurd (omega arith)
length_read shape payload kinds.Shrink k lt = absurd (omega arith)
length_read shape payload kinds.Fold k lt = absurd (omega arith)

-- the run that stands at its place
pub run_found : (shape : Shape) (payload : List ℕ) (k : ℕ) → k < run_count_in shape.format payload
    → slice_get (runs_in shape payload) k ≡ Some (run_read shape.format ((length payload - 8) / shape.width) payload (number_len shape.format + k * (8 + number_len shape.format)))
run_found shape payload k lt =
    let filling : ℕ = (length payload - 8) / shape.width in
    slice_get-runs_from shape.format filling (run_count_in shape.format payload) (drop (number_len shape.format) payload) k lt
    ∙ ap Some (run_read-drop shape.format filling payload (number_len shape.format) (k * (8 + number_len shape.format)))

-- a reader of a change finds its runs in the payload
pub record IsRunOf (shape : Shape) (payload : List ℕ) (frame : Frame) (k : ℕ) : Type 0 where
  pub counted : k < run_count_in shape.format payload
  pub inside : runs_len shape.format (run_count_in shape.format payload) ≤ length payload
  pub runs_are : runs_of frame ≡ runs_in shape payload

pub is_run_of : (at : ℕ) (shape : Shape) (heads records : ℕ) (payload : List ℕ) (kind : FrameKind) (k : ℕ) → IsRead at shape heads records payload (frame_in shape (kind_byte kind) payload)
    → k < length (runs_of (frame_in shape (kind_byte kind) payload)) → IsRunOf shape payload (frame_in shape (kind_byte kind) payload) k
is_run_of at shape heads records payload kinds.Group k read lt = absurd (omega arith)
is_run_of at shape heads records payload kinds.Change k read lt =
    let count = heads_of_change shape payload in
    let sized = read.sized in
    let head : runs_len shape.format (length (runs_of (frame_in shape 2 payload))) ≡ runs_len shape.format (run_count_in shape.format payload) = ap (runs_len shape.format) count in
    record { counted = omega arith; inside = omega arith; runs_are = refl }
is_run_of at shape heads records payload kinds.Shrink k read lt = absurd (omega arith)
is_run_of at shape heads records payload kinds.Fold k read lt = absurd (omega arith)

-- ---- counts

-- what is counted of a payload of this kind, if it has the form of one
abbrev pub CountsAre : Shape → List ℕ → Option (ℕ × ℕ) → FrameKind → Type 0
CountsAre shape payload counts kind = MatchOption counts (is_layout shape (kind_byte kind) payload ≡ false)
    (λ c.
    (is_layout shape (kind_byte kind) payload ≡ true)
    × (c.0 ≡ length (lengths_of (frame_in shape (kind_byte kind) payload)) + length (runs_of (frame_in shape (kind_byte kind) payload)))
    × (c.1 ≡ record_count (frame_in shape (kind_byte kind) payload)))

group_counted : (shape : Shape) (payload : List ℕ) (counts : Option (ℕ × ℕ))
    → MatchOption counts (is_group_layout shape.width payload ≡ false)
    (λ c. (is_group_layout shape.width payload ≡ true) × (c.0 ≡ count_in payload) × (c.1 ≡ sum (lengths_in payload)))
    → CountsAre shape payload counts kinds.Group
group_counted shape payload None m = m
group_counted shape payload (Some c) m = (m.0, (let n = m.1 in let h = heads_of_group shape payload in omega arith), m.2)

pub counted_of_group : (shape : Shape) (payload : List ℕ) (counts : Option (ℕ × ℕ)) (kind : FrameKind)
    → kind ≡ kinds.Group
    → MatchOption counts (is_group_layout shape.width payload ≡ false)
    (λ c. (is_group_layout shape.width payload ≡ true) × (c.0 ≡ count_in payload) × (c.1 ≡ sum (lengths_in payload)))
    → CountsAre shape payload counts kind
counted_of_group shape payload counts kind is m = subst (CountsAre shape payload counts) (sym is) (group_counted shape payload counts m)

-- ---- formats by their versions

pub same_format : (one other : Format) → version_of one ≡ version_of other → one ≡ other
same_format One One is = refl
same_format One Two is = absurd (omega arith)
same_format Two One is = absurd (omega arith)
same_format Two Two is = refl

-- where no frame was read behind an open gate, none is whole
pub none_unread : (shape : Shape) (p : ℕ) (bytes : List ℕ) (frame : Frame) (unread : Unread) → 0 < length bytes → IsNext shape p bytes (Err unread) → BeginsWith shape bytes frame → ⊥
none_unread shape p bytes frame Short some next begins = none_where_short shape p bytes frame some next begins
none_unread shape p bytes frame (Fault fault) some next begins =
    none_where_faulty shape p bytes frame fault (ap (λ (bs : List ℕ). first_line (frame_lines shape p bs)) (sym (append-nil bytes)) ∙ (next []).1) begins

-- ---- the next frame, where its version is known

-- no frame begins where there is no byte
pub none_without_bytes : (shape : Shape) (bytes : List ℕ) (frame : Frame) → length bytes ≡ 0 → BeginsWith shape bytes frame → ⊥
none_without_bytes shape [] frame none begins = let clash = begins.text.1 in absurd cc
none_without_bytes shape (b ∷ bytes) frame none begins = absurd (omega arith)

pub seen_next : (version : ℕ) (shape : Shape) (at : ℕ) (bytes : List ℕ) (frame : Option Seen) → version_of shape.format ≡ version
    → IsNext shape at bytes (Ok frame)
    → IfSome frame (λ seen. (version_of seen.shape.format ≡ version) × (seen.at ≡ at) × (seen.shape.width ≡ shape.width)
    × BeginsWith seen.shape bytes seen.frame)
seen_next version shape at bytes None known next = tt
seen_next version shape at bytes (Some seen) known next = (
  ap (λ s. version_of s.format) next.1 ∙ known,
  next.0,
  ap (λ s. s.width) next.1,
  subst (λ s. BeginsWith s bytes seen.frame) (sym next.1) next.2,
)

pub none_next : (version : ℕ) (shape : Shape) (at : ℕ) (bytes : List ℕ) (frame : Option Seen) → version_of shape.format ≡ version
    → IsNext shape at bytes (Ok frame)
    → IfNone frame ((format : Format) → version_of format ≡ version → (f : Frame)
    → BeginsWith (record { format = format; width = shape.width }) bytes f → ⊥)
none_next version shape at bytes None known next = λ format is f begins.
    none_behind_closed (record { format = format; width = shape.width }) bytes f next begins
none_next version shape at bytes (Some seen) known next = tt
