-- What is told of a file that has frames is told of these.
use Rattle.std.proofs.Common.{◌≡◌, ◌≢◌, ℕ, ◌+◌, ◌*◌, ◌/◌, ◌<◌, Result, Ok, Err, MatchResult, true, false, List, [], ◌∷◌, ◌++◌, length, sum, drop, Some, None, refl, sym, ap, subst, ◌∙◌, append_assoc, arith}
use Rattle.std.specs.Prelude.{not}
use Rattle.std.specs.List.{flat_map}
use Rattle.std.proofs.lemmas.Bool.{ne_eqb, lt-ltb}
use Rattle.std.proofs.lemmas.List.{length-append, drop_at, append-nil}
use Rattle.std.proofs.lemmas.List.Concat.{flat_map-append}
use Rattle.std.proofs.Math.Nat.{mul-div_cancel}
use Rattle.segment_core.specs.declared.fault.ScanFault.{ScanFault}
use Rattle.segment_core.specs.declared.format.Shape.{Shape}
use Rattle.segment_core.specs.declared.tally.Tally.{Tally}
use Rattle.segment_core.specs.Frame.{Frame, Run, header, frame_text, text, payload_of, kind_of, records_of_runs}
use Rattle.segment_core.specs.Frame as frames
use Rattle.segment_core.specs.Image.{HasFrames}
use Rattle.segment_core.specs.Layout.{IsFrame, frame_in, count_in, run_count_in}
use Rattle.segment_core.specs.Reading.{lengths_of, runs_of}
use Rattle.segment_core.specs.Tally.{nothing, after, tally_from, tally_of, MayFollow, AreLegalFrom, AreLegal}
use Rattle.segment_core.specs.Fault.{frame_fault, is_closed, payload_in}
use Rattle.segment_core.proofs.Lines.{is_closed-frame_text, frame_fault-frame_text, frame_fault_closed}
use Rattle.segment_core.proofs.Payload.{length-group_payload, length-change_payload, payload_in-frame_text, payload_len_in-frame_text, small_payload, frame_in-payload_of, length-frame_text}
use Rattle.segment_core.proofs.Header.{header_of_none}
use Rattle.segment_core.proofs.Numbers.{true_both}
use Rattle.segment_core.proofs.OneVector.{sound_header}
use Rattle.segment_core.specs.declared.format.Format.{Format}
use Rattle.segment_core.specs.Fault.{IsSound}
use Rattle.segment_core.proofs.Reader.{heads_of_group, heads_of_change}
use Rattle.stat_core.specs.declared.outline.Outline.{Outline}
use Rattle.stat_core.specs.declared.outline.Outline.TheVariants.{Group, Change, Shrink, Fold}
use Rattle.stat_core.specs.declared.summary.Summary.{Summary}
use Rattle.stat_core.specs.Outline.{IsOutlined, HasNumber, outline_of, outline_kind, outline_len}
use Rattle.stat_core.specs.Summary.{begun, grown, summary_of, counted_from, summary_of_frames, tally_in}
use Rattle.stat_core.specs.Walked.{AreOutlined, Counts, IsSummaryOf, IsStatRefusal, TellsFrames}
use Rattle.stat_core.specs.declared.fault.StatFault.{StatFault}
use Rattle.stat_core.specs.declared.fault.StatFault.TheVariants.{Disk, Header, Frame as FrameFault}
use Rattle.stat_core.proofs.Counted.{grown_gate}

-- ---- one frame

pub length_outlined : (shape : Shape) (frame : Frame) → IsFrame shape frame → outline_len shape (outline_of frame) ≡ length (payload_of shape.format frame)
length_outlined shape (frames.Group lengths bytes) whole = ap (λ n. 4 + length lengths * 4 + n) (sym whole.layout.2) ∙ sym (length-group_payload shape.format lengths bytes)
length_outlined shape (frames.Change runs bytes) whole = ap (λ n. frames.runs_len shape.format (length runs) + n) (sym whole.layout.2) ∙ sym (length-change_payload shape.format runs bytes)
length_outlined shape (frames.Shrink n) whole = refl
length_outlined shape (frames.Fold count) whole = refl

-- the records of the same bytes are as many
same_records : (a b width : ℕ) → 0 < width → a * width ≡ b * width → a ≡ b
same_records a b width wide same = sym (mul-div_cancel a wide) ∙ ap (λ n. n / width) same ∙ mul-div_cancel b wide

abbrev number_of : Frame → ℕ
number_of (frames.Group lengths bytes) = 0
number_of (frames.Change runs bytes) = 0
number_of (frames.Shrink n) = n
number_of (frames.Fold count) = count

-- what is told of a frame's bytes is no other
one_outline : (shape : Shape) (frame : Frame) (outline : Outline) (payload : List ℕ)
    → IsFrame shape frame → payload ≡ payload_of shape.format frame → outline_kind outline ≡ kind_of frame
    → outline_len shape outline ≡ length (payload_of shape.format frame) → HasNumber shape.format payload outline
    → outline ≡ outline_of frame
one_outline shape (frames.Group lengths bytes) (Group growths records) payload whole is kind len number =
    let same : count_in payload ≡ length lengths
    = sym (heads_of_group shape payload)
    ∙ ap (λ f. length (lengths_of f)) (ap (frame_in shape 1) is ∙ frame_in-payload_of shape (frames.Group lengths bytes) whole) in
    let count : growths ≡ length lengths = sym number ∙ same in
    let told = sym (length_outlined shape (frames.Group lengths bytes) whole) in
    let filled : records * shape.width ≡ sum lengths * shape.width = omega (arith, len, told, count) in
    ap (λ n. Group n records) count ∙ ap (Group (length lengths)) (same_records records (sum lengths) shape.width whole.wide filled)
one_outline shape (frames.Change runs bytes) (Change n records) payload whole is kind len number =
    let same : run_count_in shape.format payload ≡ length runs
    = sym (heads_of_change shape payload)
    ∙ ap (λ f. length (runs_of f)) (ap (frame_in shape 2) is ∙ frame_in-payload_of shape (frames.Change runs bytes) whole) in
    let count : n ≡ length runs = sym number ∙ same in
    let told = sym (length_outlined shape (frames.Change runs bytes) whole) in
    let head = ap (λ k. frames.runs_len shape.format k) count in
    let filled : records * shape.width ≡ records_of_runs runs * shape.width = omega (arith, len, told, head) in
    ap (λ k. Change k records) count ∙ ap (Change (length runs)) (same_records records (records_of_runs runs) shape.width whole.wide filled)
one_outline shape (frames.Shrink n) (Shrink m) payload whole is kind len number =
    ap Shrink
    (sym number ∙ ap number_of (ap (frame_in shape 3) is ∙ frame_in-payload_of shape (frames.Shrink n) whole))
one_outline shape (frames.Fold n) (Fold m) payload whole is kind len number = ap Fold (sym number ∙ ap number_of (ap (frame_in shape 4) is ∙ frame_in-payload_of shape (frames.Fold n) whole))
one_outline shape (frames.Group lengths bytes) (Change n records) payload whole is kind len number = absurd (omega arith)
one_outline shape (frames.Group lengths bytes) (Shrink n) payload whole is kind len number = absurd (omega arith)
one_outline shape (frames.Group lengths bytes) (Fold n) payload whole is kind len number = absurd (omega arith)
one_outline shape (frames.Change runs bytes) (Group n records) payload whole is kind len number = absurd (omega arith)
one_outline shape (frames.Change runs bytes) (Shrink n) payload whole is kind len number = absurd (omega arith)
one_outline shape (frames.Change runs bytes) (Fold n) payload whole is kind len number = absurd (omega arith)
one_outline shape (frames.Shrink n) (Group m records) payload whole is kind len number = absurd (omega arith)
one_outline shape (frames.Shrink n) (Change m records) payload whole is kind len number = absurd (omega arith)
one_outline shape (frames.Shrink n) (Fold m) payload whole is kind len number = absurd (omega arith)
one_outline shape (frames.Fold n) (Group m records) payload whole is kind len number = absurd (omega arith)
one_outline shape (frames.Fold n) (Change m records) payload whole is kind len number = absurd (omega arith)
one_outline shape (frames.Fold n) (Shrink m) payload whole is kind len number = absurd (omega arith)

pub told_of_frame : (shape : Shape) (frame : Frame) (rest : List ℕ) (outline : Outline)
    → IsFrame shape frame → IsOutlined shape (frame_text shape.format frame ++ rest) outline
    → outline ≡ outline_of frame
told_of_frame shape frame rest outline whole told =
    let small = small_payload shape frame whole in
    one_outline shape frame outline (payload_in (frame_text shape.format frame ++ rest)) whole
    (payload_in-frame_text shape.format frame rest small) (sym told.kind)
    (sym told.len ∙ payload_len_in-frame_text shape.format frame rest small) told.number

-- ---- all of them

pub counted_push : (shape : Shape) (s : Summary) (done : List Frame) (frame : Frame) → counted_from shape s (done ++ frame ∷ []) ≡ grown shape (counted_from shape s done) (outline_of frame)
counted_push shape s [] frame = refl
counted_push shape s (first ∷ done) frame = counted_push shape (grown shape s (outline_of first)) done frame

pub gate_counted : (shape : Shape) (s : Summary) (tally : Tally) (done : List Frame)
    → AreLegalFrom shape tally done
    → (counted_from shape s done).gate ≡ s.gate + length (flat_map (frame_text shape.format) done)
gate_counted shape s tally [] legal = omega arith
gate_counted shape s tally (frame ∷ done) legal =
    let step = grown_gate shape s (outline_of frame) in
    let len = length_outlined shape frame legal.0 in
    let text_len = length-frame_text shape.format frame in
    let all = length-append (frame_text shape.format frame) (flat_map (frame_text shape.format) done) in
    let more = gate_counted shape (grown shape s (outline_of frame)) (after tally frame) done legal.2 in
    omega (arith, step, len, text_len, all, more)

tally_grown : (shape : Shape) (s : Summary) (frame : Frame) → tally_in (grown shape s (outline_of frame)) ≡ after (tally_in s) frame
tally_grown shape s (frames.Group lengths bytes) = refl
tally_grown shape s (frames.Change runs bytes) = refl
tally_grown shape s (frames.Shrink n) = refl
tally_grown shape s (frames.Fold count) = refl

pub tally_counted : (shape : Shape) (s : Summary) (done : List Frame) → tally_in (counted_from shape s done) ≡ tally_from (tally_in s) done
tally_counted shape s [] = refl
tally_counted shape s (frame ∷ done) = tally_counted shape (grown shape s (outline_of frame)) done ∙ ap (λ t. tally_from t done) (tally_grown shape s frame)

pub legal_split : (shape : Shape) (tally : Tally) (done left : List Frame) → AreLegalFrom shape tally (done ++ left) → AreLegalFrom shape tally done × AreLegalFrom shape (tally_from tally done) left
legal_split shape tally [] left legal = (tt, legal)
legal_split shape tally (frame ∷ done) left legal =
    let rest = legal_split shape (after tally frame) done left legal.2 in
    ((legal.0, legal.1, rest.0), rest.1)

-- the summary counts the first of the frames
record Reached (shape : Shape) (all : List Frame) (bytes : ℕ) (s : Summary) : Type 0 where
  done : List Frame
  left : List Frame
  split : all ≡ done ++ left
  counts : s ≡ summary_of_frames shape bytes done

-- and so what stands at its gate are the others
left_at : (shape : Shape) (image : List ℕ) (all : List Frame) (rest : List ℕ) (s : Summary)
    (r : Reached shape all (length image) s)
    → AreLegal shape all → image ≡ text shape all ++ rest
    → drop s.gate image ≡ flat_map (frame_text shape.format) r.left ++ rest
left_at shape image all rest s r legal is =
    let legal' : AreLegalFrom shape nothing (r.done ++ r.left) = subst (AreLegalFrom shape nothing) r.split legal in
    let parts = legal_split shape nothing r.done r.left legal' in
    let gate : s.gate ≡ 11 + length (flat_map (frame_text shape.format) r.done) = ap (λ t. t.gate) r.counts ∙ gate_counted shape (begun shape (length image)) nothing r.done parts.0 in
    let size : length (text shape r.done) ≡ s.gate = length-append (header shape) (flat_map (frame_text shape.format) r.done) ∙ sym gate in
    let apart : flat_map (frame_text shape.format) (r.done ++ r.left)
    ≡ flat_map (frame_text shape.format) r.done ++ flat_map (frame_text shape.format) r.left
    = flat_map-append (frame_text shape.format) r.done r.left in
    let whole : text shape all ≡ text shape r.done ++ flat_map (frame_text shape.format) r.left
    = ap (text shape) r.split
    ∙ ap (λ (bs : List ℕ). header shape ++ bs) apart
    ∙ sym (append_assoc (header shape) (flat_map (frame_text shape.format) r.done) (flat_map (frame_text shape.format) r.left)) in
    let behind : image ≡ text shape r.done ++ (flat_map (frame_text shape.format) r.left ++ rest)
    = is
    ∙ ap (λ (bs : List ℕ). bs ++ rest) whole
    ∙ append_assoc (text shape r.done) (flat_map (frame_text shape.format) r.left) rest in
    ap (drop s.gate) behind ∙ drop_at (text shape r.done) (flat_map (frame_text shape.format) r.left ++ rest) s.gate size

-- a closed gate alone
closed_alone : (gate : ℕ) (rest : List ℕ) → gate ≢ 1 → is_closed (gate ∷ rest) ≡ true
closed_alone gate rest other = true_both _ _ (lt-ltb 0 (length (gate ∷ rest)) (omega arith)) (ap not (ne_eqb gate 1 other))

-- one frame more
step : (shape : Shape) (image : List ℕ) (all : List Frame) (rest : List ℕ) (s : Summary) (outline : Outline)
    (done left : List Frame)
    → is_closed rest ≡ true → AreLegal shape all → all ≡ done ++ left
    → s ≡ summary_of_frames shape (length image) done
    → drop s.gate image ≡ flat_map (frame_text shape.format) left ++ rest
    → IsOutlined shape (drop s.gate image) outline → Reached shape all (length image) (grown shape s outline)
step shape image all rest s outline done [] closed legal split counts at told =
    let clash : true ≡ false = sym (ap is_closed at ∙ closed) ∙ told.opened in
    absurd cc
step shape image all rest s outline done (frame ∷ left) closed legal split counts at told =
    let parts = legal_split shape nothing done (frame ∷ left) (subst (AreLegalFrom shape nothing) split legal) in
    let others : List ℕ = flat_map (frame_text shape.format) left ++ rest in
    let here : drop s.gate image ≡ frame_text shape.format frame ++ others = at ∙ append_assoc (frame_text shape.format frame) (flat_map (frame_text shape.format) left) rest in
    let is : outline ≡ outline_of frame = told_of_frame shape frame others outline parts.1.0 (subst (λ (bs : List ℕ). IsOutlined shape bs outline) here told) in
    record {
      done = done ++ frame ∷ [];
      left = left;
      split = split ∙ sym (append_assoc done (frame ∷ []) left);
      counts = ap (grown shape s) is ∙ ap (λ t. grown shape t (outline_of frame)) counts ∙ sym (counted_push shape (begun shape (length image)) done frame);
    }

reached : (shape : Shape) (image : List ℕ) (all : List Frame) (rest : List ℕ)
    → is_closed rest ≡ true → AreLegal shape all → image ≡ text shape all ++ rest → (outlines : List Outline)
    → AreOutlined shape image outlines
    → Reached shape all (length image) (summary_of shape (length image) outlines)
reached shape image all rest closed legal is [] stand = record { done = []; left = all; split = refl; counts = refl }
reached shape image all rest closed legal is (outline ∷ earlier) stand =
    let s : Summary = summary_of shape (length image) earlier in
    let r = reached shape image all rest closed legal is earlier stand.2 in
    step shape image all rest s outline r.done r.left closed legal r.split r.counts (left_at shape image all rest s r legal is) stand.0

-- at a closed gate all frames are counted
all_done : (shape : Shape) (image : List ℕ) (all : List Frame) (rest : List ℕ) (s : Summary) (done left : List Frame)
    → all ≡ done ++ left → s ≡ summary_of_frames shape (length image) done
    → drop s.gate image ≡ flat_map (frame_text shape.format) left ++ rest → is_closed (drop s.gate image) ≡ true
    → s ≡ summary_of_frames shape (length image) all
all_done shape image all rest s done [] split counts at closed = counts ∙ ap (summary_of_frames shape (length image)) (sym (split ∙ append-nil done))
all_done shape image all rest s done (frame ∷ left) split counts at closed =
    let opened : is_closed (drop s.gate image) ≡ false
    = ap is_closed (at ∙ append_assoc (frame_text shape.format frame) (flat_map (frame_text shape.format) left) rest)
    ∙ is_closed-frame_text shape.format frame (flat_map (frame_text shape.format) left ++ rest) in
    let clash : true ≡ false = sym closed ∙ opened in
    absurd cc

-- and no frame of them has a fault
none_faulty : (shape : Shape) (image : List ℕ) (all : List Frame) (rest : List ℕ) (s : Summary) (fault : ScanFault)
    (done left : List Frame)
    → is_closed rest ≡ true → AreLegal shape all → all ≡ done ++ left
    → s ≡ summary_of_frames shape (length image) done
    → drop s.gate image ≡ flat_map (frame_text shape.format) left ++ rest
    → frame_fault shape s.gate (tally_in s) (drop s.gate image) ≡ Some fault → ⊥
none_faulty shape image all rest s fault done [] closed legal split counts at some =
    let none : frame_fault shape s.gate (tally_in s) (drop s.gate image) ≡ None = frame_fault_closed shape s.gate (tally_in s) (drop s.gate image) (ap is_closed at ∙ closed) in
    let clash : Some fault ≡ None = sym some ∙ none in
    absurd cc
none_faulty shape image all rest s fault done (frame ∷ left) closed legal split counts at some =
    let parts = legal_split shape nothing done (frame ∷ left) (subst (AreLegalFrom shape nothing) split legal) in
    let tally : tally_in s ≡ tally_of done = ap tally_in counts ∙ tally_counted shape (begun shape (length image)) done in
    let may : MayFollow (tally_in s) frame = subst (λ t. MayFollow t frame) (sym tally) parts.1.1 in
    let others : List ℕ = flat_map (frame_text shape.format) left ++ rest in
    let here : drop s.gate image ≡ frame_text shape.format frame ++ others = at ∙ append_assoc (frame_text shape.format frame) (flat_map (frame_text shape.format) left) rest in
    let none : frame_fault shape s.gate (tally_in s) (drop s.gate image) ≡ None
    = ap (frame_fault shape s.gate (tally_in s)) here
    ∙ frame_fault-frame_text shape s.gate (tally_in s) frame others parts.1.0 may in
    let clash : Some fault ≡ None = sym some ∙ none in
    absurd cc

counted : (shape : Shape) (image : List ℕ) (all : List Frame) (s : Summary) → HasFrames shape image all → Counts shape image s → Reached shape all (length image) s
counted shape image all s has counts =
    let gate = has.closed in
    subst (Reached shape all (length image)) (sym counts.are) (reached shape image all (gate.0 ∷ gate.1) (closed_alone gate.0 gate.1 gate.2) has.legal gate.3 counts.outlines counts.stand)

told_all : (shape : Shape) (image : List ℕ) (all : List Frame) (s : Summary)
    → HasFrames shape image all → Counts shape image s → is_closed (drop s.gate image) ≡ true
    → s ≡ summary_of_frames shape (length image) all
told_all shape image all s has counts closed =
    let gate = has.closed in
    let r = counted shape image all s has counts in
    all_done shape image all (gate.0 ∷ gate.1) s r.done r.left r.split r.counts (left_at shape image all (gate.0 ∷ gate.1) s r has.legal gate.3) closed

sound_all : (shape : Shape) (image : List ℕ) (all : List Frame) (s : Summary) (fault : ScanFault)
    → HasFrames shape image all → Counts shape image s
    → frame_fault shape s.gate (tally_in s) (drop s.gate image) ≡ Some fault
    → ⊥
sound_all shape image all s fault has counts some =
    let gate = has.closed in
    let r = counted shape image all s has counts in
    none_faulty shape image all (gate.0 ∷ gate.1) s fault r.done r.left (closed_alone gate.0 gate.1 gate.2) has.legal
    r.split r.counts (left_at shape image all (gate.0 ∷ gate.1) s r has.legal gate.3) some

-- a header tells one shape
one_shape : (a b : Shape) (image : List ℕ) → IsSound a.width a.format image → IsSound b.width b.format image → a ≡ b
one_shape a b image p q =
    let first = header_of_none a.width image p.no_fault in
    let second = header_of_none b.width image q.no_fault in
    let width : a.width ≡ b.width = sym first.wide ∙ second.wide in
    let format : a.format ≡ b.format = sym p.names ∙ q.names in
    ap (λ w. shape_at a.format w) width ∙ ap (λ f. shape_at f b.width) format
  where
    shape_at : Format → ℕ → Shape
    shape_at format width = record { format = format; width = width }

-- the answer of a file that has frames
pub answer_of_frames : (image : List ℕ) (result : Result Summary StatFault) → MatchResult result (IsSummaryOf image) (IsStatRefusal image) → TellsFrames image result
answer_of_frames image (Ok s) is = λ shape all wide small has.
    let sound = sound_header shape.format shape.width image all small has in
    let same = one_shape is.shape shape image is.sound sound in
    told_all shape image all s has (subst (λ h. Counts h image s) same is.counts) is.closed
answer_of_frames image (Err (Disk fault)) is = tt
answer_of_frames image (Err (Header fault)) is = λ shape all wide small has.
    let sound = sound_header shape.format shape.width image all small has in
    let clash : Some fault ≡ None = sym (is shape.width wide) ∙ sound.no_fault in
    absurd cc
answer_of_frames image (Err (FrameFault fault s)) is = λ shape all wide small has.
    let sound = sound_header shape.format shape.width image all small has in
    let same = one_shape is.shape shape image is.sound sound in
    absurd (sound_all shape image all s fault has (subst (λ h. Counts h image s) same is.counts) (subst (λ h. frame_fault h s.gate (tally_in s) (drop s.gate image) ≡ Some fault) same is.fails))
