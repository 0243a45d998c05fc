-- The first bytes of a frame, read behind its open gate, and the gate that is read closed.
use Rattle.std.proofs.Common.{◌≡◌, ℕ, ◌+◌, ◌<◌, ◌≤◌, List, [], ◌∷◌, ◌++◌, length, length-drop, take, drop, Some, Ok, refl, sym, ap, subst, ◌∙◌, arith, append_assoc, length-append, inl, inr}
use Rattle.std.specs.Prelude.{◌-◌, slice_index, slice_range, Option, IfSome, Result, MatchResult}
use Rattle.std.specs.List.{flat_map}
use Rattle.std.proofs.lemmas.List.{append-nil, get_or_append_left, get_or-append-add, get_or-drop, get_or-take, length-take-le, ext_get_or}
use Rattle.std.proofs.lemmas.List.Concat.{flat_map-append}
use Rattle.disk_core.specs.Shared.{WasThere, WereThere, InTurn}
use Rattle.segment_core.specs.declared.fault.ScanFault.{ScanFault}
use Rattle.segment_core.specs.declared.format.Format.{Format}
use Rattle.segment_core.specs.declared.format.Format.TheVariants.{One, Two}
use Rattle.segment_core.specs.declared.format.Shape.{Shape}
use Rattle.segment_core.specs.Frame.{Frame, Run, Group, Change, Shrink, Fold, header, text, frame_text, payload_of, runs_len, open_gate}
use Rattle.segment_core.specs.Layout.{IsFrame, HasRuns}
use Rattle.segment_core.specs.Tally.{nothing, tally_of, MayFollow, AreLegalFrom, AreLegal}
use Rattle.segment_core.proofs.Payload.{length-frame_text, length-group_payload, length-change_payload}
use Rattle.segment_core.proofs.Push.{length-text}
use Rattle.stat_core.specs.declared.summary.Summary.{Summary}
use Rattle.stat_core.specs.Outline.{outline_of}
use Rattle.stat_core.specs.Summary.{grown, summary_of_frames, tally_in}
use Rattle.stat_core.proofs.Counted.{grown_bytes}
use Rattle.stat_core.proofs.OfFrames.{legal_split}
use Rattle.stat_core.proofs.Summed.{gate_of_frames, tally_of_frames, summary_push, with_bytes, frames_with_bytes}
use Rattle.beside_core.specs.MayDiffer.{MayDiffer}
use Rattle.beside_core.specs.PensFile.{IsPensFile}
use Rattle.beside_core.proofs.MayDiffer.{MayDiffer-behind}
use Rattle.follow_core.specs.Beside.{WereOnce}
use Rattle.follow_core.specs.Counted.{CountsFirst, CountsAll, CountsOn}

pub were_there : (held : ℕ → List ℕ) (from to place : ℕ) (bytes : List ℕ) → InTurn held from to place bytes → WereThere held from to place bytes
were_there held from to place bytes read = λ j lt. record {
  moment = read.moments j;
  since = read.since j;
  until = read.until j;
  inside = read.inside j lt;
  stood = read.stood j lt;
}

-- ---- a frame has as many bytes as are looked at, and none of these is written again

long_runs : (format : Format) (runs : List Run) → HasRuns format runs → 8 ≤ runs_len format (length runs)
long_runs One runs has = omega (arith, has)
long_runs Two runs has = omega (arith, has)

long_frame : (shape : Shape) (frame : Frame) → IsFrame shape frame → 14 ≤ length (frame_text shape.format frame)
long_frame shape (Group lengths bytes) whole = omega (arith, whole.layout.0, length-frame_text shape.format (Group lengths bytes), length-group_payload shape.format lengths bytes)
long_frame shape (Change runs bytes) whole = omega (
  arith,
  long_runs shape.format runs whole.layout.0,
  length-frame_text shape.format (Change runs bytes),
  length-change_payload shape.format runs bytes,
)
long_frame shape (Shrink n) whole = let payload : length (payload_of shape.format (Shrink n)) ≡ 8 = refl in omega (arith, payload, length-frame_text shape.format (Shrink n))
long_frame shape (Fold count) whole = let payload : length (payload_of shape.format (Fold count)) ≡ 8 = refl in omega (arith, payload, length-frame_text shape.format (Fold count))

front_firm : (shape : Shape) (size : ℕ) (frame : Frame) (later : List Frame) (j : ℕ) → j < 14 → IsFrame shape frame → MayDiffer shape size (frame ∷ later) j → ⊥
front_firm shape size (Group lengths bytes) later j small whole (inl here) = absurd (omega (arith, here.2, whole.layout.0, small))
front_firm shape size (Change runs bytes) later j small whole (inl here) = absurd here
front_firm shape size (Shrink n) later j small whole (inl here) = absurd here
front_firm shape size (Fold count) later j small whole (inl here) = absurd here
front_firm shape size frame later j small whole (inr there) = absurd (omega (arith, there.0, small, long_frame shape frame whole))

text-append : (shape : Shape) (a b : List Frame) → text shape (a ++ b) ≡ text shape a ++ flat_map (frame_text shape.format) b
text-append shape a b =
    ap (λ (bs : List ℕ). header shape ++ bs) (flat_map-append (frame_text shape.format) a b)
    ∙ sym (append_assoc (header shape) (flat_map (frame_text shape.format) a) (flat_map (frame_text shape.format) b))

module _ (shape : Shape) (held : ℕ → List ℕ) (frames : ℕ → List Frame) (file : IsPensFile shape held frames) (done : List Frame) where
  -- what stood at one moment stands at a later one
  pub still : (s t : ℕ) (rest : List Frame) → s ≤ t → frames s ≡ done ++ rest → (more : List Frame) × (frames t ≡ done ++ (rest ++ more))
  still s t rest le is =
      let grown = file.grows s t le in
      (grown.0, grown.1 ∙ ap (λ (fs : List Frame). fs ++ grown.0) is ∙ append_assoc done rest grown.0)

  parts : (t : ℕ) (frame : Frame) (later : List Frame) → frames t ≡ done ++ frame ∷ later → AreLegal shape done × AreLegalFrom shape (tally_of done) (frame ∷ later)
  parts t frame later is = legal_split shape nothing done (frame ∷ later) (subst (λ fs. AreLegal shape fs) is (file.legal t))

  pub legal_done : (t : ℕ) (rest : List Frame) → frames t ≡ done ++ rest → AreLegal shape done
  legal_done t rest is = (legal_split shape nothing done rest (subst (λ fs. AreLegal shape fs) is (file.legal t))).0

  front_byte : (t j : ℕ) (frame : Frame) (later : List Frame) → frames t ≡ done ++ frame ∷ later → j < 14
      → slice_index (held t) (length (text shape done) + j) ≡ slice_index (frame_text shape.format frame) j
  front_byte t j frame later is small =
      let own = frame_text shape.format frame in
      let rest = flat_map (frame_text shape.format) later in
      let legal : AreLegal shape (done ++ frame ∷ later) = subst (λ fs. AreLegal shape fs) is (file.legal t) in
      let whole = (parts t frame later is).1.0 in
      let long = long_frame shape frame whole in
      let all : length (text shape (frames t)) ≡ length (text shape done) + (length own + length rest) = omega (
        arith,
        ap (λ (fs : List Frame). length (text shape fs)) is,
        ap length (text-append shape done (frame ∷ later)),
        length-append (text shape done) (own ++ rest),
        length-append own rest,
      ) in
      elim (file.stands t (length (text shape done) + j) (omega (arith, all, long, small))) [
        | inl same ↦ (
            same
            ∙ ap (λ (bs : List ℕ). slice_index bs (length (text shape done) + j)) (ap (text shape) is ∙ text-append shape done (frame ∷ later))
            ∙ get_or-append-add (text shape done) (own ++ rest) j 0
            ∙ get_or_append_left own rest 0 j (omega (arith, long, small)))
        | inr differs ↦ (
            let head : length (header shape) ≡ 11 = refl in
            let place : differs.0 ≡ length (flat_map (frame_text shape.format) done) + j = omega (arith, differs.1, length-text shape done, head) in
            let may : MayDiffer shape nothing.size (done ++ frame ∷ later) (length (flat_map (frame_text shape.format) done) + j)
            = subst (λ fs. MayDiffer shape 0 fs (length (flat_map (frame_text shape.format) done) + j)) is (subst (λ i. MayDiffer shape 0 (frames t) i) place differs.2) in
            absurd (front_firm shape (tally_of done).size frame later j small whole (MayDiffer-behind shape nothing done (frame ∷ later) j legal may)))
      ]

  -- an open gate behind frames tells that there is one more
  one_more : (t : ℕ) (rest : List Frame) → frames t ≡ done ++ rest → slice_index (held t) (length (text shape done)) ≡ open_gate
      → (frame : Frame) × (later : List Frame) × (frames t ≡ done ++ frame ∷ later)
  one_more t [] is opened = absurd (file.closed t (ap (λ (fs : List Frame). slice_index (held t) (length (text shape fs))) (is ∙ append-nil done) ∙ opened))
  one_more t (frame ∷ later) is opened = (frame, later, is)

  -- a closed one, that there is none at that moment
  no_more : (t : ℕ) (rest : List Frame) → frames t ≡ done ++ rest → (slice_index (held t) (length (text shape done)) ≡ open_gate → ⊥) → frames t ≡ done
  no_more t [] is not = is ∙ append-nil done
  no_more t (frame ∷ later) is not =
      let first : length (text shape done) ≡ length (text shape done) + 0 = omega arith in
      absurd (not (ap (slice_index (held t)) first ∙ front_byte t 0 frame later is (omega arith)))

  pub opens : (s t gate byte : ℕ) (rest : List Frame) → frames s ≡ done ++ rest → gate ≡ length (text shape done) → WasThere held s t gate byte → byte ≡ open_gate
      → (frame : Frame) × (later : List Frame) × (frames t ≡ done ++ frame ∷ later)
  opens s t gate byte rest is at was opened =
      let there = still s was.moment rest was.since is in
      let one = one_more was.moment (rest ++ there.0) there.1 (ap (slice_index (held was.moment)) (sym at) ∙ sym was.stood ∙ opened) in
      let then = still was.moment t (one.0 ∷ one.1) was.until one.2 in
      (one.0, one.1 ++ then.0, then.1)

  pub shuts : (s t gate byte : ℕ) (rest : List Frame) → frames s ≡ done ++ rest → gate ≡ length (text shape done) → (was : WasThere held s t gate byte) → (byte ≡ open_gate → ⊥)
      → frames was.moment ≡ done
  shuts s t gate byte rest is at was closed =
      let there = still s was.moment rest was.since is in
      no_more was.moment (rest ++ there.0) there.1 (λ opened. closed (was.stood ∙ ap (slice_index (held was.moment)) at ∙ opened))

  -- the front of the frame that stood there was read as it was written
  pub front_same : (s t gate : ℕ) (frame : Frame) (later : List Frame) (front : List ℕ) → frames s ≡ done ++ frame ∷ later → gate ≡ length (text shape done) → length front ≡ 14
      → WereThere held s t gate front → take 14 (frame_text shape.format frame) ≡ front
  front_same s t gate frame later front is at long there =
      let whole = (parts s frame later is).1.0 in
      let own = frame_text shape.format frame in
      sym (ext_get_or 0 front (take 14 own) (long ∙ sym (length-take-le 14 own (long_frame shape frame whole))) (λ j lt. (
      let was = there j lt in
      let then = still s was.moment (frame ∷ later) was.since is in
      was.stood
      ∙ ap (λ p. slice_index (held was.moment) (p + j)) at
      ∙ front_byte was.moment j frame (later ++ then.0) then.1 (omega (arith, lt, long))
      ∙ sym (get_or-take 14 own j 0 (omega (arith, lt, long))))))

-- ---- a summary of the frames so far

-- what counts the first frames of one moment counts those of a later one
pub counts_later : (shape : Shape) (held : ℕ → List ℕ) (frames : ℕ → List Frame) → IsPensFile shape held frames → (s t : ℕ) (summary : Summary) → s ≤ t
    → CountsFirst shape (frames s) summary → CountsFirst shape (frames t) summary
counts_later shape held frames file s t summary le first =
    let then = still shape held frames file first.done s t first.rest le first.are in
    record { done = first.done; rest = first.rest ++ then.0; are = then.1; counts = first.counts }

module _ (shape : Shape) (held : ℕ → List ℕ) (frames : ℕ → List Frame) (file : IsPensFile shape held frames) (s t : ℕ) (summary : Summary) (first : CountsFirst shape (frames s) summary) where
  at : summary.gate ≡ length (text shape first.done)
  at = ap (λ x. x.gate) first.counts ∙ gate_of_frames shape summary.bytes first.done (legal_done shape held frames file first.done s first.rest first.are)

  pub counted_all : (byte : ℕ) → WasThere held s t summary.gate byte → (byte ≡ open_gate → ⊥) → CountsAll shape frames s t summary
  counted_all byte was closed = record {
    moment = was.moment;
    begun = was.since;
    until = was.until;
    counts = first.counts ∙ ap (summary_of_frames shape summary.bytes) (sym (shuts shape held frames file first.done s t summary.gate byte first.rest first.are at was closed));
  }

  module _ (u byte : ℕ) (le : t ≤ u) (was : WasThere held s t summary.gate byte) (opened : byte ≡ open_gate) (front : List ℕ) (long : length front ≡ 14)
      (there : WereThere held t u summary.gate front) where
    one : (frame : Frame) × (later : List Frame) × (frames t ≡ first.done ++ frame ∷ later)
    one = opens shape held frames file first.done s t summary.gate byte first.rest first.are at was opened

    -- it stood when the gate was read
    counted_then : CountsFirst shape (frames t) (grown shape summary (outline_of one.0))
    counted_then = record {
      done = first.done ++ one.0 ∷ [];
      rest = one.1;
      are = one.2 ∙ sym (append_assoc first.done (one.0 ∷ []) one.1);
      counts = ap (λ x. grown shape x (outline_of one.0)) first.counts
          ∙ sym (summary_push shape summary.bytes first.done one.0)
          ∙ ap (λ n. summary_of_frames shape n (first.done ++ one.0 ∷ [])) (sym (grown_bytes shape summary (outline_of one.0)));
    }

    -- what is answered of these bytes
    answered : (result : Result (Option Summary) ScanFault)
        → ((frame : Frame) → IsFrame shape frame → MayFollow (tally_in summary) frame → take 14 (frame_text shape.format frame) ≡ front
        → result ≡ Ok (Some (grown shape summary (outline_of frame)))) → result ≡ Ok (Some (grown shape summary (outline_of one.0)))
    answered result told =
        let legal = (parts shape held frames file first.done t one.0 one.1 one.2).1 in
        let tally : tally_in summary ≡ tally_of first.done = ap tally_in first.counts ∙ tally_of_frames shape summary.bytes first.done in
        told one.0 legal.0 (subst (λ n. MayFollow n one.0) (sym tally) legal.1) (front_same shape held frames file first.done t u summary.gate one.0 one.1 front one.2 at long there)

    pub counted_more : (result : Result (Option Summary) ScanFault)
        → ((frame : Frame) → IsFrame shape frame → MayFollow (tally_in summary) frame → take 14 (frame_text shape.format frame) ≡ front
        → result ≡ Ok (Some (grown shape summary (outline_of frame)))) → MatchResult result (CountsOn shape frames s u summary) (λ _. ⊥)
    counted_more result told =
        subst (λ r. MatchResult r (CountsOn shape frames s u summary) (λ _. ⊥)) (sym (answered result told))
        (counts_later shape held frames file t u (grown shape summary (outline_of one.0)) le counted_then)

    pub counted_next : (result : Result (Option Summary) ScanFault)
        → ((frame : Frame) → IsFrame shape frame → MayFollow (tally_in summary) frame → take 14 (frame_text shape.format frame) ≡ front
        → result ≡ Ok (Some (grown shape summary (outline_of frame)))) → MatchResult result (λ next. IfSome next (CountsFirst shape (frames t))) (λ _. ⊥)
    counted_next result told = subst (λ r. MatchResult r (λ next. IfSome next (CountsFirst shape (frames t))) (λ _. ⊥)) (sym (answered result told)) counted_then

-- ---- a piece that was read at once

module _ (shape : Shape) (held : ℕ → List ℕ) (frames : ℕ → List Frame) (file : IsPensFile shape held frames) (from to start : ℕ) (piece : List ℕ)
    (read : InTurn held from to start piece) (summary : Summary) (behind : start ≤ summary.gate) where
  -- the frame whose first bytes stand in it from the summary's gate on
  pub counted_in_piece : CountsFirst shape (frames (read.moments (summary.gate - start))) summary → (front : List ℕ)
      → front ≡ slice_range piece (summary.gate - start) (summary.gate - start + 14) → summary.gate - start + 14 ≤ length piece → slice_index front 0 ≡ open_gate
      → (result : Result (Option Summary) ScanFault)
      → ((frame : Frame) → IsFrame shape frame → MayFollow (tally_in summary) frame → take 14 (frame_text shape.format frame) ≡ front
      → result ≡ Ok (Some (grown shape summary (outline_of frame))))
      → MatchResult result (λ next. IfSome next (CountsFirst shape (frames (read.moments (summary.gate - start))))) (λ _. ⊥)
  counted_in_piece first front is fits opened result told =
      let j = summary.gate - start in
      let m = read.moments j in
      let long : length front ≡ 14 = ap length is ∙ length-take-le (j + 14 - j) (drop j piece) (omega (arith, fits, length-drop j piece)) ∙ omega arith in
      let byte : (i : ℕ) → i < 14 → slice_index front i ≡ slice_index piece (j + i)
      = λ i lt. ap (λ (bs : List ℕ). slice_index bs i) is ∙ get_or-take (j + 14 - j) (drop j piece) i 0 (omega (arith, lt)) ∙ get_or-drop j piece i 0 in
      let there : WereThere held m to summary.gate front = λ i lt. record {
        moment = read.moments (j + i);
        since = read.ascend j (j + i) (omega arith);
        until = read.until (j + i);
        inside = let inside = read.inside (j + i) (omega (arith, lt, long, fits)) in omega (arith, inside, behind);
        stood = byte i (omega (arith, lt, long)) ∙ read.stood (j + i) (omega (arith, lt, long, fits)) ∙ ap (λ p. slice_index (held (read.moments (j + i))) p) (omega (arith, behind));
      } in
      let was : WasThere held m m summary.gate (slice_index front 0) = record {
        moment = m;
        since = omega arith;
        until = omega arith;
        inside = let inside = read.inside j (omega (arith, fits)) in omega (arith, inside, behind);
        stood = byte 0 (omega arith) ∙ ap (λ p. slice_index piece p) (omega arith) ∙ read.stood j (omega (arith, fits)) ∙ ap (λ p. slice_index (held m) p) (omega (arith, behind));
      } in
      counted_next shape held frames file m m summary first to (slice_index front 0) (read.until j) was opened front long there result told

-- ---- at the end

-- the length of the file is told as that of the frames and their gate
pub counted_ended : (shape : Shape) (frames : ℕ → List Frame) (begin from to : ℕ) (summary : Summary) (bytes : ℕ) → begin ≤ from → CountsAll shape frames from to summary
    → CountsAll shape frames begin to (with_bytes summary bytes)
counted_ended shape frames begin from to summary bytes le all = record {
  moment = all.moment;
  begun = let begun = all.begun in omega (arith, le, begun);
  until = all.until;
  counts = ap (λ x. with_bytes x bytes) all.counts ∙ frames_with_bytes shape summary.bytes bytes (frames all.moment);
}

-- and so it is what is told of them
pub summarized : (shape : Shape) (held : ℕ → List ℕ) (frames : ℕ → List Frame) (from mid to end synced : ℕ) (summary : Summary) → IsPensFile shape held frames → from ≤ mid → to ≤ end → to < synced
    → summary.bytes ≡ summary.gate + 1 → CountsAll shape frames mid to summary
    → WereOnce frames from end synced (λ at. summary ≡ summary_of_frames shape (length (text shape at) + 1) at)
summarized shape held frames from mid to end synced summary file begin over settled ends all =
    let gate : summary.gate ≡ length (text shape (frames all.moment)) = ap (λ x. x.gate) all.counts ∙ gate_of_frames shape summary.bytes (frames all.moment) (file.legal all.moment) in
    let begun = all.begun in
    let until = all.until in
    record {
      moment = all.moment;
      begun = omega (arith, begin, begun);
      until = omega (arith, until, over);
      settled = λ some. omega (arith, until, settled);
      so = all.counts ∙ ap (λ n. summary_of_frames shape n (frames all.moment)) (ends ∙ ap (λ n. n + 1) gate);
    }
