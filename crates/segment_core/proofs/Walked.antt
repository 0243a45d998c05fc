-- What a walk over an image keeps from frame to frame, and what it knows where it ends.
use Rattle.std.proofs.Common.{◌≡◌, ◌≢◌, ℕ, ◌+◌, ◌*◌, ◌^◌, ◌≤◌, ◌<◌, true, false, List, [], ◌∷◌, ◌++◌, length, drop, Some, refl, sym, ap, subst, ◌∙◌, append_assoc, arith}
use Rattle.std.specs.Prelude.{not, nat_lt, ◌==◌}
use Rattle.std.specs.List.{flat_map}
use Rattle.std.proofs.lemmas.List.{append-nil, drop_at, length-append, length-drop, length_push}
use Rattle.record_core.specs.Bytes.{Encoding}
use Rattle.segment_core.specs.declared.fault.ScanFault.{ScanFault}
use Rattle.segment_core.specs.declared.format.Format.{Format}
use Rattle.segment_core.specs.declared.format.Shape.{Shape}
use Rattle.segment_core.specs.declared.tally.Tally.{Tally}
use Rattle.segment_core.specs.declared.walk.Walk.{Walk}
use Rattle.segment_core.specs.Frame.{Frame, Group, Change, Shrink, Fold, header, frame_text, text}
use Rattle.segment_core.specs.Layout.{IsFrame}
use Rattle.segment_core.specs.Tally.{nothing, after, tally_of, MayFollow, AreLegal}
use Rattle.segment_core.specs.Image.{HasFrames}
use Rattle.segment_core.specs.Fault.{first_line, order_lines, frame_fault, is_closed}
use Rattle.segment_core.specs.Reading.{Seen, BeginsWith, IsFaulty}
use Rattle.segment_core.specs.Found.{IsFound, StandsNext}
use Rattle.segment_core.specs.Walk.{IsBehind, StandsBefore, IsFaultOf}
use Rattle.segment_core.proofs.Numbers.{both_true}
use Rattle.segment_core.proofs.Payload.{length-frame_text}
use Rattle.segment_core.proofs.Lines.{frame_fault_from_lines, frame_fault_from_order}
use Rattle.segment_core.proofs.Longest.{NoFrame_fault, is_longest}
use Rattle.segment_core.proofs.Push.{text_push, length-text, tally_from_push, AreLegalFrom_push}

pub behind_none : {R : Type 0} (form : Encoding R) (walk : Walk R)
    → 0 < form.width → walk.shape.width ≡ form.width → walk.at ≡ 11 → walk.frames ≡ 0 → walk.tally ≡ nothing
    → IsFound form walk.shape.format [] walk.found
    → IsBehind form [] walk
behind_none form walk wide same at frames tally found = record {
  wide = wide;
  width_is = same;
  legal = tt;
  at_end = at ∙ ap length (sym (append-nil (header walk.shape)));
  frames_are = frames;
  tally_is = tally;
  few = omega arith;
  found = found;
}

pub frames_are_long : (format : Format) (frames : List Frame) → length frames * 6 ≤ length (flat_map (frame_text format) frames)
frames_are_long format [] = omega arith
frames_are_long format (frame ∷ frames) =
    let more = frames_are_long format frames in
    let a = length-append (frame_text format frame) (flat_map (frame_text format) frames) in
    let b = length-frame_text format frame in
    omega arith

pub few_frames : {R : Type 0} (form : Encoding R) (frames : List Frame) (walk : Walk R) → IsBehind form frames walk → walk.frames * 6 < walk.at
few_frames form frames walk behind =
    let few = frames_are_long walk.shape.format frames in
    let len = length-text walk.shape frames in
    let at = behind.at_end in
    let n = behind.frames_are in
    omega arith

pub few_changes : {R : Type 0} (form : Encoding R) (frames : List Frame) (walk : Walk R) → IsBehind form frames walk → walk.tally.changes ≤ walk.frames
few_changes form frames walk behind =
    let few = behind.few in
    let n = behind.frames_are in
    let t = ap (λ (t : Tally). t.changes) behind.tally_is in
    omega arith

pub sound_size : {R : Type 0} (form : Encoding R) (frames : List Frame) (walk : Walk R) → IsBehind form frames walk → walk.tally.size ≤ 2 ^ 32
sound_size form frames walk behind =
    let small = behind.found.small in
    let t = ap (λ (t : Tally). t.size) behind.tally_is in
    omega arith

pub stands_next : {R : Type 0} (form : Encoding R) (frames : List Frame) (walk : Walk R) (seen : Seen)
    → IsBehind form frames walk → seen.at ≡ walk.at → seen.shape ≡ walk.shape → IsFrame walk.shape seen.frame
    → MayFollow walk.tally seen.frame
    → StandsNext form frames walk.found seen
stands_next form frames walk seen behind at same whole may = record {
  behind = subst (λ (s : Shape). IsFound form s.format frames walk.found) (sym same) behind.found;
  wide = ap (λ (s : Shape). s.width) same ∙ behind.width_is;
  here = at ∙ behind.at_end ∙ ap (λ (s : Shape). length (text s frames)) (sym same);
  whole = subst (λ s. IsFrame s seen.frame) (sym same) whole;
  may = subst (λ t. MayFollow t seen.frame) behind.tally_is may;
}

pub few_more : (tally : Tally) (frame : Frame) (n : ℕ) → tally.changes ≤ n → (after tally frame).changes ≤ n + 1
few_more tally (Group lengths bytes) n le = omega arith
few_more tally (Change runs bytes) n le = omega arith
few_more tally (Shrink m) n le = omega arith
few_more tally (Fold count) n le = omega arith

-- one frame further
pub record IsStep {R : Type 0} (form : Encoding R) (frames : List Frame) (frame : Frame) (old new : Walk R) : Type 0 where
  pub shape_is : new.shape ≡ old.shape
  pub at_is : new.at ≡ old.at + length (frame_text old.shape.format frame)
  pub one_more : new.frames ≡ old.frames + 1
  pub tally_is : new.tally ≡ after old.tally frame
  pub found : IsFound form old.shape.format (frames ++ frame ∷ []) new.found

pub behind_more : {R : Type 0} (form : Encoding R) (frames : List Frame) (frame : Frame) (old new : Walk R)
    → IsBehind form frames old → IsFrame old.shape frame → MayFollow (tally_of frames) frame
    → IsStep form frames frame old new
    → IsBehind form (frames ++ frame ∷ []) new
behind_more form frames frame old new behind whole may step =
    let same = step.shape_is in
    let tally = tally_from_push nothing frames frame in
    let len = ap length (text_push old.shape frames frame) ∙ length-append (text old.shape frames) (frame_text old.shape.format frame) in
    let at = behind.at_end in
    let at' = step.at_is in
    record {
      wide = behind.wide;
      width_is = ap (λ (s : Shape). s.width) same ∙ behind.width_is;
      legal = subst (λ s. AreLegal s (frames ++ frame ∷ [])) (sym same) (AreLegalFrom_push old.shape nothing frames frame behind.legal whole may);
      at_end = (let here : new.at ≡ length (text old.shape (frames ++ frame ∷ [])) = omega arith in here ∙ ap (λ s. length (text s (frames ++ frame ∷ []))) (sym same));
      frames_are = step.one_more ∙ ap (λ n. n + 1) behind.frames_are ∙ sym (length_push frames frame);
      tally_is = step.tally_is ∙ ap (λ t. after t frame) behind.tally_is ∙ sym tally;
      few = (let few = few_more (tally_of frames) frame (length frames) behind.few in let n = length_push frames frame in let t = ap (λ (t : Tally). t.changes) tally in omega arith);
      found = subst (λ (s : Shape). IsFound form s.format (frames ++ frame ∷ []) new.found) (sym same) step.found;
    }

-- ---- in an image

pub stands_more : {R : Type 0} (form : Encoding R) (image bytes more : List ℕ) (walk : Walk R) → StandsBefore form image bytes walk → StandsBefore form (image ++ more) (bytes ++ more) walk
stands_more form image bytes more walk stands = record {
  frames = stands.frames;
  behind = stands.behind;
  left = ap (λ (bs : List ℕ). bs ++ more) stands.left ∙ append_assoc (text walk.shape stands.frames) bytes more;
}

-- the frame that begins what is left is behind the walk then
pub stands_behind : {R : Type 0} (form : Encoding R) (image bytes : List ℕ) (frame : Frame) (old new : Walk R)
    (stands : StandsBefore form image bytes old)
    → new.shape ≡ old.shape → BeginsWith old.shape bytes frame → IsBehind form (stands.frames ++ frame ∷ []) new
    → (n : ℕ)
    → n ≡ length (frame_text old.shape.format frame)
    → StandsBefore form image (drop n bytes) new
stands_behind form image bytes frame old new stands same begins behind n len =
    let rest : List ℕ = begins.text.0 in
    let left : drop n bytes ≡ rest = ap (drop n) begins.text.1 ∙ drop_at (frame_text old.shape.format frame) rest n (sym len) in
    let whole : image ≡ text old.shape (stands.frames ++ frame ∷ []) ++ rest
    = stands.left
    ∙ ap (λ (bs : List ℕ). text old.shape stands.frames ++ bs) begins.text.1
    ∙ sym (append_assoc (text old.shape stands.frames) (frame_text old.shape.format frame) rest)
    ∙ ap (λ (bs : List ℕ). bs ++ rest) (sym (text_push old.shape stands.frames frame)) in
    record {
      frames = stands.frames ++ frame ∷ [];
      behind = behind;
      left = whole ∙ ap (λ (s : Shape). text s (stands.frames ++ frame ∷ []) ++ rest) (sym same) ∙ ap (λ (bs : List ℕ). text new.shape (stands.frames ++ frame ∷ []) ++ bs) (sym left);
    }

pub closed_gate : (bytes : List ℕ) → is_closed bytes ≡ true → (gate : ℕ) × (rest : List ℕ) × (gate ≢ 1) × (bytes ≡ gate ∷ rest)
closed_gate [] closed = absurd cc
closed_gate (gate ∷ rest) closed =
    let parts = both_true (nat_lt 0 (length (gate ∷ rest))) (not (gate == 1)) closed in
    (gate, rest, λ opened. (let no : not (gate == 1) ≡ false = ap (λ n. not (n == 1)) opened in let clash : true ≡ false = sym parts.1 ∙ no in absurd cc), refl)

pub has_frames : {R : Type 0} (form : Encoding R) (image bytes : List ℕ) (walk : Walk R)
    (stands : StandsBefore form image bytes walk)
    → is_closed bytes ≡ true
    → HasFrames walk.shape image stands.frames
has_frames form image bytes walk stands closed =
    let gate = closed_gate bytes closed in
    record { legal = stands.behind.legal; closed = (gate.0, gate.1, gate.2, stands.left ∙ ap (λ (bs : List ℕ). text walk.shape stands.frames ++ bs) gate.3) }

-- a fault at the end of the frames is that of the image, whatever follows
ends_at : {R : Type 0} (form : Encoding R) (image bytes : List ℕ) (walk : Walk R) (fault : ScanFault)
    → StandsBefore form image bytes walk
    → ((more : List ℕ) (frames : List Frame) → frames ≡ frames → (tally : Tally) → tally ≡ walk.tally → frame_fault walk.shape walk.at tally (bytes ++ more) ≡ Some fault)
    → IsFaultOf walk.shape image fault
ends_at form image bytes walk fault stands found more =
    let shape : Shape = walk.shape in
    let frames : List Frame = stands.frames in
    let behind = stands.behind in
    let rest : List ℕ = bytes ++ more in
    let whole : image ++ more ≡ text shape frames ++ rest = ap (λ (bs : List ℕ). bs ++ more) stands.left ∙ append_assoc (text shape frames) bytes more in
    let left : drop (length (text shape frames)) (image ++ more) ≡ rest = ap (drop (length (text shape frames))) whole ∙ drop_at (text shape frames) rest (length (text shape frames)) refl in
    let some : frame_fault shape (length (text shape frames)) (tally_of frames) rest ≡ Some fault
    = ap (λ n. frame_fault shape n (tally_of frames) rest) (sym behind.at_end)
    ∙ found more frames refl (tally_of frames) (sym behind.tally_is) in (
      frames,
      is_longest shape frames (image ++ more) rest behind.legal whole
          (NoFrame_fault shape (length (text shape frames)) (tally_of frames) rest fault some),
      ap (frame_fault shape (length (text shape frames)) (tally_of frames)) left ∙ some,
    )

pub refused_by_lines : {R : Type 0} (form : Encoding R) (image bytes : List ℕ) (walk : Walk R) (fault : ScanFault)
    → StandsBefore form image bytes walk → IsFaulty walk.shape walk.at bytes fault
    → IsFaultOf walk.shape image fault
refused_by_lines form image bytes walk fault stands faulty =
    ends_at form image bytes walk fault stands (λ more frames e tally t. (let f = faulty more in frame_fault_from_lines walk.shape walk.at tally (bytes ++ more) fault f.0 f.1))

pub refused_by_order : {R : Type 0} (form : Encoding R) (image bytes : List ℕ) (walk : Walk R) (frame : Frame)
    (fault : ScanFault)
    → StandsBefore form image bytes walk → BeginsWith walk.shape bytes frame
    → first_line (order_lines walk.at walk.tally frame) ≡ Some fault
    → IsFaultOf walk.shape image fault
refused_by_order form image bytes walk frame fault stands begins some =
    ends_at form image bytes walk fault stands (λ more frames e tally t. (
    let split : bytes ++ more ≡ frame_text walk.shape.format frame ++ (begins.text.0 ++ more)
    = ap (λ (bs : List ℕ). bs ++ more) begins.text.1
    ∙ append_assoc (frame_text walk.shape.format frame) begins.text.0 more in
    ap (frame_fault walk.shape walk.at tally) split
    ∙ frame_fault_from_order walk.shape walk.at tally frame (begins.text.0 ++ more) fault begins.whole (ap (λ k. first_line (order_lines walk.at k frame)) t ∙ some)))

-- the frames come nearer to the end
pub nearer : (shape : Shape) (bytes : List ℕ) (frame : Frame) (used n : ℕ)
    → BeginsWith shape (drop used bytes) frame → n ≡ length (frame_text shape.format frame)
    → (used + n ≤ length bytes) × (0 < n)
nearer shape bytes frame used n begins len =
    let a = ap length begins.text.1 ∙ length-append (frame_text shape.format frame) begins.text.0 in
    let b = length-drop used bytes in
    let some = length-frame_text shape.format frame in
    (omega arith, omega arith)

pub inside_image : {R : Type 0} (form : Encoding R) (image bytes : List ℕ) (walk : Walk R) → StandsBefore form image bytes walk → walk.at + length bytes ≡ length image
inside_image form image bytes walk stands =
    let len = ap length stands.left ∙ length-append (text walk.shape stands.frames) bytes in
    let at = stands.behind.at_end in
    omega arith
