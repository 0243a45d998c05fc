-- A walk over the frames on a disk, step by step.
use Rattle.std.proofs.Common.{◌≡◌, ℕ, ◌+◌, ◌-◌, ◌≤◌, ◌<◌, ◌^◌, inl, inr, true, List, [], ◌∷◌, ◌++◌, length, take, drop, replicate, Some, refl, sym, ap, subst, ◌∙◌, append_assoc, arith}
use Rattle.std.specs.Prelude.{min, slice_range}
use Rattle.std.proofs.lemmas.List.{length-append, length-drop, length-take-le, length-replicate, take-append-drop, drop-append-le, drop-drop, drop_at, take_at, append-nil}
use Rattle.disk_core.specs.State.{State, now, settled, IsImage}
use Rattle.disk_core.specs.Moments.{LeavesOnly}
use Rattle.disk_core.proofs.JoinedMoments.{LeavesOnly-join, LeavesOnly-weaker}
use Rattle.segment_core.specs.declared.format.Shape.{Shape}
use Rattle.segment_core.specs.declared.frame_walk.Framed.{Framed}
use Rattle.segment_core.specs.declared.frame_walk.FrameWalk.{FrameWalk}
use Rattle.segment_core.specs.Frame.{Frame, header, frame_text, text}
use Rattle.segment_core.specs.Tally.{tally_of}
use Rattle.segment_core.specs.Image.{HasFrames}
use Rattle.segment_core.specs.Fault.{IsSound, frame_fault, is_closed}
use Rattle.segment_core.specs.Reading.{BeginsWith}
use Rattle.segment_core.specs.Raw.{raw}
use Rattle.segment_core.specs.FrameWalk.{HasPrefix, HasWalked, IsFramed, IsTaken}
use Rattle.segment_core.proofs.Longest.{NoFrame_fault, is_longest}
use Rattle.segment_core.proofs.Push.{text_push}
use Rattle.segment_core.proofs.Refusals.{refused_by_frame, refused_for_memory}
use Rattle.segment_core.proofs.Walked.{closed_gate}
use Rattle.pen_core.specs.declared.fault.OpenFault.{OpenFault}
use Rattle.pen_core.specs.declared.fault.OpenFault.TheVariants.{Scan, Disk}
use Rattle.pen_core.specs.declared.framing.FilePiece.{FilePiece}
use Rattle.pen_core.specs.Opening.{IsOpenRefusal}
use Rattle.pen_core.specs.Framing.{HoldsPiece, Covers, IsFurther, StopsWalk, IsOnWay, IsThrough, IsFramedOn, IsKnownFile}

-- ---- calls that only read

pub reads_joined : (old mid new : List State) → now mid ≡ now old → LeavesOnly old mid (IsImage (now old)) → LeavesOnly mid new (IsImage (now mid))
    → LeavesOnly old new (IsImage (now old))
reads_joined old mid new same first then =
    LeavesOnly-join old mid new (IsImage (now old)) first
    (LeavesOnly-weaker mid new (IsImage (now mid)) (IsImage (now old)) (λ image left. subst (λ s. IsImage s image) same left) then)

-- ---- a piece

pub piece_same : (keeps : Type 0) (bytes others : List ℕ) (size : ℕ) (piece : FilePiece) → (keeps → bytes ≡ others) → HoldsPiece keeps bytes size piece → HoldsPiece keeps others size piece
piece_same keeps bytes others size piece same holds = record {
  ends = holds.ends;
  is = λ model. holds.is model ∙ ap (λ (bs : List ℕ). slice_range bs piece.start (piece.start + length piece.bytes.items)) (same model);
}

-- what it has from a place on
pub prefix_held : (keeps : Type 0) (bytes : List ℕ) (size at n : ℕ) (piece : FilePiece) → HoldsPiece keeps bytes size piece → Covers at n piece
    → size ≡ length bytes → keeps → HasPrefix (drop (at - piece.start) piece.bytes.items) (size - at) (drop at bytes)
prefix_held keeps bytes size at n piece holds covers long model =
    let m : ℕ = length piece.bytes.items in
    let k : ℕ = at - piece.start in
    let from = covers.from in
    let to = covers.to in
    let ends = holds.ends in
    let behind : List ℕ = drop piece.start bytes in
    let exact : piece.start + m - piece.start ≡ m = omega arith in
    let items : piece.bytes.items ≡ take m behind = holds.is model ∙ ap (λ j. take j behind) exact in
    let parts : behind ≡ piece.bytes.items ++ drop m behind = sym (take-append-drop m behind) ∙ ap (λ (bs : List ℕ). bs ++ drop m behind) (sym items) in
    let place : piece.start + k ≡ at = omega arith in
    record {
      size = length-drop at bytes ∙ omega arith;
      rest = drop m behind;
      is = ap (λ j. drop j bytes) (sym place) ∙ sym (drop-drop k piece.start bytes) ∙ ap (drop k) parts ∙ drop-append-le k piece.bytes.items (drop m behind) (omega arith);
    }

-- ---- one frame further

-- so many bytes: these, as far as they go
abbrev padded : ℕ → List ℕ → List ℕ
padded n bytes = take n (bytes ++ replicate n 0)

length-padded : (n : ℕ) (bytes : List ℕ) → length (padded n bytes) ≡ n
length-padded n bytes =
    let all : length (bytes ++ replicate n 0) ≡ length bytes + n = length-append bytes (replicate n 0) ∙ ap (λ m. length bytes + m) (length-replicate n 0) in
    length-take-le n (bytes ++ replicate n 0) (omega arith)

pub further_by : (keeps : Type 0) (bytes front : List ℕ) (size : ℕ) (old new : FrameWalk)
    → IsTaken old front (size - old.at) new → length front ≤ size - old.at → (keeps → HasPrefix front (size - old.at) (drop old.at bytes))
    → old.at ≤ size → new.shape ≡ old.shape → IsFurther keeps bytes size old new
further_by keeps bytes front size old new taken short held inside same =
    let left : ℕ = size - old.at in
    let stands : List ℕ = padded left (drop old.at bytes) in
    let all : List ℕ = front ++ drop (length front) stands in
    let len = length-padded left (drop old.at bytes) in
    let behind = length-drop (length front) stands in
    let prefix : HasPrefix front left all = record { size = length-append front (drop (length front) stands) ∙ omega arith; rest = drop (length front) stands; is = refl } in
    let as_read : keeps → all ≡ drop old.at bytes = λ model. (
    let there = held model in
    let whole : stands ≡ drop old.at bytes = take_at (drop old.at bytes) (replicate left 0) left there.size in
    ap (λ (bs : List ℕ). front ++ drop (length front) bs) (whole ∙ there.is)
    ∙ ap (λ (bs : List ℕ). front ++ bs) (drop_at front there.rest (length front) refl) ∙ sym there.is) in
    record {
      shape_is = same;
      further = taken.further;
      inside = let to = taken.inside in omega arith;
      walked = λ frames walked. (
          let one = taken.walked frames all walked prefix in
          (one.0, one.2, λ model. subst (λ (bs : List ℕ). BeginsWith old.shape bs one.0) (as_read model) one.1));
    }

pub on_way_more : (keeps later : Type 0) (bytes : List ℕ) (size : ℕ) (old new : FrameWalk) → (later → keeps) → IsOnWay keeps bytes size old → IsFurther later bytes size old new
    → IsOnWay later bytes size new
on_way_more keeps later bytes size old new back on further =
    let one = further.walked on.frames on.walked in
    let frame : Frame = one.0 in
    let next : List Frame = on.frames ++ frame ∷ [] in
    let walked : HasWalked next new = one.1 in
    record {
      frames = next;
      walked = walked;
      inside = further.inside;
      begins = λ model. (
          let begins = one.2 model in
          let rest : List ℕ = begins.text.0 in
          let whole : bytes ≡ text old.shape next ++ rest
          = on.begins (back model)
          ∙ ap (λ (bs : List ℕ). text old.shape on.frames ++ bs) begins.text.1
          ∙ sym (append_assoc (text old.shape on.frames) (frame_text old.shape.format frame) rest)
          ∙ ap (λ (bs : List ℕ). bs ++ rest) (sym (text_push old.shape on.frames frame)) in
          let there : bytes ≡ text new.shape next ++ rest = whole ∙ ap (λ s. text s next ++ rest) (sym further.shape_is) in
          there ∙ ap (λ (bs : List ℕ). text new.shape next ++ bs) (sym (ap (drop new.at) there ∙ drop_at (text new.shape next) rest new.at (sym walked.at_end))));
    }

pub on_way_same : (keeps : Type 0) (bytes others : List ℕ) (size : ℕ) (walk : FrameWalk) → (keeps → bytes ≡ others) → IsOnWay keeps bytes size walk → IsOnWay keeps others size walk
on_way_same keeps bytes others size walk same on = record {
  frames = on.frames;
  walked = on.walked;
  inside = on.inside;
  begins = λ model. subst (λ (bs : List ℕ). bs ≡ text walk.shape on.frames ++ drop walk.at bs) (same model) (on.begins model);
}

pub further_same : (keeps : Type 0) (bytes others : List ℕ) (size : ℕ) (old new : FrameWalk) → (keeps → bytes ≡ others) → IsFurther keeps bytes size old new → IsFurther keeps others size old new
further_same keeps bytes others size old new same further = record {
  shape_is = further.shape_is;
  further = further.further;
  inside = further.inside;
  walked = λ frames walked. (
      let one = further.walked frames walked in
      (one.0, one.1, λ model. subst (λ (bs : List ℕ). BeginsWith old.shape (drop old.at bs) one.0) (same model) (one.2 model)));
}

-- ---- the end

pub through_by : (keeps later : Type 0) (bytes : List ℕ) (size : ℕ) (walk : FrameWalk) → (later → keeps) → IsOnWay keeps bytes size walk
    → (later → is_closed (drop walk.at bytes) ≡ true) → IsThrough later bytes size walk
through_by keeps later bytes size walk back on closed = record {
  frames = on.frames;
  walked = on.walked;
  inside = on.inside;
  framed = λ model. (
      let gate = closed_gate (drop walk.at bytes) (closed model) in
      record {
        legal = on.walked.legal;
        closed = (gate.0, gate.1, gate.2, on.begins (back model) ∙ ap (λ (bs : List ℕ). text walk.shape on.frames ++ bs) gate.3);
      });
}

pub refused_by_stop : (keeps : Type 0) (bytes : List ℕ) (size : ℕ) (walk : FrameWalk) (fault : OpenFault) → keeps → IsOnWay keeps bytes size walk
    → IsSound walk.shape.width walk.shape.format bytes → StopsWalk walk bytes fault → IsOpenRefusal (raw walk.shape.width) bytes fault
refused_by_stop keeps bytes size walk (Disk cause) model on sound stopped = tt
refused_by_stop keeps bytes size walk (Scan fault) model on sound stopped = elim stopped [
  | inr memory ↦ refused_for_memory (raw walk.shape.width) walk.shape.format bytes fault sound memory
  | inl found ↦ (
      let shape : Shape = walk.shape in
      let frames : List Frame = on.frames in
      let p : ℕ = length (text shape frames) in
      let here : walk.at ≡ p = on.walked.at_end in
      let some : frame_fault shape p (tally_of frames) (drop p bytes) ≡ Some fault
      = ap (λ n. frame_fault shape n (tally_of frames) (drop n bytes)) (sym here)
      ∙ ap (λ t. frame_fault shape walk.at t (drop walk.at bytes)) (sym on.walked.tally_is) ∙ found in
      let begins : bytes ≡ text shape frames ++ drop p bytes = on.begins model ∙ ap (λ n. text shape frames ++ drop n bytes) here in
      refused_by_frame (raw shape.width) shape.format bytes frames fault sound
      (is_longest shape frames bytes (drop p bytes) on.walked.legal begins (NoFrame_fault shape p (tally_of frames) (drop p bytes) fault some)) some)
]

-- ---- what is shown of the piece

-- the front that is shown of the frame at a place
pub record IsFrontOfPiece (size at n : ℕ) (piece : FilePiece) (front : List ℕ) : Type 0 where
  pub is : front ≡ drop (at - piece.start) piece.bytes.items
  pub short : length front ≤ size - at
  pub long : n ≤ length front

pub front_of_piece : (keeps : Type 0) (bytes : List ℕ) (size at n : ℕ) (piece : FilePiece) (front : List ℕ) → HoldsPiece keeps bytes size piece → Covers at n piece
    → front ≡ drop (at - piece.start) piece.bytes.items → IsFrontOfPiece size at n piece front
front_of_piece keeps bytes size at n piece front holds covers is =
    let len = ap length is ∙ length-drop (at - piece.start) piece.bytes.items in
    let from = covers.from in
    let to = covers.to in
    let ends = holds.ends in
    record { is = is; short = omega arith; long = omega arith }

pub prefix_shown : (keeps : Type 0) (bytes : List ℕ) (size at n place : ℕ) (piece : FilePiece) (front : List ℕ) → HoldsPiece keeps bytes size piece → Covers at n piece
    → front ≡ drop (at - piece.start) piece.bytes.items → at ≡ place → (keeps → size ≡ length bytes) → keeps → HasPrefix front (size - at) (drop place bytes)
prefix_shown keeps bytes size at n place piece front holds covers is here long model =
    subst (λ p. HasPrefix front (size - at) (drop p bytes)) here
    (subst (λ (f : List ℕ). HasPrefix f (size - at) (drop at bytes)) (sym is) (prefix_held keeps bytes size at n piece holds covers (long model) model))

-- one frame was taken in of what is shown
pub further_shown : (keeps : Type 0) (bytes : List ℕ) (size at n : ℕ) (piece : FilePiece) {front : List ℕ} {was : FrameWalk} (old new : FrameWalk)
    → IsTaken was front (size - at) new → was ≡ old → at ≡ old.at → old.at ≤ size → new.shape ≡ was.shape
    → HoldsPiece keeps bytes size piece → Covers at n piece → front ≡ drop (at - piece.start) piece.bytes.items → (keeps → size ≡ length bytes)
    → IsFurther keeps bytes size old new
further_shown keeps bytes size at n piece {front} {was} old new taken same here inside shape holds covers is long =
    let shown = front_of_piece keeps bytes size at n piece front holds covers is in
    let short = shown.short in
    further_by keeps bytes front size old new
    (subst (λ a. IsTaken old front (size - a) new) here (subst (λ w. IsTaken w front (size - at) new) same taken))
    (omega arith)
    (λ model. subst (λ a. HasPrefix front (size - a) (drop old.at bytes)) here (prefix_shown keeps bytes size at n old.at piece front holds covers is here long model))
    inside (shape ∙ ap (λ w. w.shape) same)

-- ---- the header

-- the first bytes, as they are read into a buffer
pub header_shown : (keeps : Type 0) (bytes out zeros : List ℕ) (n size : ℕ) → n ≡ min 11 size → n ≤ length zeros → length out ≡ length (take n zeros) → size ≡ length bytes
    → out ≡ slice_range bytes 0 (0 + length (take n zeros)) → HasPrefix (take n (out ++ drop n zeros)) size bytes
header_shown keeps bytes out zeros n size is few same long read =
    let m = length-take-le n zeros few in
    let exact : 0 + length (take n zeros) - 0 ≡ n = omega arith in
    let out_is : out ≡ take n bytes = read ∙ ap (λ j. take j bytes) exact in
    let shown : take n (out ++ drop n zeros) ≡ take n bytes = take_at out (drop n zeros) n (same ∙ m) ∙ out_is in
    record { size = sym long; rest = drop n bytes; is = sym (take-append-drop n bytes) ∙ ap (λ (bs : List ℕ). bs ++ drop n bytes) (sym shown) }

pub length-header_shown : (out zeros : List ℕ) (n : ℕ) → n ≤ length zeros → length out ≡ length (take n zeros) → length (take n (out ++ drop n zeros)) ≡ n
length-header_shown out zeros n few same =
    let m = length-take-le n zeros few in
    ap length (take_at out (drop n zeros) n (same ∙ m)) ∙ same ∙ m

-- behind the header
pub on_way_first : (keeps : Type 0) (bytes : List ℕ) (size : ℕ) (walk : FrameWalk) → HasWalked [] walk → 11 ≤ size → (keeps → bytes ≡ header walk.shape ++ drop 11 bytes)
    → IsOnWay keeps bytes size walk
on_way_first keeps bytes size walk walked long begins =
    let here : walk.at ≡ 11 = walked.at_end ∙ ap length (append-nil (header walk.shape)) in
    record {
      frames = [];
      walked = walked;
      inside = omega arith;
      begins = λ model. begins model ∙ ap (λ n. header walk.shape ++ drop n bytes) (sym here) ∙ ap (λ (bs : List ℕ). bs ++ drop walk.at bytes) (sym (append-nil (header walk.shape)));
    }

pub nothing_held : (keeps : Type 0) (bytes : List ℕ) (size : ℕ) (piece : FilePiece) → piece.bytes.items ≡ [] → piece.start ≡ 0 → HoldsPiece keeps bytes size piece
nothing_held keeps bytes size piece none start =
    let n = ap length none in
    let exact : piece.start + length piece.bytes.items - piece.start ≡ 0 = omega arith in
    record { ends = omega arith; is = λ model. none ∙ ap (λ k. take k (drop piece.start bytes)) (sym exact) }

pub framed_by : (keeps : Type 0) (bytes : List ℕ) (size : ℕ) (walk : FrameWalk) (framed : Framed) → IsThrough keeps bytes size walk → framed.shape ≡ walk.shape → framed.gate ≡ walk.at
    → ((frames : List Frame) → HasWalked frames walk → IsFramed frames framed) → IsFramedOn keeps bytes size framed
framed_by keeps bytes size walk framed through same gate is =
    let inside = through.inside in
    record {
      frames = through.frames;
      is = is through.frames through.walked;
      inside = omega arith;
      framed_by = λ model. subst (λ s. HasFrames s bytes through.frames) (sym same) (through.framed model);
    }

pub framed_same : (keeps : Type 0) (bytes others : List ℕ) (size : ℕ) (framed : Framed) → (keeps → bytes ≡ others) → IsFramedOn keeps bytes size framed → IsFramedOn keeps others size framed
framed_same keeps bytes others size framed same on = record {
  frames = on.frames;
  is = on.is;
  inside = on.inside;
  framed_by = λ model. subst (λ (bs : List ℕ). HasFrames framed.shape bs on.frames) (same model) (on.framed_by model);
}

-- what the buffer held before
abbrev pub blank_header : List ℕ
blank_header = 0 ∷ 0 ∷ 0 ∷ 0 ∷ 0 ∷ 0 ∷ 0 ∷ 0 ∷ 0 ∷ 0 ∷ 0 ∷ []

-- ---- the pen

-- what was found is what a pen goes on from, once the bytes are all on the disk
pub framed_known : (keeps : Type 0) (bytes : List ℕ) (states : List State) (size : ℕ) (framed : Framed) → IsFramedOn keeps bytes size framed → size < 2 ^ 64
    → framed.shape.width < 2 ^ 16 → (keeps → now states ≡ settled bytes) → IsKnownFile keeps states framed.shape framed.gate framed.tally framed.homes
framed_known keeps bytes states size framed on short small settles =
    let wide = on.is.wide in
    let inside = on.inside in
    record {
      frames = on.frames;
      wide = (omega arith, small);
      legal = on.is.legal;
      gate_is = on.is.gate_is;
      gate_fits = omega arith;
      tally_is = on.is.tally_is;
      homes_are = on.is.homes_are;
      framed = λ model. subst (λ (bs : List ℕ). HasFrames framed.shape bs on.frames) (sym (ap (λ s. s.seen) (settles model))) (on.framed_by model);
      on_disk = λ model. settles model ∙ ap settled (sym (ap (λ s. s.seen) (settles model)));
    }
