-- What a walk that reads no records keeps from frame to frame.
use Rattle.std.proofs.Common.{◌≡◌, ℕ, ◌+◌, ◌*◌, ◌^◌, ◌≤◌, ◌<◌, ◌-◌, List, [], ◌∷◌, ◌++◌, length, take, drop, get_or, replicate, Some, None, Err, refl, sym, ap, subst, ◌∙◌}
use Rattle.std.proofs.Common.{append_assoc, arith, inl, inr}
use Rattle.std.specs.Prelude.{min}
use Rattle.std.proofs.lemmas.Bool.{ltb-false, cases_lt}
use Rattle.std.proofs.lemmas.List.{length-append, length_push, length-take-le, length-replicate, get_or_append_left, take-append-drop, take-take, drop-append-le}
use Rattle.record_core.specs.Limits.{record_limit}
use Rattle.segment_core.specs.declared.fault.ScanFault.{ScanFault}
use Rattle.segment_core.specs.declared.format.Format.{Format}
use Rattle.segment_core.specs.declared.format.Format.TheVariants.{One, Two}
use Rattle.segment_core.specs.declared.format.FrameKind.{FrameKind}
use Rattle.segment_core.specs.declared.format.FrameKind.TheVariants as kinds
use Rattle.segment_core.specs.declared.format.Shape.{Shape}
use Rattle.segment_core.specs.declared.frame_head.FrameHead.{FrameHead}
use Rattle.segment_core.specs.declared.frame_head.Unread.{Unread}
use Rattle.segment_core.specs.declared.frame_head.Unread.TheVariants.{Short, Fault}
use Rattle.segment_core.specs.declared.frame_walk.FrameWalk.{FrameWalk}
use Rattle.segment_core.specs.declared.tally.Tally.{Tally}
use Rattle.segment_core.specs.Frame.{Frame, Group, Change, Shrink, Fold, runs_len, header, frame_text, text}
use Rattle.segment_core.specs.Layout.{IsFrame, u32_at}
use Rattle.segment_core.specs.Tally.{nothing, after, tally_of, MayFollow, AreLegal}
use Rattle.segment_core.specs.Fault.{first_line, frame_lines, order_lines, frame_fault, header_fault, is_closed, payload_len_in, payload_in, IsSound}
use Rattle.segment_core.specs.Shape.{format_in}
use Rattle.segment_core.specs.Reading.{Seen, BeginsWith, IsNext, record_bytes_of}
use Rattle.segment_core.specs.FrameHead.{IsFrontOf, FitsNumber, first_number, IsHead, IsNextHead}
use Rattle.segment_core.specs.FrameWalk.{with_records, heads_in, heads_len, IsFrameFront, HasPrefix, ArePlaces, MayCome, HasWalked, IsTaken, IsEndedBy}
use Rattle.segment_core.proofs.Payload.{length-frame_text}
use Rattle.segment_core.proofs.Head.{length-payload_in}
use Rattle.segment_core.proofs.Fronts.{u32_more, front_shows}
use Rattle.segment_core.proofs.Lines.{frame_fault_from_lines, frame_fault_from_order}
use Rattle.segment_core.proofs.Header.{header_of_none, header_fault-append, format_in-append}
use Rattle.segment_core.proofs.Push.{append-empty, text_push, length-text, tally_from_push, AreLegalFrom_push}
use Rattle.segment_core.proofs.PlaceOf.{folded_counted}
use Rattle.segment_core.proofs.Walked.{frames_are_long, few_more}
use Rattle.segment_core.proofs.FrameParts.{length-payload_of}
use Rattle.segment_core.proofs.WithRecords.{after-with_records, MayFollow-with_records, order_lines-with_records, length-payload-with_records}
use Rattle.segment_core.proofs.FrameFront.{same_lines, open_here, len_told, front_long, begins_there}

-- ---- what holds behind frames

pub walked_few : (frames : List Frame) (walk : FrameWalk) → HasWalked frames walk → (walk.frames * 6 < walk.at) × (walk.tally.changes ≤ walk.frames)
walked_few frames walk walked =
    let long = frames_are_long walk.shape.format frames in
    let len = length-text walk.shape frames in
    let at = walked.at_end in
    let n = walked.frames_are in
    let few = walked.few in
    let t = ap (λ (t : Tally). t.changes) walked.tally_is in
    (omega arith, omega arith)

size_more : (t : Tally) (f : Frame) → t.size ≤ record_limit → MayFollow t f → (after t f).size ≤ record_limit
size_more t (Group lengths bytes) small may = ltb-false _ _ may.short
size_more t (Change runs bytes) small may = small
size_more t (Shrink n) small may = let shorter : n ≤ t.size = ltb-false _ _ may.inside in omega arith
size_more t (Fold count) small may = small

module _ (frames : List Frame) (f : Frame) (old new : FrameWalk) (walked : HasWalked frames old) (whole : IsFrame old.shape f) (may : MayFollow old.tally f) where
  abbrev next : List Frame
  next = frames ++ f ∷ []

  may_here : MayFollow (tally_of frames) f
  may_here = subst (λ t. MayFollow t f) walked.tally_is may

  legal_next : AreLegal old.shape next
  legal_next = AreLegalFrom_push old.shape nothing frames f walked.legal whole may_here

  pub walked_more : new.shape ≡ old.shape → new.at ≡ old.at + length (frame_text old.shape.format f) → new.frames ≡ old.frames + 1
      → new.tally ≡ after old.tally f → ArePlaces old.shape next new.places → HasWalked next new
  walked_more same at one_more tally_is places =
      let tally = tally_from_push nothing frames f in
      let changes = ap (λ (t : Tally). t.changes) tally in
      let size = ap (λ (t : Tally). t.size) tally in
      let len = ap length (text_push old.shape frames f) ∙ length-append (text old.shape frames) (frame_text old.shape.format f) in
      let was = walked.at_end in
      let here : new.at ≡ length (text old.shape next) = omega arith in
      let few = few_more (tally_of frames) f (length frames) walked.few in
      let n = length_push frames f in
      let small = size_more (tally_of frames) f walked.small may_here in
      record {
        wide = subst (λ (s : Shape). 0 < s.width) (sym same) walked.wide;
        legal = subst (λ s. AreLegal s next) (sym same) legal_next;
        at_end = here ∙ ap (λ s. length (text s next)) (sym same);
        frames_are = one_more ∙ ap (λ n. n + 1) walked.frames_are ∙ sym n;
        tally_is = tally_is ∙ ap (λ t. after t f) walked.tally_is ∙ sym tally;
        few = omega arith;
        small = omega arith;
        counted = folded_counted old.shape next legal_next;
        places_are = subst (λ s. ArePlaces s next new.places) (sym same) places;
      }

-- ---- the frame as it is shown: any bytes stand for its records

-- so many of its bytes are the front, and others
pub record IsShown (front buffer : List ℕ) (len : ℕ) : Type 0 where
  pub rest : List ℕ
  pub is : take len buffer ≡ front ++ rest
  pub size : length (front ++ rest) ≡ len

pub shown : (front buffer : List ℕ) (len : ℕ) → length front ≤ len → len ≤ length buffer → take (length front) buffer ≡ front → IsShown front buffer len
shown front buffer len inside long begins =
    let bytes : List ℕ = take len buffer in
    let is : bytes ≡ front ++ drop (length front) bytes =
    sym (take-append-drop (length front) bytes) ∙ ap (λ (bs : List ℕ). bs ++ drop (length front) bytes) (take-take (length front) len buffer inside ∙ begins) in
    record { rest = drop (length front) bytes; is = is; size = sym (ap length is) ∙ length-take-le len buffer long }

-- ---- the frame that may come

pub may_come : (frames : List Frame) (walk : FrameWalk) (seen : Seen) → HasWalked frames walk → seen.at ≡ walk.at → seen.shape ≡ walk.shape
    → IsFrame walk.shape seen.frame → MayFollow walk.tally seen.frame → walk.at < 2 ^ 64 → MayCome frames walk.places walk.tally seen
may_come frames walk seen walked at same whole may placed = record {
  places_are = subst (λ s. ArePlaces s frames walk.places) (sym same) walked.places_are;
  tally_is = walked.tally_is;
  counted = subst (λ (t : Tally). t.folded ≤ t.changes) (sym walked.tally_is) walked.counted;
  here = at ∙ walked.at_end ∙ ap (λ s. length (text s frames)) (sym same);
  placed = omega arith;
  whole = subst (λ s. IsFrame s seen.frame) (sym same) whole;
  may = may;
}

-- ---- prefixes

-- the first bytes, as many as are looked at for the head
pub front_of : (front bytes : List ℕ) (n left : ℕ) → HasPrefix front left bytes → n ≡ min (length front) 14 → min 14 left ≤ length front → length front ≤ left
    → IsFrontOf bytes (take n front) left
front_of front bytes n left prefix is enough inside = record {
  size = prefix.size;
  enough = length-take-le n front (omega arith) ∙ omega arith;
  rest = drop n front ++ prefix.rest;
  is = prefix.is ∙ ap (λ (bs : List ℕ). bs ++ prefix.rest) (sym (take-append-drop n front)) ∙ append_assoc (take n front) (drop n front) prefix.rest;
}

-- fewer of them
pub prefix_cut : (front bytes : List ℕ) (n left : ℕ) → HasPrefix front left bytes → HasPrefix (take n front) left bytes
prefix_cut front bytes n left prefix = record {
  size = prefix.size;
  rest = drop n front ++ prefix.rest;
  is = prefix.is ∙ ap (λ (bs : List ℕ). bs ++ prefix.rest) (sym (take-append-drop n front)) ∙ append_assoc (take n front) (drop n front) prefix.rest;
}

pub taken_prefix : (old new : FrameWalk) (front : List ℕ) (n left : ℕ) → IsTaken old (take n front) left new → IsTaken old front left new
taken_prefix old new front n left taken = record {
  further = taken.further;
  inside = taken.inside;
  walked = λ frames bytes walked prefix. taken.walked frames bytes walked (prefix_cut front bytes n left prefix);
}

-- the header is seen in the first bytes
pub header_here : (width : ℕ) (front bytes : List ℕ) (left : ℕ) → HasPrefix front left bytes → length front ≡ min 11 left → header_fault width bytes ≡ header_fault width front
header_here width front bytes left prefix enough = elim (cases_lt (length front) 11) [
  | inl short ↦ (
      let size = ap length prefix.is ∙ length-append front prefix.rest in
      let all = prefix.size in
      ap (header_fault width) (prefix.is ∙ sym (append-empty front prefix.rest (omega arith))))
  | inr long ↦ ap (header_fault width) prefix.is ∙ header_fault-append width front prefix.rest long
]

pub header_begins : (shape : Shape) (front bytes : List ℕ) (left : ℕ) → HasPrefix front left bytes → length front ≡ min 11 left
    → header_fault shape.width front ≡ None → format_in front ≡ shape.format → front ≡ header shape ++ drop 11 front
    → IsSound shape.width shape.format bytes × (bytes ≡ header shape ++ drop 11 bytes) × (11 ≤ left)
header_begins shape front bytes left prefix enough none names is =
    let has = header_of_none shape.width front none in
    let long = has.long in (
      record { no_fault = header_here shape.width front bytes left prefix enough ∙ none; names = ap format_in prefix.is ∙ format_in-append front prefix.rest (omega arith) ∙ names },
      prefix.is ∙ ap (λ (bs : List ℕ). bs ++ prefix.rest) is ∙ append_assoc (header shape) (drop 11 front) prefix.rest
          ∙ ap (λ (bs : List ℕ). header shape ++ bs) (sym (drop-append-le 11 front prefix.rest long) ∙ ap (drop 11) (sym prefix.is)),
      omega arith,
    )

-- some bytes begin so
pub some_bytes : (front : List ℕ) (left : ℕ) → length front ≤ left → HasPrefix front left (front ++ replicate (left - length front) 0)
some_bytes front left inside = record {
  size = length-append front (replicate (left - length front) 0) ∙ ap (λ n. length front + n) (length-replicate (left - length front) 0) ∙ omega arith;
  rest = replicate (left - length front) 0;
  is = refl;
}

-- ---- the front as its head tells it

-- the count that begins a payload stands in the front
word_shown : (bytes first front rest : List ℕ) (left len : ℕ) → IsFrontOf bytes first left → bytes ≡ front ++ rest → 6 + len ≤ length bytes → len ≡ payload_len_in bytes
    → 4 ≤ len → 10 ≤ length front → u32_at (payload_in bytes) 0 ≡ u32_at front 6
word_shown bytes first front rest left len is bytes_are whole len_is four ten =
    let size = is.size in
    let enough = is.enough in
    let payload = length-payload_in bytes (omega arith) in
    (front_shows bytes first left is (omega arith)).count (omega arith)
    ∙ sym (ap (λ (bs : List ℕ). u32_at bs 6) is.is ∙ u32_more first is.rest 6 (omega arith))
    ∙ ap (λ (bs : List ℕ). u32_at bs 6) bytes_are ∙ u32_more front rest 6 ten

number_shown : (format : Format) (kind : FrameKind) (bytes first front rest : List ℕ) (left number len : ℕ)
    → IsFrontOf bytes first left → bytes ≡ front ++ rest → 6 + len ≤ length bytes → len ≡ payload_len_in bytes
    → FitsNumber format kind len number → number ≡ first_number format kind (payload_in bytes) → length front ≡ 6 + min len (heads_len format kind number)
    → heads_len format kind number ≡ heads_len format kind (heads_in format kind front)
number_shown format kinds.Group bytes first front rest left number len is bytes_are whole len_is fits number_is size =
    ap (λ n. 4 + n * 4) (number_is ∙ word_shown bytes first front rest left len is bytes_are whole len_is fits.0 (omega (arith, fits.0)))
number_shown One kinds.Change bytes first front rest left number len is bytes_are whole len_is fits number_is size = ap (runs_len One) number_is
number_shown Two kinds.Change bytes first front rest left number len is bytes_are whole len_is fits number_is size =
    ap (runs_len Two) (number_is ∙ word_shown bytes first front rest left len is bytes_are whole len_is fits.0 (omega (arith, fits.0)))
number_shown format kinds.Shrink bytes first front rest left number len is bytes_are whole len_is fits number_is size = refl
number_shown format kinds.Fold bytes first front rest left number len is bytes_are whole len_is fits number_is size = refl

pub front_shown : (shape : Shape) (bytes first front rest : List ℕ) (left : ℕ) (head : FrameHead)
    → IsFrontOf bytes first left → bytes ≡ front ++ rest → IsHead shape bytes head → FitsNumber shape.format head.kind head.payload_len head.number
    → length front ≡ 6 + min head.payload_len (heads_len shape.format head.kind head.number)
    → IsFrameFront shape.format head.kind (6 + head.payload_len) front
front_shown shape bytes first front rest left head is bytes_are h fits size =
    let len : payload_len_in bytes ≡ payload_len_in front = ap payload_len_in bytes_are ∙ u32_more front rest 2 (omega arith) in
    let told = h.len in
    let whole = h.whole in
    let heads = number_shown shape.format head.kind bytes first front rest left head.number head.payload_len is bytes_are (omega arith) told fits h.number size in
    record {
      opened = sym (get_or_append_left front rest 0 0 (omega arith)) ∙ ap (λ (bs : List ℕ). get_or bs 0 0) (sym bytes_are) ∙ h.opened;
      kind_is = sym (get_or_append_left front rest 0 1 (omega arith)) ∙ ap (λ (bs : List ℕ). get_or bs 1 0) (sym bytes_are) ∙ sym h.kind;
      len_is = ap (λ n. 6 + n) (told ∙ len);
      size = size ∙ ap (λ n. 6 + min n (heads_len shape.format head.kind head.number)) (told ∙ len) ∙ ap (λ n. 6 + min (payload_len_in front) n) heads;
    }

-- why no frame was read is why none is
pub next_head : (shape : Shape) (p : ℕ) (bytes : List ℕ) (unread : Unread) → IsNext shape p bytes (Err unread) → IsNextHead shape p bytes (Err unread)
next_head shape p bytes Short is = is
next_head shape p bytes (Fault fault) is = is

module _ (walk : FrameWalk) (kind : FrameKind) (len : ℕ) (front rest : List ℕ) (is : IsFrameFront walk.shape.format kind len front) (left : ℕ) (bytes : List ℕ)
    (prefix : HasPrefix front left bytes) (whole : len ≤ left) (full : len ≤ length (front ++ rest)) where
  long : len ≤ length (front ++ prefix.rest)
  long = let size = ap length prefix.is in let all = prefix.size in omega arith

  -- a fault of the frame by itself
  pub ended_by_lines : (fault : ScanFault) → first_line (frame_lines walk.shape walk.at (front ++ rest)) ≡ Some fault → IsEndedBy walk bytes fault
  ended_by_lines fault some =
      inl (frame_fault_from_lines walk.shape walk.at walk.tally bytes fault
      (ap is_closed prefix.is ∙ open_here walk.shape kind len front is prefix.rest)
      (ap (λ bs. first_line (frame_lines walk.shape walk.at bs)) prefix.is
      ∙ ap first_line (same_lines walk.shape kind len front is walk.at prefix.rest rest long full) ∙ some))

  module _ (f : Frame) (begins : BeginsWith walk.shape (front ++ rest) f) where
    -- the frame with the records that stand there
    abbrev there : Frame
    there = with_records f (take (length (record_bytes_of f)) prefix.rest)

    begins_bytes : BeginsWith walk.shape bytes there
    begins_bytes = subst (λ (bs : List ℕ). BeginsWith walk.shape bs there) (sym prefix.is) (begins_there walk.shape kind len front is rest f begins prefix.rest long)

    -- a fault of the frame behind those before it
    pub ended_by_order : (fault : ScanFault) → first_line (order_lines walk.at walk.tally f) ≡ Some fault → IsEndedBy walk bytes fault
    ended_by_order fault some =
        let b = begins_bytes in
        inl (ap (λ bs. frame_fault walk.shape walk.at walk.tally bs) b.text.1
        ∙ frame_fault_from_order walk.shape walk.at walk.tally there b.text.0 fault b.whole
        (ap first_line (order_lines-with_records walk.at walk.tally f (take (length (record_bytes_of f)) prefix.rest)) ∙ some))

    -- the walk behind it
    pub taken_there : (frames : List Frame) (new : FrameWalk) → HasWalked frames walk → MayFollow walk.tally f
        → new.shape ≡ walk.shape → new.at ≡ walk.at + length (frame_text walk.shape.format f) → new.frames ≡ walk.frames + 1
        → new.tally ≡ after walk.tally f → ArePlaces walk.shape (frames ++ there ∷ []) new.places
        → (frame : Frame) × BeginsWith walk.shape bytes frame × HasWalked (frames ++ frame ∷ []) new
    taken_there frames new walked may same at one_more tally places =
        let b = begins_bytes in
        let own = take (length (record_bytes_of f)) prefix.rest in
        let here = text_len in (
          there,
          b,
          walked_more frames there walk new walked b.whole (MayFollow-with_records walk.tally f own may) same
              (at ∙ ap (λ n. walk.at + n) (sym here)) one_more (tally ∙ sym (after-with_records walk.tally f own)) places,
        )
      where
        text_len : length (frame_text walk.shape.format there) ≡ length (frame_text walk.shape.format f)
        text_len =
            length-frame_text walk.shape.format there
            ∙ ap (λ n. 6 + n) (length-payload-with_records walk.shape.format f (take (length (record_bytes_of f)) prefix.rest) (length-take-le (length (record_bytes_of f)) prefix.rest (there_long)))
            ∙ sym (length-frame_text walk.shape.format f)
          where
            there_long : length (record_bytes_of f) ≤ length prefix.rest
            there_long =
                let parts = length-payload_of walk.shape.format f in
                let told = len_told walk.shape kind len front is rest f begins in
                let l = length-frame_text walk.shape.format f in
                let first = front_long walk.shape kind len front is rest f begins in
                let size = ap length prefix.is ∙ length-append front prefix.rest in
                let all = prefix.size in
                omega arith
