-- What the first bytes of a frame show of the whole: its head, and the number that begins its payload.
use Rattle.std.proofs.Common.{◌≡◌, ◌≤◌, ◌<◌, ℕ, ◌+◌, true, false, List, [], ◌++◌, length, take, drop, get_or, slice_index, Option, Some, Ok, Err, refl, sym, ap, subst, ◌∙◌, arith}
use Rattle.std.specs.Prelude.{min}
use Rattle.std.specs.Int.{w32, w64, from_le_bytes}
use Rattle.std.proofs.lemmas.Bool.{ne_eqb}
use Rattle.std.proofs.lemmas.List.{append-nil, length-drop, length-take-le, take-append-drop, take-append-le, drop-append-le, get_or_append_left}
use Rattle.record_core.specs.Bytes.{IsBytes}
use Rattle.segment_core.specs.declared.fault.ScanFault.{ScanFault}
use Rattle.segment_core.specs.declared.format.FrameKind.{FrameKind}
use Rattle.segment_core.specs.declared.format.FrameKind.TheVariants as kinds
use Rattle.segment_core.specs.declared.format.Shape.{Shape}
use Rattle.segment_core.specs.declared.frame_head.FrameHead.{FrameHead}
use Rattle.segment_core.specs.declared.frame_head.Unread.{Unread}
use Rattle.segment_core.specs.declared.frame_head.Unread.TheVariants.{Short, Fault}
use Rattle.segment_core.specs.Kind.{kind_byte}
use Rattle.segment_core.specs.Layout.{u32_at, u64_at, is_layout}
use Rattle.segment_core.specs.Fault.{first_line, frame_lines, is_closed, kind_in, payload_len_in, payload_in, is_kind}
use Rattle.segment_core.specs.Reading.{IsNext, IsFaulty}
use Rattle.segment_core.specs.FrameHead.{IsFrontOf, Shows, FitsNumber, IsHead, IsNextHead}
use Rattle.segment_core.proofs.Numbers.{u32_at-drop}
use Rattle.segment_core.proofs.RunRows.{u64_at-drop}
use Rattle.segment_core.proofs.Payload.{no_group, no_change}
use Rattle.segment_core.proofs.Head.{IsOpen, IsWhole, is_kind-kind_byte, length-payload_in, one_of}

-- ---- bytes and numbers

pub u32_more : (front rest : List ℕ) (i : ℕ) → i + 4 ≤ length front → u32_at (front ++ rest) i ≡ u32_at front i
unfolding u32_at
u32_more front rest i inside =
    let l = length-drop i front in
    ap (λ (bs : List ℕ). from_le_bytes w32 (take 4 bs)) (drop-append-le i front rest (omega arith))
    ∙ ap (from_le_bytes w32) (take-append-le 4 (drop i front) rest (omega arith))

pub u64_more : (front rest : List ℕ) (i : ℕ) → i + 8 ≤ length front → u64_at (front ++ rest) i ≡ u64_at front i
unfolding u64_at
u64_more front rest i inside =
    let l = length-drop i front in
    ap (λ (bs : List ℕ). from_le_bytes w64 (take 8 bs)) (drop-append-le i front rest (omega arith))
    ∙ ap (from_le_bytes w64) (take-append-le 8 (drop i front) rest (omega arith))

front_byte : (bytes front : List ℕ) (left i : ℕ)
    → IsFrontOf bytes front left → i < length front → slice_index bytes i ≡ slice_index front i
front_byte bytes front left i is inside =
    ap (λ (bs : List ℕ). get_or bs i 0) is.is ∙ get_or_append_left front is.rest 0 i inside

front_u32 : (bytes front : List ℕ) (left i : ℕ)
    → IsFrontOf bytes front left → i + 4 ≤ length front → u32_at bytes i ≡ u32_at front i
front_u32 bytes front left i is inside = ap (λ (bs : List ℕ). u32_at bs i) is.is ∙ u32_more front is.rest i inside

front_u64 : (bytes front : List ℕ) (left i : ℕ)
    → IsFrontOf bytes front left → i + 8 ≤ length front → u64_at bytes i ≡ u64_at front i
front_u64 bytes front left i is inside = ap (λ (bs : List ℕ). u64_at bs i) is.is ∙ u64_more front is.rest i inside

-- ---- the head

-- the gate is there and open
pub opened : (bytes front : List ℕ) (left : ℕ)
    → IsFrontOf bytes front left → (length front ≡ 0 → ⊥) → slice_index front 0 ≡ 1
    → IsOpen bytes
opened bytes front left is some gate =
    let size = is.size in
    let enough = is.enough in
    let any : 0 < length front = omega arith in
    record { some = omega arith; opened = front_byte bytes front left 0 is any ∙ gate }

-- what the front tells of the head, once its gate was found open and its kind known
pub record IsTold (bytes : List ℕ) (left : ℕ) (kind : FrameKind) (len : ℕ) : Type 0 where
  pub size : length bytes ≡ left
  pub gate : IsOpen bytes
  pub kind_is : kind_in bytes ≡ kind_byte kind
  pub known : is_kind (kind_in bytes) ≡ true
  pub len_is : payload_len_in bytes ≡ len

-- the byte of the kind
pub kind_shown : (bytes front : List ℕ) (left : ℕ)
    → IsFrontOf bytes front left → 6 ≤ left → kind_in bytes ≡ slice_index front 1
kind_shown bytes front left is long = let enough = is.enough in front_byte bytes front left 1 is (omega arith)

pub told : (bytes front : List ℕ) (left : ℕ) (kind : FrameKind) (len : ℕ)
    → IsFrontOf bytes front left → IsOpen bytes → 6 ≤ left
    → kind_byte kind ≡ slice_index front 1 → len ≡ u32_at front 2
    → IsTold bytes left kind len
told bytes front left kind len is gate long kind_is len_is =
    let enough = is.enough in
    let here : kind_in bytes ≡ kind_byte kind = kind_shown bytes front left is long ∙ sym kind_is in
    record {
      size = is.size;
      gate = gate;
      kind_is = here;
      known = ap is_kind here ∙ is_kind-kind_byte kind;
      len_is = front_u32 bytes front left 2 is (omega arith) ∙ sym len_is;
    }

-- ---- the number that begins the payload

pub front_shows : (bytes front : List ℕ) (left : ℕ)
    → IsFrontOf bytes front left → 6 + payload_len_in bytes ≤ length bytes → Shows front (payload_in bytes)
front_shows bytes front left is whole =
    let payload : List ℕ = payload_in bytes in
    let rest : List ℕ = drop (payload_len_in bytes) (drop 6 bytes) in
    let len : length payload ≡ payload_len_in bytes = length-payload_in bytes whole in
    let parts : payload ++ rest ≡ drop 6 bytes = take-append-drop (payload_len_in bytes) (drop 6 bytes) in
    let size = is.size in
    let enough = is.enough in
    record {
      count = λ some.
          sym (u32_more payload rest 0 (omega arith))
          ∙ ap (λ (bs : List ℕ). u32_at bs 0) parts
          ∙ u32_at-drop bytes 6 0
          ∙ front_u32 bytes front left 6 is (omega arith);
      number = λ some.
          sym (u64_more payload rest 0 (omega arith))
          ∙ ap (λ (bs : List ℕ). u64_at bs 0) parts
          ∙ u64_at-drop bytes 6 0
          ∙ front_u64 bytes front left 6 is (omega arith);
    }

-- where no number fits, the payload has not the form of its kind
pub no_number : (shape : Shape) (kind : FrameKind) (payload : List ℕ)
    → ((n : ℕ) → FitsNumber shape.format kind (length payload) n → ⊥)
    → is_layout shape (kind_byte kind) payload ≡ false
no_number shape kinds.Group payload none = no_group shape.width payload (λ p. none 0 (p.counted, omega arith))
no_number shape kinds.Change payload none = no_change shape payload (λ p. none 0 (p.counted, omega arith))
no_number shape kinds.Shrink payload none = ne_eqb (length payload) 8 (λ (is : length payload ≡ 8). none 0 is)
no_number shape kinds.Fold payload none = ne_eqb (length payload) 8 (λ (is : length payload ≡ 8). none 0 is)

-- ---- why no frame is read

-- a fault that stays whatever follows is there where nothing does
pub faulty_here : (shape : Shape) (p : ℕ) (bytes : List ℕ) (fault : ScanFault)
    → IsFaulty shape p bytes fault
    → (is_closed bytes ≡ false) × (first_line (frame_lines shape p bytes) ≡ Some fault)
faulty_here shape p bytes fault faulty =
    subst (λ (bs : List ℕ). (is_closed bs ≡ false) × (first_line (frame_lines shape p bs) ≡ Some fault)) (append-nil bytes) (faulty [])

-- ---- a reader of the whole frame

-- the front that is cut out of the bytes
pub front_cut : (bytes : List ℕ) (n : ℕ) → n ≡ min (length bytes) 14 → IsFrontOf bytes (take n bytes) (length bytes)
front_cut bytes n is = record {
  size = refl;
  enough = length-take-le n bytes (omega arith) ∙ omega arith;
  rest = drop n bytes;
  is = sym (take-append-drop n bytes);
}

-- what is answered of the head is answered of the frame
pub unread_head : (shape : Shape) (p : ℕ) (bytes : List ℕ) (unread : Unread)
    → IsNextHead shape p bytes (Err unread) → IsNext shape p bytes (Err unread)
unread_head shape p bytes Short is = is
unread_head shape p bytes (Fault fault) is = is

-- the head that was found
pub headed : (shape : Shape) (p : ℕ) (bytes : List ℕ) (found : Option FrameHead) (head : FrameHead)
    → found ≡ Some head → IsNextHead shape p bytes (Ok found) → IsHead shape bytes head
headed shape p bytes found head is next = subst (λ (o : Option FrameHead). IsNextHead shape p bytes (Ok o)) is next

pub whole_of_head : (shape : Shape) (bytes : List ℕ) (head : FrameHead)
    → IsHead shape bytes head → 0 < shape.width → IsBytes bytes
    → is_layout shape (kind_byte head.kind) (payload_in bytes) ≡ true
    → IsWhole shape bytes (kind_byte head.kind)
whole_of_head shape bytes head is wide fits formed =
    let whole = is.whole in
    record {
      wide = wide;
      fits = fits;
      gate = record { some = is.some; opened = is.opened };
      long = omega arith;
      known = is.kind;
      one = one_of head.kind;
      small = is.small;
      whole = is.whole;
      formed = formed;
    }
