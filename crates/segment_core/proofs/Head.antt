-- What a reader answers of a frame, test by test; each answer but of a frame that is cut short stays the same
-- whatever follows the bytes.
use Rattle.std.proofs.Common.{◌≡◌, ℕ, ◌+◌, ◌-◌, ◌*◌, ◌^◌, ◌≤◌, ◌<◌, true, false, List, [], ◌∷◌, ◌++◌, length, take, drop, slice_index, Some, refl, sym, ap, subst, ◌∙◌, arith}
use Rattle.std.specs.Prelude.{not, ◌==◌}
use Rattle.std.specs.Int.{w32, to_le_bytes, from_le_bytes}
use Rattle.std.proofs.lemmas.Bool.{le-ltb, lt-ltb, eq-eqb, ne_eqb}
use Rattle.std.proofs.lemmas.List.{take-append-drop, length-take-le, length-drop, length-append, take-append-le, drop-append-le, get_or_append_left}
use Rattle.record_core.specs.Bytes.{IsBytes}
use Rattle.segment_core.specs.declared.fault.Cause.TheVariants.{Kind, TooLarge, Layout}
use Rattle.segment_core.specs.declared.fault.ScanFault.{ScanFault}
use Rattle.segment_core.specs.declared.format.FrameKind.{FrameKind}
use Rattle.segment_core.specs.declared.format.FrameKind.TheVariants as kinds
use Rattle.segment_core.specs.declared.format.Shape.{Shape}
use Rattle.segment_core.specs.Shape.{limit_of}
use Rattle.segment_core.specs.Frame.{Frame, payload_of, frame_text}
use Rattle.segment_core.specs.Kind.{kind_byte}
use Rattle.segment_core.specs.Layout.{u32_at, frame_in, is_layout}
use Rattle.segment_core.specs.Fault.{first_line, frame_lines, is_closed, damaged, kind_in, payload_len_in, payload_in, is_kind}
use Rattle.segment_core.specs.Reading.{IsShort, IsFaulty, BeginsWith, IsRead, lengths_of, runs_of, record_bytes_of, record_count}
use Rattle.segment_core.proofs.Numbers.{IsBytes-drop, IsBytes-take, u32_at-drop, u32_written, first_false, second_false}
use Rattle.segment_core.proofs.Payload.{limit_small, OneOf, IsGroup, IsChange, IsShrink, IsFold, is_payload}
use Rattle.segment_core.proofs.FrameParts.{length-payload_of, records_filled}
use Rattle.segment_core.proofs.Lines.{first_line_at}

-- the one answer of a fault that the frame has by itself
abbrev pub Finds : Shape → ℕ → List ℕ → ScanFault → Type 0
Finds shape p bytes fault = (is_closed bytes ≡ false) × (first_line (frame_lines shape p bytes) ≡ Some fault)

-- an open gate, and the tests that come first
pub record IsOpen (bytes : List ℕ) : Type 0 where
  pub some : 0 < length bytes
  pub opened : slice_index bytes 0 ≡ 1

not_closed : (bytes : List ℕ) → IsOpen bytes → is_closed bytes ≡ false
not_closed bytes gate = second_false _ _ (ap (λ n. not (n == 1)) gate.opened)

not_empty : (bytes : List ℕ) → IsOpen bytes → (length bytes == 0) ≡ false
not_empty bytes gate = let some = gate.some in ne_eqb (length bytes) 0 (λ (none : length bytes ≡ 0). absurd (omega arith))

-- ---- bytes that follow

longer : (bytes more : List ℕ) → length bytes ≤ length (bytes ++ more)
longer bytes more = let l = length-append bytes more in omega arith

open_more : (bytes more : List ℕ) → IsOpen bytes → IsOpen (bytes ++ more)
open_more bytes more gate =
    let some = gate.some in
    let l = longer bytes more in
    record { some = omega arith; opened = get_or_append_left bytes more 0 0 some ∙ gate.opened }

kind_more : (bytes more : List ℕ) → 6 ≤ length bytes → kind_in (bytes ++ more) ≡ kind_in bytes
kind_more bytes more long = get_or_append_left bytes more 0 1 (omega arith)

u32_more : (bytes more : List ℕ) → 4 ≤ length bytes → u32_at (bytes ++ more) 0 ≡ u32_at bytes 0
unfolding u32_at
u32_more bytes more long = ap (from_le_bytes w32) (take-append-le 4 bytes more long)

payload_len_more : (bytes more : List ℕ) → 6 ≤ length bytes → payload_len_in (bytes ++ more) ≡ payload_len_in bytes
payload_len_more bytes more long =
    let l = length-drop 2 bytes in
    sym (u32_at-drop (bytes ++ more) 2 0) ∙ ap (λ (bs : List ℕ). u32_at bs 0) (drop-append-le 2 bytes more (omega arith)) ∙ u32_more (drop 2 bytes) more (omega arith) ∙ u32_at-drop bytes 2 0

payload_more : (bytes more : List ℕ) → 6 + payload_len_in bytes ≤ length bytes → payload_in (bytes ++ more) ≡ payload_in bytes
payload_more bytes more whole =
    let l = length-drop 6 bytes in
    ap (λ n. take n (drop 6 (bytes ++ more))) (payload_len_more bytes more (omega arith))
    ∙ ap (take (payload_len_in bytes)) (drop-append-le 6 bytes more (omega arith))
    ∙ take-append-le (payload_len_in bytes) (drop 6 bytes) more (omega arith)

-- ---- a frame that is cut short

pub finds_no_gate : (shape : Shape) (p : ℕ) (bytes : List ℕ) → length bytes ≡ 0 → IsShort shape p bytes
unfolding frame_lines
finds_no_gate shape p bytes none = record {
  opened = first_false _ _ (le-ltb 0 (length bytes) (omega arith));
  empty = λ _. first_line_at 0 (frame_lines shape p bytes) _ (eq-eqb _ _ none, refl);
  cut = λ some. absurd (omega arith);
}

pub finds_short_head : (shape : Shape) (p : ℕ) (bytes : List ℕ) → IsOpen bytes → length bytes < 6 → IsShort shape p bytes
unfolding frame_lines
finds_short_head shape p bytes gate short = record {
  opened = not_closed bytes gate;
  empty = λ none. (let some = gate.some in absurd (omega arith));
  cut = λ _. first_line_at 1 (frame_lines shape p bytes) _ (not_empty bytes gate, (lt-ltb _ _ short, refl));
}

pub finds_short_payload : (shape : Shape) (p : ℕ) (bytes : List ℕ)
    → IsOpen bytes → 6 ≤ length bytes → is_kind (kind_in bytes) ≡ true → payload_len_in bytes ≤ limit_of shape.format
    → length bytes < 6 + payload_len_in bytes
    → IsShort shape p bytes
unfolding frame_lines
finds_short_payload shape p bytes gate long kind small short = record {
  opened = not_closed bytes gate;
  empty = λ none. (let some = gate.some in absurd (omega arith));
  cut = λ _. first_line_at 4 (frame_lines shape p bytes) _ (not_empty bytes gate, (le-ltb _ _ long, (ap not kind, (le-ltb _ _ small, (lt-ltb _ _ short, refl)))));
}

-- ---- a fault

kind_found : (shape : Shape) (p : ℕ) (bytes : List ℕ) → IsOpen bytes → 6 ≤ length bytes → is_kind (kind_in bytes) ≡ false → Finds shape p bytes (damaged (p + 1) (Kind (kind_in bytes)))
unfolding frame_lines
kind_found shape p bytes gate long unknown = (not_closed bytes gate, first_line_at 2 (frame_lines shape p bytes) _ (not_empty bytes gate, (le-ltb _ _ long, (ap not unknown, refl))))

pub finds_kind : (shape : Shape) (p : ℕ) (bytes : List ℕ)
    → IsOpen bytes → 6 ≤ length bytes → is_kind (kind_in bytes) ≡ false
    → IsFaulty shape p bytes (damaged (p + 1) (Kind (kind_in bytes)))
finds_kind shape p bytes gate long unknown more =
    let same = kind_more bytes more long in
    let l = longer bytes more in
    let found = kind_found shape p (bytes ++ more) (open_more bytes more gate) (omega arith) (ap is_kind same ∙ unknown) in
    (found.0, found.1 ∙ ap (λ k. Some (damaged (p + 1) (Kind k))) same)

too_large_found : (shape : Shape) (p : ℕ) (bytes : List ℕ)
    → IsOpen bytes → 6 ≤ length bytes → is_kind (kind_in bytes) ≡ true → limit_of shape.format < payload_len_in bytes
    → Finds shape p bytes (damaged (p + 2) TooLarge)
unfolding frame_lines
too_large_found shape p bytes gate long kind large =
    (not_closed bytes gate, first_line_at 3 (frame_lines shape p bytes) _ (not_empty bytes gate, (le-ltb _ _ long, (ap not kind, (lt-ltb _ _ large, refl)))))

pub finds_too_large : (shape : Shape) (p : ℕ) (bytes : List ℕ)
    → IsOpen bytes → 6 ≤ length bytes → is_kind (kind_in bytes) ≡ true → limit_of shape.format < payload_len_in bytes
    → IsFaulty shape p bytes (damaged (p + 2) TooLarge)
finds_too_large shape p bytes gate long kind large more =
    let l = longer bytes more in
    let len = payload_len_more bytes more long in
    too_large_found shape p (bytes ++ more) (open_more bytes more gate) (omega arith) (ap is_kind (kind_more bytes more long) ∙ kind) (omega arith)

layout_found : (shape : Shape) (p : ℕ) (bytes : List ℕ)
    → IsOpen bytes → 6 ≤ length bytes → is_kind (kind_in bytes) ≡ true → payload_len_in bytes ≤ limit_of shape.format
    → 6 + payload_len_in bytes ≤ length bytes → is_layout shape (kind_in bytes) (payload_in bytes) ≡ false
    → Finds shape p bytes (damaged (p + 6) Layout)
unfolding frame_lines
layout_found shape p bytes gate long kind small whole formless =
    (not_closed bytes gate, first_line_at 5 (frame_lines shape p bytes) _ (not_empty bytes gate, (le-ltb _ _ long, (ap not kind, (le-ltb _ _ small, (le-ltb _ _ whole, (ap not formless, refl)))))))

pub finds_layout : (shape : Shape) (p : ℕ) (bytes : List ℕ)
    → IsOpen bytes → 6 ≤ length bytes → is_kind (kind_in bytes) ≡ true → payload_len_in bytes ≤ limit_of shape.format
    → 6 + payload_len_in bytes ≤ length bytes → is_layout shape (kind_in bytes) (payload_in bytes) ≡ false
    → IsFaulty shape p bytes (damaged (p + 6) Layout)
finds_layout shape p bytes gate long kind small whole formless more =
    let l = longer bytes more in
    let len = payload_len_more bytes more long in
    let same = kind_more bytes more long in
    layout_found shape p (bytes ++ more) (open_more bytes more gate) (omega arith) (ap is_kind same ∙ kind) (omega arith) (omega arith)
    (ap (λ k. is_layout shape k (payload_in (bytes ++ more))) same ∙ ap (is_layout shape (kind_in bytes)) (payload_more bytes more whole) ∙ formless)

-- ---- a whole frame

pub is_kind-kind_byte : (kind : FrameKind) → is_kind (kind_byte kind) ≡ true
is_kind-kind_byte kinds.Group = refl
is_kind-kind_byte kinds.Change = refl
is_kind-kind_byte kinds.Shrink = refl
is_kind-kind_byte kinds.Fold = refl

pub one_of : (kind : FrameKind) → OneOf (kind_byte kind)
one_of kinds.Group = IsGroup refl
one_of kinds.Change = IsChange refl
one_of kinds.Shrink = IsShrink refl
one_of kinds.Fold = IsFold refl

-- the bytes of a frame's head as they stand
head_written : (bytes : List ℕ) → IsBytes bytes → IsOpen bytes → 6 ≤ length bytes → bytes ≡ (1 ∷ kind_in bytes ∷ to_le_bytes w32 (payload_len_in bytes)) ++ drop 6 bytes
head_written [] fits gate long = absurd (omega arith)
head_written (a ∷ []) fits gate long = absurd (omega arith)
head_written (a ∷ b ∷ bytes) fits gate long =
    let number : to_le_bytes w32 (payload_len_in (a ∷ b ∷ bytes)) ≡ take 4 bytes
    = ap (to_le_bytes w32) (sym (u32_at-drop (a ∷ b ∷ bytes) 2 0))
    ∙ u32_written bytes (IsBytes-drop 2 (a ∷ b ∷ bytes) fits) (omega arith) in
    ap (λ x. x ∷ b ∷ bytes) gate.opened
    ∙ ap (λ (bs : List ℕ). 1 ∷ b ∷ bs) (sym (take-append-drop 4 bytes) ∙ ap (λ (bs : List ℕ). bs ++ drop 4 bytes) (sym number))

-- what the tests of a whole frame say
pub record IsWhole (shape : Shape) (bytes : List ℕ) (kind : ℕ) : Type 0 where
  pub wide : 0 < shape.width
  pub fits : IsBytes bytes
  pub gate : IsOpen bytes
  pub long : 6 ≤ length bytes
  pub known : kind ≡ kind_in bytes
  pub one : OneOf kind
  pub small : payload_len_in bytes ≤ limit_of shape.format
  pub whole : 6 + payload_len_in bytes ≤ length bytes
  pub formed : is_layout shape kind (payload_in bytes) ≡ true

pub length-payload_in : (bytes : List ℕ) → 6 + payload_len_in bytes ≤ length bytes → length (payload_in bytes) ≡ payload_len_in bytes
length-payload_in bytes whole = let l = length-drop 6 bytes in length-take-le (payload_len_in bytes) (drop 6 bytes) (omega arith)

pub begins_with : (shape : Shape) (bytes : List ℕ) (kind : ℕ) → IsWhole shape bytes kind → BeginsWith shape bytes (frame_in shape kind (payload_in bytes))
begins_with shape bytes kind w =
    let payload : List ℕ = payload_in bytes in
    let n : ℕ = payload_len_in bytes in
    let len : length payload ≡ n = length-payload_in bytes w.whole in
    let limit = limit_small shape.format in
    let small = w.small in
    let p = is_payload shape kind payload w.wide (IsBytes-take n (drop 6 bytes) (IsBytes-drop 6 bytes w.fits)) (omega arith) w.one w.formed in
    let frame : Frame = frame_in shape kind payload in
    let size : length (payload_of shape.format frame) ≡ n = ap length p.spelled ∙ len in
    let text : frame_text shape.format frame ≡ (1 ∷ kind_in bytes ∷ to_le_bytes w32 n) ++ payload
    = ap (λ k. (1 ∷ k ∷ to_le_bytes w32 (length (payload_of shape.format frame))) ++ payload_of shape.format frame) (p.kind_is ∙ w.known)
    ∙ ap (λ k. (1 ∷ kind_in bytes ∷ to_le_bytes w32 k) ++ payload_of shape.format frame) size ∙ ap (λ (bs : List ℕ). (1 ∷ kind_in bytes ∷ to_le_bytes w32 n) ++ bs) p.spelled in
    record {
      whole = record { wide = w.wide; small = subst (λ k. k ≤ limit_of shape.format) (sym size) small; layout = p.layout };
      text = (
        drop n (drop 6 bytes),
        head_written bytes w.fits w.gate w.long
            ∙ ap (λ (bs : List ℕ). (1 ∷ kind_in bytes ∷ to_le_bytes w32 n) ++ bs) (sym (take-append-drop n (drop 6 bytes)))
            ∙ ap (λ (bs : List ℕ). bs ++ drop n (drop 6 bytes)) (sym text),
      );
    }

-- ---- what a reader keeps

pub is_read : (at : ℕ) (shape : Shape) (kind heads records : ℕ) (bytes : List ℕ) → at + length bytes < 2 ^ 64 → IsWhole shape bytes kind
    → heads ≡ length (lengths_of (frame_in shape kind (payload_in bytes))) + length (runs_of (frame_in shape kind (payload_in bytes)))
    → records ≡ record_count (frame_in shape kind (payload_in bytes))
    → IsRead at shape heads records (payload_in bytes) (frame_in shape kind (payload_in bytes))
is_read at shape kind heads records bytes placed w h r =
    let payload : List ℕ = payload_in bytes in
    let frame : Frame = frame_in shape kind payload in
    let len = length-payload_in bytes w.whole in
    let limit = limit_small shape.format in
    let small = w.small in
    let whole = w.whole in
    let begins = begins_with shape bytes kind w in
    let p = is_payload shape kind payload w.wide (IsBytes-take (payload_len_in bytes) (drop 6 bytes) (IsBytes-drop 6 bytes w.fits)) (omega arith) w.one w.formed in
    let filled : length (record_bytes_of frame) ≡ records * shape.width = records_filled shape frame p.layout ∙ ap (λ n. n * shape.width) (sym r) in
    let parts = length-payload_of shape.format frame in
    let spelled = ap length p.spelled in
    record { placed = omega arith; small = omega arith; whole = begins.whole; spelled = p.spelled; heads_are = h; records_are = r; filled = filled; sized = omega arith }

-- the payload as the code cuts it out
pub payload_cut : (bytes : List ℕ) (n : ℕ) → n ≡ payload_len_in bytes → take (6 + n - 6) (drop 6 bytes) ≡ payload_in bytes
payload_cut bytes n is = ap (λ k. take k (drop 6 bytes)) (let e : 6 + n - 6 ≡ payload_len_in bytes = omega arith in e)
