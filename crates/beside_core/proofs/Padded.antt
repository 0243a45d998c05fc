-- What stands ahead of a look, behind a gate that was read open, begins a frame that keeps the rules.
use Rattle.std.proofs.Common.{◌≡◌, ◌⊎◌, ℕ, ◌+◌, ◌-◌, ◌<◌, ◌≤◌, false, List, [], ◌∷◌, ◌++◌, length, take, drop, get_or, Some, None, refl, sym, ap, subst, ◌∙◌, arith, append_assoc, inl, inr}
use Rattle.std.specs.Prelude.{slice_index, not, nat_lt, ◌==◌}
use Rattle.std.specs.List.{flat_map}
use Rattle.std.proofs.lemmas.Bool.{cases_lt, le-ltb, lt-ltb, ne_eqb}
use Rattle.std.proofs.lemmas.List.{append-nil, nil_from_length, length-append, length-drop, length-take-le, take_all, get_or-take, get_or-drop, get_or_append_left, get_or-append-add, take-append-drop, take-append-le}
use Rattle.std.proofs.Math.Seq.{drop-append_seam}
use Rattle.segment_core.specs.declared.fault.Cause.TheVariants.{ShortFrame}
use Rattle.segment_core.specs.declared.fault.ScanFault.{ScanFault}
use Rattle.segment_core.specs.declared.format.Shape.{Shape}
use Rattle.segment_core.specs.declared.tally.Tally.{Tally}
use Rattle.segment_core.specs.Shape.{limit_of}
use Rattle.segment_core.specs.Frame.{Frame, Group, Change, Shrink, Fold, header, text, frame_text, payload_of, kind_of, open_gate}
use Rattle.segment_core.specs.Layout.{IsFrame}
use Rattle.segment_core.specs.Tally.{nothing, tally_of, MayFollow, AreLegal, AreLegalFrom}
use Rattle.segment_core.specs.Fault.{frame_fault, first_line, frame_lines, is_kind, kind_in, payload_len_in, damaged, is_closed}
use Rattle.segment_core.proofs.Numbers.{second_false}
use Rattle.segment_core.proofs.Lines.{frame_fault-frame_text, frame_fault_from_lines, first_line_at}
use Rattle.segment_core.proofs.Payload.{length-frame_text, payload_len_in-frame_text, small_payload}
use Rattle.segment_core.proofs.Push.{length-text}
use Rattle.beside_core.specs.PensFile.{IsPensFile}
use Rattle.beside_core.specs.MayDiffer.{MayDiffer}
use Rattle.beside_core.specs.Seen.{IsEnd}
use Rattle.beside_core.proofs.Read.{AreTextThatMayDiffer}
use Rattle.beside_core.proofs.MayDiffer.{MayDiffer-append}
use Rattle.beside_core.proofs.Parse.{parses}
use Rattle.beside_core.proofs.Looked.{read_legal}
use Rattle.beside_core.proofs.Taken.{payload_len_in-front}
use Rattle.beside_core.proofs.Taking.{first_ones}
use Rattle.beside_core.proofs.Walking.{Stood, Walked, text-append, told_same, legal_behind, later_stand, text_long, head_byte}
use Rattle.beside_core.proofs.Ahead.{Ahead, so_far, frame_behind}

-- ---- the fault of bytes that a frame begins, or that end in it

-- these bytes, and others behind them, begin with a frame that may follow
pub record BeginsFrame (shape : Shape) (tally : Tally) (bytes : List ℕ) : Type 0 where
  pub frame : Frame
  pub pad : List ℕ
  pub more : List ℕ
  pub whole : IsFrame shape frame
  pub may : MayFollow tally frame
  pub is : bytes ++ pad ≡ frame_text shape.format frame ++ more

is_kind-kind_of : (frame : Frame) → not (is_kind (kind_of frame)) ≡ false
is_kind-kind_of (Group lengths bytes) = refl
is_kind-kind_of (Change runs bytes) = refl
is_kind-kind_of (Shrink n) = refl
is_kind-kind_of (Fold count) = refl

same_fault : (a b : ScanFault) → Some a ≡ Some b → a ≡ b
same_fault a b is = cc

-- the bytes are the frame's first ones
front_is : (n : ℕ) (bytes pad front more : List ℕ) → bytes ++ pad ≡ front ++ more → length front ≡ n → n ≤ length bytes → bytes ≡ front ++ drop n bytes
front_is n bytes pad front more is long le =
    let same : take n bytes ≡ front = sym (take-append-le n bytes pad le) ∙ ap (take n) is ∙ take-append-le n front more (omega (arith, long)) ∙ take_all n front (omega (arith, long)) in
    sym (take-append-drop n bytes) ∙ ap (λ (bs : List ℕ). bs ++ drop n bytes) same

ends : (p : ℕ) (fault : ScanFault) → fault ≡ damaged p ShortFrame → IsEnd fault
ends p fault is = (let end : IsEnd (damaged p ShortFrame) = inr refl in subst IsEnd (sym is) end)

-- so nothing is wrong but that they end
pub only_ends : (shape : Shape) (p : ℕ) (tally : Tally) (bytes : List ℕ) (fault : ScanFault) → BeginsFrame shape tally bytes → 0 < length bytes → frame_fault shape p tally bytes ≡ Some fault → IsEnd fault
unfolding frame_lines
only_ends shape p tally bytes fault begins some found =
    elim (cases_lt (length bytes) 6) [
      | inl cut ↦ short (first_line_at 1 (frame_lines shape p bytes) (damaged p ShortFrame) (filled, (lt-ltb (length bytes) 6 cut, refl)))
      | inr long ↦ elim (cases_lt (length bytes) (6 + n)) [
        | inl cut ↦ short (first_line_at 4 (frame_lines shape p bytes) (damaged p ShortFrame) (
          filled,
          (
            le-ltb (length bytes) 6 long,
            (
              kind long,
              (
                le-ltb (limit_of shape.format) (payload_len_in bytes) (omega (arith, told long, small)),
                (
                  lt-ltb (length bytes) (6 + payload_len_in bytes) (omega
                      (arith, told long, cut)),
                  refl,
                ),
              ),
            ),
          ),
        ))
        | inr all ↦ (
            let is = front_is (6 + n) bytes begins.pad own begins.more begins.is own_long all in
            let clash : Some fault ≡ None = sym found ∙ ap (frame_fault shape p tally) is ∙ frame_fault-frame_text shape p tally begins.frame (drop (6 + n) bytes) begins.whole begins.may in
            absurd cc)
      ]
    ]
  where
    n : ℕ
    n = length (payload_of shape.format begins.frame)

    own : List ℕ
    own = frame_text shape.format begins.frame

    own_long : length (frame_text shape.format begins.frame) ≡ 6 + length (payload_of shape.format begins.frame)
    own_long = length-frame_text shape.format begins.frame

    byte : (j : ℕ) → j < length bytes → j < 6 → get_or bytes j 0 ≡ get_or (frame_text shape.format begins.frame) j 0
    byte j lt few = sym (get_or_append_left bytes begins.pad 0 j lt) ∙ ap (λ (bs : List ℕ). get_or bs j 0) begins.is ∙ get_or_append_left (frame_text shape.format begins.frame) begins.more 0 j (omega
        (arith, own_long, few))

    opened : is_closed bytes ≡ false
    opened = second_false (nat_lt 0 (length bytes)) (not (slice_index bytes 0 == open_gate)) (ap (λ k. not (k == 1)) (byte 0 some (omega arith)))

    short : first_line (frame_lines shape p bytes) ≡ Some (damaged p ShortFrame) → IsEnd fault
    short is = ends p fault (same_fault fault (damaged p ShortFrame) (sym found ∙ frame_fault_from_lines shape p tally bytes (damaged p ShortFrame) opened is))

    filled : (length bytes == 0) ≡ false
    filled = ne_eqb (length bytes) 0 (λ (none : length bytes ≡ 0). absurd (omega (arith, some, none)))

    told : 6 ≤ length bytes → payload_len_in bytes ≡ length (payload_of shape.format begins.frame)
    told long = sym (payload_len_in-front (bytes ++ begins.pad) bytes (omega (arith, long, length-append bytes begins.pad)) long (λ j few. get_or_append_left bytes begins.pad 0 j (omega (arith, long, few))))
        ∙ ap payload_len_in begins.is ∙ payload_len_in-frame_text shape.format begins.frame begins.more (small_payload shape begins.frame begins.whole)

    kind : 6 ≤ length bytes → not (is_kind (kind_in bytes)) ≡ false
    kind long = ap (λ k. not (is_kind k)) (byte 1 (omega (arith, long)) (omega arith)) ∙ is_kind-kind_of begins.frame

    small : length (payload_of shape.format begins.frame) ≤ limit_of shape.format
    small = begins.whole.small

-- ---- what stands ahead

module _ (shape : Shape) (held : ℕ → List ℕ) (frames : ℕ → List Frame) (file : IsPensFile shape held frames) (from to : ℕ) (bytes : List ℕ) (done : List Frame)
    (ahead : Ahead shape held from to 11 (length (flat_map (frame_text shape.format) done)) bytes) (rest : List ℕ) (is : bytes ≡ flat_map (frame_text shape.format) done ++ rest) (legal : AreLegal shape done)
    (opened : slice_index rest 0 ≡ open_gate) (some : 0 < length rest) where
  abbrev walked : ℕ
  walked = length (flat_map (frame_text shape.format) done)

  rest_is : drop (length (flat_map (frame_text shape.format) done)) bytes ≡ rest
  rest_is = ap (drop walked) is ∙ drop-append_seam (flat_map (frame_text shape.format) done) rest

  bytes_long : length bytes ≡ length (flat_map (frame_text shape.format) done) + length rest
  bytes_long = ap length is ∙ length-append (flat_map (frame_text shape.format) done) rest

  pub gate_open : slice_index bytes (length (flat_map (frame_text shape.format) done)) ≡ open_gate
  gate_open =
      let at : walked + 0 ≡ walked = omega arith in
      ap (slice_index bytes) (sym at) ∙ ap (λ (bs : List ℕ). slice_index bs (walked + 0)) is ∙ get_or-append-add (flat_map (frame_text shape.format) done) rest 0 0 ∙ opened

  pub inside : length (flat_map (frame_text shape.format) done) < length bytes
  inside = omega (arith, bytes_long, some)

  abbrev so : Walked shape held frames [] ahead.moment (11 + length (flat_map (frame_text shape.format) done)) (take (length (flat_map (frame_text shape.format) done)) bytes)
  so = so_far shape held from to 11 walked bytes ahead frames [] file refl (frames from, refl)

  abbrev one : (frame : Frame) × (later : List Frame) × (frames (ahead.rest.moments 0) ≡ so.found ++ frame ∷ later)
  one = frame_behind shape held from to 11 walked bytes ahead frames [] file refl (frames from, refl) inside gate_open

  -- the frame that stands there, from its gate's moment on
  stands_at : (m : ℕ) → ahead.rest.moments 0 ≤ m → (later : List Frame) × (frames m ≡ so.found ++ one.0 ∷ later)
  stands_at m le = (let there = later_stand shape held frames file (ahead.rest.moments 0) m so.found (one.0 ∷ one.1) le one.2 in (one.1 ++ there.0, there.1))

  abbrev own_long : ℕ
  own_long = length (frame_text shape.format one.0)

  text_reaches : (m : ℕ) → ahead.rest.moments 0 ≤ m → 11 + walked + own_long ≤ length (text shape (frames m))
  text_reaches m le = (let here = stands_at m le in omega (arith, text_long shape held frames file m so.found here.0 one.0 here.1, so.gate_is))

  reaches : 11 + length (flat_map (frame_text shape.format) done) + own_long ≤ length (text shape (frames to))
  reaches = text_reaches to (ahead.rest.until 0)

  all_long : walked + own_long ≤ length (flat_map (frame_text shape.format) (frames to))
  all_long = omega (arith, reaches, length-text shape (frames to))

  byte_stood : (j : ℕ) → j < walked + own_long → j < length bytes → Stood shape held frames to (11 + j) (slice_index bytes j)
  byte_stood j near lt = elim (cases_lt j walked) [
    | inl below ↦ (
        let was = so.each j (omega (arith, below, length-take-le walked bytes (omega (arith, inside)))) in
        record { moment = was.moment; until = omega (arith, was.until, ahead.rest.since 0, ahead.rest.until 0); framed = was.framed; stood = sym (get_or-take walked bytes j 0 below) ∙ was.stood })
    | inr past ↦ (
        let i : ℕ = j - walked in
        let at : walked + i ≡ j = omega (arith, past) in
        let place : 11 + walked + i ≡ 11 + j = omega (arith, past) in
        record {
          moment = ahead.rest.moments i;
          until = ahead.rest.until i;
          framed = omega (arith, near, text_reaches (ahead.rest.moments i) (ahead.rest.ascend 0 i (omega arith)));
          stood = ap (slice_index bytes) (sym at) ∙ sym (get_or-drop walked bytes i 0) ∙ ahead.rest.stood i (omega (arith, at, lt, length-drop walked bytes))
              ∙ ap (slice_index (held (ahead.rest.moments i))) place;
        })
  ]

  byte_is : (j : ℕ) → j < walked + own_long → j < length bytes → (get_or bytes j 0 ≡ get_or (flat_map (frame_text shape.format) (frames to)) j 0) ⊎ MayDiffer shape 0 (frames to) j
  byte_is j near lt =
      let was = byte_stood j near lt in
      let grown = file.grows was.moment to was.until in
      elim (file.stands was.moment (11 + j) was.framed) [
        | inl same ↦ inl (
            was.stood ∙ same ∙ sym (get_or_append_left (text shape (frames was.moment)) (flat_map (frame_text shape.format) grown.0) 0 (11 + j) was.framed)
            ∙ ap (λ (bs : List ℕ). get_or bs (11 + j) 0) (sym (text-append shape (frames was.moment) grown.0) ∙ ap (text shape) (sym grown.1))
            ∙ get_or-append-add (header shape) (flat_map (frame_text shape.format) (frames to)) j 0)
        | inr differs ↦ inr (
            let place : differs.0 ≡ j = omega (arith, differs.1) in
            subst (λ i. MayDiffer shape 0 (frames to) i) place (subst (λ fs. MayDiffer shape 0 fs differs.0) (sym grown.1) (MayDiffer-append shape 0 (frames was.moment) grown.0 differs.0 differs.2)))
      ]

  -- with what was written behind them, so many bytes of the rest are the text of frames as they were read
  module _ (k : ℕ) (few : k ≤ length rest) (near : k ≤ own_long) where
    abbrev front : List ℕ
    front = flat_map (frame_text shape.format) done ++ take k rest

    abbrev pad : List ℕ
    pad = drop (walked + k) (flat_map (frame_text shape.format) (frames to))

    front_long : length (flat_map (frame_text shape.format) done ++ take k rest) ≡ walked + k
    front_long = omega (arith, length-append (flat_map (frame_text shape.format) done) (take k rest), length-take-le k rest few)

    bytes_are : bytes ≡ (flat_map (frame_text shape.format) done ++ take k rest) ++ drop k rest
    bytes_are = is ∙ ap (λ (bs : List ℕ). flat_map (frame_text shape.format) done ++ bs) (sym (take-append-drop k rest)) ∙ sym (append_assoc (flat_map (frame_text shape.format) done) (take k rest) (drop k rest))

    may_differ : AreTextThatMayDiffer shape 0 (frames to) (front ++ pad)
    may_differ = record {
      long = omega (arith, length-append front pad, front_long, length-drop (walked + k) (flat_map (frame_text shape.format) (frames to)), all_long, near);
      each = λ j lt. elim (cases_lt j (walked + k)) [
        | inl below ↦ (
            let same : get_or (front ++ pad) j 0 ≡ get_or bytes j 0 = get_or_append_left front pad 0 j (omega (arith, below, front_long)) ∙ sym (get_or_append_left front (drop k rest) 0 j (omega
            (arith, below, front_long))) ∙ ap (λ (bs : List ℕ). get_or bs j 0) (sym bytes_are) in
            elim (byte_is j (omega (arith, below, near)) (omega (arith, below, few, bytes_long))) [ inl is ↦ inl (same ∙ is) | inr differs ↦ inr differs ])
        | inr past ↦ (
            let i : ℕ = j - (walked + k) in
            let at : j ≡ length front + i = omega (arith, past, front_long) in
            let back : walked + k + i ≡ j = omega (arith, past) in
            inl (ap (λ n. get_or (front ++ pad) n 0) at ∙ get_or-append-add front pad i 0 ∙ get_or-drop (walked + k) (flat_map (frame_text shape.format) (frames to)) i 0
            ∙ ap (λ n. get_or (flat_map (frame_text shape.format) (frames to)) n 0) back))
      ];
    }

    begins_frame : BeginsFrame shape (tally_of done) (take k rest)
    begins_frame =
        let read = parses shape nothing 0 (frames to) (front ++ pad) (file.legal to) may_differ in
        let reads_legal = read_legal shape nothing 0 (frames to) read.reads (file.legal to) read.are in
        let whole : flat_map (frame_text shape.format) done ++ (take k rest ++ pad) ≡ flat_map (frame_text shape.format) read.reads ++ [] = sym (append_assoc (flat_map
        (frame_text shape.format) done) (take k rest) pad) ∙ read.text ∙ sym (append-nil (flat_map (frame_text shape.format) read.reads)) in
        let first = first_ones shape nothing done read.reads (take k rest ++ pad) [] (none_empty shape) whole legal reads_legal in
        by_left first.0 first.2 first.3
      where
        none_empty : (shape : Shape) (frame : Frame) (more : List ℕ) → [] ≡ frame_text shape.format frame ++ more → ⊥
        none_empty shape frame more is = absurd (omega (arith, ap length is, length-append (frame_text shape.format frame) more, length-frame_text shape.format frame))

        rest_long : length (take k rest ++ pad) ≡ k + (length (flat_map (frame_text shape.format) (frames to)) - (walked + k))
        rest_long = omega (arith, length-append (take k rest) pad, length-take-le k rest few, length-drop (walked + k) (flat_map (frame_text shape.format) (frames to)))

        by_left : (left : List Frame) → take k rest ++ pad ≡ flat_map (frame_text shape.format) left ++ [] → AreLegalFrom shape (tally_of done) left → BeginsFrame shape (tally_of done) (take k rest)
        by_left [] is keeps = absurd (omega (arith, ap length is, rest_long, all_long, near, length-frame_text shape.format one.0))
        by_left (frame ∷ left) is keeps = record {
          frame = frame;
          pad = pad;
          more = flat_map (frame_text shape.format) left ++ [];
          whole = keeps.0;
          may = keeps.1;
          is = is ∙ append_assoc (frame_text shape.format frame) (flat_map (frame_text shape.format) left) [];
        }

  -- a head is read as it was written
  told_is : 6 ≤ length rest → payload_len_in rest ≡ length (payload_of shape.format one.0)
  told_is long = told_same shape one.0 rest (legal_one (stands_at to (ahead.rest.until 0))) long (λ j small. head_same j small)
    where
      legal_one : (later : List Frame) × (frames to ≡ so.found ++ one.0 ∷ later) → IsFrame shape one.0
      legal_one here = (legal_behind shape nothing so.found (one.0 ∷ here.0) (subst (λ fs. AreLegal shape fs) here.1 (file.legal to))).0

      head_same : (j : ℕ) → j < 6 → get_or rest j 0 ≡ get_or (frame_text shape.format one.0) j 0
      head_same j small =
          let m : ℕ = ahead.rest.moments j in
          let here = stands_at m (ahead.rest.ascend 0 j (omega arith)) in
          let place : 11 + walked + j ≡ length (text shape so.found) + j = omega (arith, so.gate_is) in
          ap (λ (bs : List ℕ). get_or bs j 0) (sym rest_is) ∙ ahead.rest.stood j (omega (arith, small, long, ap length rest_is)) ∙ ap (slice_index (held m)) place
          ∙ head_byte shape held frames file m j so.found here.0 one.0 here.1 small

  -- So where what is ahead is at fault, it ends, and that before the file did.
  pub ahead_ends : (p : ℕ) (fault : ScanFault) → frame_fault shape p (tally_of done) rest ≡ Some fault → IsEnd fault × (11 + length bytes ≤ length (text shape (frames to)))
  ahead_ends p fault found = elim (cases_lt own_long (length rest)) [
    | inl lt ↦ (
        let k : ℕ = own_long in
        let begins = begins_frame own_long (omega (arith, lt)) (omega arith) in
        let long : length (frame_text shape.format one.0) ≡ 6 + length (payload_of shape.format one.0) = length-frame_text shape.format one.0 in
        let cut : length (take k rest) ≡ k = length-take-le k rest (omega (arith, lt)) in
        let own : List ℕ = frame_text shape.format begins.frame in
        let here : length own ≡ 6 + length (payload_of shape.format begins.frame) = length-frame_text shape.format begins.frame in
        let told : length (payload_of shape.format begins.frame) ≡ length (payload_of shape.format one.0)
        = sym (payload_len_in-frame_text shape.format begins.frame begins.more (small_payload shape begins.frame begins.whole)) ∙ ap payload_len_in (sym begins.is)
        ∙ payload_len_in-front (take k rest ++ begins.pad) rest (omega (arith, length-append (take k rest) begins.pad, cut, long)) (omega (arith, lt, long)) (λ j small. get_or_append_left (take k rest) begins.pad 0 j
        (omega (arith, cut, long, small)) ∙ get_or-take k rest j 0 (omega (arith, long, small)))
        ∙ told_is (omega (arith, lt, long)) in
        let is = front_is k (take k rest) begins.pad own begins.more begins.is (omega (arith, told, here, long)) (omega (arith, cut)) in
        let none : drop k (take k rest) ≡ [] = nil_from_length (drop k (take k rest)) (omega (arith, length-drop k (take k rest), cut)) in
        let whole : rest ≡ own ++ drop k rest = sym (take-append-drop k rest) ∙ ap (λ (bs : List ℕ). bs ++ drop k rest) (is ∙ ap (λ (bs : List ℕ). own ++ bs) none ∙ append-nil own) in
        let clash : Some fault ≡ None = sym found ∙ ap (frame_fault shape p (tally_of done)) whole ∙ frame_fault-frame_text shape p (tally_of done) begins.frame (drop k rest) begins.whole begins.may in
        absurd cc)
    | inr le ↦ (
      only_ends shape p (tally_of done) rest fault (subst (λ (bs : List ℕ). BeginsFrame shape (tally_of done) bs) (take_all (length rest) rest (omega arith)) (begins_frame (length rest) (omega arith) le)) some
          found,
      omega (arith, bytes_long, le, reaches),
    )
  ]
