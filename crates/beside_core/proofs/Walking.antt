-- What each call of a look adds to what it has found of the file of a pen.
use Rattle.std.proofs.Common.{◌≡◌, ℕ, ◌+◌, ◌-◌, ◌<◌, ◌≤◌, List, [], ◌∷◌, ◌++◌, length, take, drop, get_or, Some, None, refl, sym, ap, subst, ◌∙◌, arith}
use Rattle.std.proofs.Common.{append_assoc, length-append, inl, inr}
use Rattle.std.specs.Prelude.{slice_index}
use Rattle.std.specs.List.{flat_map}
use Rattle.std.specs.Int.{w32, from_le_bytes}
use Rattle.std.proofs.lemmas.List.{append-nil, get_or_append_left, get_or-append-add, get_or-take, length-take-le, take-append-drop, ext_get_or}
use Rattle.std.proofs.lemmas.List.Concat.{flat_map-append}
use Rattle.std.proofs.lemmas.Bool.{cases_lt}
use Rattle.disk_core.specs.Shared.{WereThere}
use Rattle.segment_core.specs.declared.format.Shape.{Shape}
use Rattle.segment_core.specs.declared.tally.Tally.{Tally}
use Rattle.segment_core.specs.Frame.{Frame, header, text, frame_text, payload_of, open_gate, frame_head_len}
use Rattle.segment_core.specs.Layout.{IsFrame, u32_at}
use Rattle.segment_core.specs.Tally.{nothing, after, tally_from, AreLegalFrom, AreLegal}
use Rattle.segment_core.specs.Fault.{payload_len_in, first_line, frame_lines}
use Rattle.segment_core.proofs.Payload.{length-frame_text, payload_len_in-frame_text, small_payload}
use Rattle.segment_core.proofs.Push.{length-text}
use Rattle.segment_core.proofs.Lines.{frame_lines-frame_text}
use Rattle.segment_core.proofs.Loose.{take_same}
use Rattle.beside_core.specs.PensFile.{IsPensFile}
use Rattle.beside_core.specs.MayDiffer.{MayDiffer}
use Rattle.beside_core.specs.declared.fault.LookFault.{LookFault}
use Rattle.beside_core.specs.declared.fault.LookFault.TheVariants.{Disk, Scan, NoRecord, TooFar, Memory}
use Rattle.beside_core.specs.Fault.{IsNoDamage, HasSeen}
use Rattle.beside_core.proofs.MayDiffer.{head_firm}

-- this byte stood in a frame that was there
pub record Stood (shape : Shape) (held : ℕ → List ℕ) (frames : ℕ → List Frame) (now place byte : ℕ) : Type 0 where
  pub moment : ℕ
  pub until : moment ≤ now
  pub framed : place < length (text shape (frames moment))
  pub stood : byte ≡ slice_index (held moment) place

-- from the gate behind known frames on, a look has found the frames up to this gate
pub record Walked (shape : Shape) (held : ℕ → List ℕ) (frames : ℕ → List Frame) (known : List Frame) (now gate : ℕ) (bytes : List ℕ) : Type 0 where
  pub found : List Frame
  pub stand : (more : List Frame) × (frames now ≡ (known ++ found) ++ more)
  pub gate_is : gate ≡ length (text shape (known ++ found))
  pub long : length bytes ≡ length (flat_map (frame_text shape.format) found)
  pub each : (j : ℕ) → j < length bytes → Stood shape held frames now (length (text shape known) + j) (slice_index bytes j)

-- the bytes of a frame, as many as its head tells, stood from its gate on
pub record TookFrame (held : ℕ → List ℕ) (from to gate next : ℕ) (got : List ℕ) : Type 0 where
  pub there : WereThere held from to gate got
  pub long : length got ≡ frame_head_len + payload_len_in got
  pub next_is : next ≡ gate + length got

pub text-append : (shape : Shape) (a b : List Frame) → text shape (a ++ b) ≡ text shape a ++ flat_map (frame_text shape.format) b
text-append shape a b =
    ap (λ (bs : List ℕ). header shape ++ bs) (flat_map-append (frame_text shape.format) a b)
    ∙ sym (append_assoc (header shape) (flat_map (frame_text shape.format) a) (flat_map (frame_text shape.format) b))

pub legal_behind : (shape : Shape) (tally : Tally) (known came : List Frame) → AreLegalFrom shape tally (known ++ came) → AreLegalFrom shape (tally_from tally known) came
legal_behind shape tally [] came legal = legal
legal_behind shape tally (frame ∷ known) came legal = legal_behind shape (after tally frame) known came legal.2

-- what a head tells, that stands as it was written
pub told_same : (shape : Shape) (frame : Frame) (got : List ℕ) → IsFrame shape frame → 6 ≤ length got → ((j : ℕ) → j < 6 → get_or got j 0 ≡ get_or (frame_text shape.format frame) j 0)
    → payload_len_in got ≡ length (payload_of shape.format frame)
unfolding u32_at
told_same shape frame got whole long same =
    let own = frame_text shape.format frame in
    let none : own ++ [] ≡ own = append-nil own in
    ap (from_le_bytes w32) (take_same 4 2 got (own ++ []) (omega (arith, long)) (omega (arith, ap length none, length-frame_text shape.format frame)) (λ j from before. same j (omega
    (arith, before)) ∙ ap (λ (bs : List ℕ). get_or bs j 0) (sym none)))
    ∙ payload_len_in-frame_text shape.format frame [] (small_payload shape frame whole)

shift : (a b c : List Frame) (frame : Frame) → (a ++ b) ++ frame ∷ c ≡ (a ++ (b ++ frame ∷ [])) ++ c
shift a b c frame =
    append_assoc a b (frame ∷ c)
    ∙ ap (λ (fs : List Frame). a ++ fs) (sym (append_assoc b (frame ∷ []) c))
    ∙ sym (append_assoc a (b ++ frame ∷ []) c)

module _ (shape : Shape) (held : ℕ → List ℕ) (frames : ℕ → List Frame) (file : IsPensFile shape held frames) where
  -- the frames that were there at one moment are there at a later one
  pub later_stand : (s t : ℕ) (found more : List Frame) → s ≤ t → frames s ≡ found ++ more → (rest : List Frame) × (frames t ≡ found ++ (more ++ rest))
  later_stand s t found more le is =
      let grown = file.grows s t le in
      (grown.0, grown.1 ∙ ap (λ (fs : List Frame). fs ++ grown.0) is ∙ append_assoc found more grown.0)

  pub text_long : (t : ℕ) (found later : List Frame) (frame : Frame) → frames t ≡ found ++ frame ∷ later
      → length (text shape found) + length (frame_text shape.format frame) ≤ length (text shape (frames t))
  text_long t found later frame is =
      let own = frame_text shape.format frame in
      let rest = flat_map (frame_text shape.format) later in
      omega (arith, ap (λ (fs : List Frame). length (text shape fs)) is, ap length (text-append shape found (frame ∷ later)), length-append (text shape found) (own ++ rest), length-append own rest)

  -- a head stands as it was written
  pub head_byte : (t j : ℕ) (found later : List Frame) (frame : Frame) → frames t ≡ found ++ frame ∷ later → j < 6
      → slice_index (held t) (length (text shape found) + j) ≡ slice_index (frame_text shape.format frame) j
  head_byte t j found later frame is small =
      let own = frame_text shape.format frame in
      let rest = flat_map (frame_text shape.format) later in
      let long : length own ≡ 6 + length (payload_of shape.format frame) = length-frame_text shape.format frame in
      elim (file.stands t (length (text shape found) + j) (omega (arith, text_long t found later frame is, long))) [
        | inl same ↦ (
            same
            ∙ ap (λ (bs : List ℕ). slice_index bs (length (text shape found) + j)) (ap (text shape) is ∙ text-append shape found (frame ∷ later))
            ∙ get_or-append-add (text shape found) (own ++ rest) j 0
            ∙ get_or_append_left own rest 0 j (omega (arith, long, small)))
        | inr differs ↦ (
            let header_long : length (header shape) ≡ 11 = refl in
            let place : differs.0 ≡ length (flat_map (frame_text shape.format) found) + j = omega (arith, differs.1, length-text shape found, header_long) in
            absurd
            (head_firm shape nothing 0 found frame later j small (subst (λ fs. AreLegal shape fs) is (file.legal t))
            (subst (λ fs. MayDiffer shape 0 fs (length (flat_map (frame_text shape.format) found) + j)) is (subst (λ i. MayDiffer shape 0 (frames t) i) place differs.2))))
      ]

  -- an open gate behind frames tells that there is one more
  pub one_more : (t : ℕ) (found more : List Frame) → frames t ≡ found ++ more → slice_index (held t) (length (text shape found)) ≡ open_gate
      → (frame : Frame) × (later : List Frame) × (frames t ≡ found ++ frame ∷ later)
  one_more t found [] is opened = absurd (file.closed t (ap (λ (fs : List Frame). slice_index (held t) (length (text shape fs))) (is ∙ append-nil found) ∙ opened))
  one_more t found (frame ∷ later) is opened = (frame, later, is)

  -- a closed one, that there is none at that moment
  pub no_more : (t : ℕ) (found more : List Frame) → frames t ≡ found ++ more → (slice_index (held t) (length (text shape found)) ≡ open_gate → ⊥) → frames t ≡ found
  no_more t found [] is not = is ∙ append-nil found
  no_more t found (frame ∷ later) is not =
      let first : length (text shape found) ≡ length (text shape found) + 0 = omega arith in
      absurd (not (ap (slice_index (held t)) first ∙ head_byte t 0 found later frame is (omega arith)))

  module _ (known : List Frame) where
    pub later_stood : (s t place byte : ℕ) → s ≤ t → Stood shape held frames s place byte → Stood shape held frames t place byte
    later_stood s t place byte le stood = record { moment = stood.moment; until = omega (arith, stood.until); framed = stood.framed; stood = stood.stood }

    pub walked_nothing : (now : ℕ) (more : List Frame) → frames now ≡ known ++ more → Walked shape held frames known now (length (text shape known)) []
    walked_nothing now more is = record {
      found = [];
      stand = (more, is ∙ ap (λ (fs : List Frame). fs ++ more) (sym (append-nil known)));
      gate_is = ap (λ (fs : List Frame). length (text shape fs)) (sym (append-nil known));
      long = refl;
      each = λ j lt. absurd (omega (arith, lt));
    }

    -- what was found at one moment was so at a later one
    unfoldable pub later_walked : (s t gate : ℕ) (bytes : List ℕ) → s ≤ t → Walked shape held frames known s gate bytes → Walked shape held frames known t gate bytes
    later_walked s t gate bytes st walked = record {
      found = walked.found;
      stand = (let there = later_stand s t (known ++ walked.found) walked.stand.0 st walked.stand.1 in (walked.stand.0 ++ there.0, there.1));
      gate_is = walked.gate_is;
      long = walked.long;
      each = λ j lt. later_stood s t (length (text shape known) + j) (slice_index bytes j) st (walked.each j lt);
    }

    -- one frame more, behind an open gate
    pub walked_more : (s t gate next : ℕ) (bytes got : List ℕ) → s ≤ t → (walked : Walked shape held frames known s gate bytes)
        → (frame : Frame) × (later : List Frame) × (frames s ≡ (known ++ walked.found) ++ frame ∷ later) → TookFrame held s t gate next got → Walked shape held frames known t next (bytes ++ got)
    walked_more s t gate next bytes got st walked one took = record {
      found = walked.found ++ one.0 ∷ [];
      stand = (let there = later_stand s t before (one.0 ∷ one.1) st one.2 in (one.1 ++ there.0, there.1 ∙ shift known walked.found (one.1 ++ there.0) one.0));
      gate_is = next_at;
      long = omega (
        arith,
        length-append bytes got,
        walked.long,
        got_long,
        ap length (flat_map-append (frame_text shape.format) walked.found
            (one.0 ∷ [])),
        length-append (flat_map (frame_text shape.format) walked.found) (own ++ []),
        ap length (append-nil own),
      );
      each = λ j lt. byte j (omega (arith, lt, length-append bytes got));
    }
      where
        before : List Frame
        before = known ++ walked.found

        own : List ℕ
        own = frame_text shape.format one.0

        at : (m : ℕ) → s ≤ m → (later : List Frame) × (frames m ≡ (known ++ walked.found) ++ one.0 ∷ later)
        at m le = let there = later_stand s m (known ++ walked.found) (one.0 ∷ one.1) le one.2 in (one.1 ++ there.0, there.1)

        whole : IsFrame shape one.0
        whole = (legal_behind shape nothing (known ++ walked.found) (one.0 ∷ one.1) (subst (λ fs. AreLegal shape fs) one.2 (file.legal s))).0

        own_long : length own ≡ 6 + length (payload_of shape.format one.0)
        own_long = length-frame_text shape.format one.0

        head_same : (j : ℕ) → j < 6 → get_or got j 0 ≡ get_or own j 0
        head_same j small =
            let was = took.there j (omega (arith, small, took.long)) in
            let here = at was.moment was.since in
            was.stood ∙ ap (λ p. slice_index (held was.moment) (p + j)) walked.gate_is ∙ head_byte was.moment j (known ++ walked.found) here.0 one.0 here.1 small

        told : payload_len_in got ≡ length (payload_of shape.format one.0)
        told = told_same shape one.0 got whole (omega (arith, took.long)) head_same

        got_long : length got ≡ length own
        got_long = omega (arith, took.long, told, own_long)

        next_at : next ≡ length (text shape (known ++ (walked.found ++ one.0 ∷ [])))
        next_at = omega (
          arith,
          took.next_is,
          walked.gate_is,
          got_long,
          ap (λ (fs : List Frame). length (text shape fs)) (append_assoc known walked.found (one.0 ∷ [])),
          ap length
              (text-append shape (known ++ walked.found) (one.0 ∷ [])),
          length-append (text shape (known ++ walked.found)) (own ++ []),
          ap length (append-nil own),
        )

        byte : (j : ℕ) → j < length bytes + length got → Stood shape held frames t (length (text shape known) + j) (slice_index (bytes ++ got) j)
        byte j lt = elim (cases_lt j (length bytes)) [
          | inl below ↦ subst (λ b. Stood shape held frames t (length (text shape known) + j) b) (sym (get_or_append_left bytes got 0 j below)) (later_stood s t (length
              (text shape known) + j) (slice_index bytes j) st (walked.each j below))
          | inr past ↦ (
              let i : ℕ = j - length bytes in
              let is : j ≡ length bytes + i = omega arith in
              let small : i < length got = omega (arith, lt) in
              let was = took.there i small in
              let here = at was.moment was.since in
              let place : gate + i ≡ length (text shape known) + j = omega (
                arith,
                walked.gate_is,
                walked.long,
                ap length (text-append shape known walked.found),
                length-append
                    (text shape known) (flat_map (frame_text shape.format) walked.found),
              ) in
              record {
                moment = was.moment;
                until = was.until;
                framed = omega (arith, place, small, got_long, walked.gate_is, text_long was.moment (known ++ walked.found) here.0 one.0 here.1);
                stood = ap (λ k. slice_index (bytes ++ got) k) is ∙ get_or-append-add bytes got i 0 ∙ was.stood ∙ ap (λ p. slice_index (held was.moment) p) place;
              })
        ]

    -- and what was read of it isn't at fault
    pub no_damage : (s t gate : ℕ) (bytes : List ℕ) (fault : LookFault) → (walked : Walked shape held frames known s gate bytes)
        → (frame : Frame) × (later : List Frame) × (frames s ≡ (known ++ walked.found) ++ frame ∷ later) → HasSeen shape held s t gate fault → IsNoDamage fault
    no_damage s t gate bytes (Disk fault) walked one seen = tt
    no_damage s t gate bytes (NoRecord position) walked one seen = absurd seen
    no_damage s t gate bytes TooFar walked one seen = tt
    no_damage s t gate bytes Memory walked one seen = tt
    no_damage s t gate bytes (Scan fault) walked one seen =
        let own : List ℕ = frame_text shape.format one.0 in
        let head : List ℕ = seen.0 in
        let whole : IsFrame shape one.0 = (legal_behind shape nothing (known ++ walked.found) (one.0 ∷ one.1) (subst (λ fs. AreLegal shape fs) one.2 (file.legal s))).0 in
        let own_long : length own ≡ 6 + length (payload_of shape.format one.0) = length-frame_text shape.format one.0 in
        let cut : length (take 6 own) ≡ 6 = length-take-le 6 own (omega (arith, own_long)) in
        let same : head ≡ take 6 own
        = ext_get_or 0 head (take 6 own) (seen.1 ∙ sym cut) (λ j lt. (
        let small : j < 6 = omega (arith, lt, seen.1) in
        let was = seen.2 j lt in
        let there = later_stand s was.moment (known ++ walked.found) (one.0 ∷ one.1) was.since one.2 in
        was.stood ∙ ap (λ p. slice_index (held was.moment) (p + j)) walked.gate_is ∙ head_byte was.moment j (known ++ walked.found) (one.1 ++ there.0) one.0 there.1 small
        ∙ sym (get_or-take 6 own j 0 small))) in
        let all : head ++ drop 6 own ≡ own ++ [] = ap (λ (bs : List ℕ). bs ++ drop 6 own) same ∙ take-append-drop 6 own ∙ sym (append-nil own) in
        let some = (seen.3 (drop 6 own)).1 in
        let none = frame_lines-frame_text shape gate one.0 [] whole in
        let clash : Some fault ≡ None = sym some ∙ ap (λ (bs : List ℕ). first_line (frame_lines shape gate bs)) all ∙ none in
        absurd cc
