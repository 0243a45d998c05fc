-- Frames that are counted by their heads.
use Rattle.std.proofs.Common.{◌≡◌, ℕ, ◌+◌, ◌≤◌, ◌<◌, List, [], ◌∷◌, ◌++◌, length, get_or, refl, sym, ap, subst, ◌∙◌, arith, append_assoc, length-append}
use Rattle.std.specs.Prelude.{slice_index}
use Rattle.std.specs.List.{flat_map}
use Rattle.std.proofs.lemmas.List.{append-nil}
use Rattle.segment_core.specs.declared.format.Shape.{Shape}
use Rattle.segment_core.specs.Frame.{Frame, text, frame_text, payload_of}
use Rattle.segment_core.specs.Layout.{IsFrame}
use Rattle.segment_core.specs.Tally.{nothing, AreLegal}
use Rattle.segment_core.specs.Fault.{payload_len_in}
use Rattle.segment_core.proofs.Payload.{length-frame_text}
use Rattle.beside_core.specs.Counting.{StepsOver}
use Rattle.beside_core.specs.declared.fault.LookFault.{LookFault}
use Rattle.beside_core.specs.Fault.{IsNoDamage, HasSeen}
use Rattle.beside_core.specs.PensFile.{IsPensFile}
use Rattle.beside_core.proofs.Walking.{Walked, text-append, legal_behind, told_same, head_byte, no_damage}

-- so many of the known frames stand before this gate
pub record Counted (shape : Shape) (known : List Frame) (gate count : ℕ) : Type 0 where
  pub done : List Frame
  pub rest : List Frame
  pub known_is : known ≡ done ++ rest
  pub gate_is : gate ≡ length (text shape done)
  pub count_is : count ≡ length done

pub counted_none : (shape : Shape) (known : List Frame) → Counted shape known 11 0
counted_none shape known = record { done = []; rest = known; known_is = refl; gate_is = refl; count_is = refl }

-- one stands at the gate, if it lies before the last one's end
next_in : (shape : Shape) (known done rest : List Frame) → known ≡ done ++ rest → length (text shape done) < length (text shape known)
    → (frame : Frame) × (later : List Frame) × (rest ≡ frame ∷ later)
next_in shape known done [] is before =
    let all : length (text shape known) ≡ length (text shape done) = ap (λ (fs : List Frame). length (text shape fs)) (is ∙ append-nil done) in
    absurd (omega (arith, before, all))
next_in shape known done (frame ∷ later) is before = (frame, later, refl)

-- behind the last one's end there is none
none_behind : (shape : Shape) (known done rest : List Frame) → known ≡ done ++ rest → length (text shape known) ≤ length (text shape done) → rest ≡ []
none_behind shape known done [] is past = refl
none_behind shape known done (frame ∷ later) is past =
    let own = frame_text shape.format frame in
    let all : length (text shape known) ≡ length (text shape done ++ (own ++ flat_map (frame_text shape.format) later))
    = ap length (ap (text shape) is ∙ text-append shape done (frame ∷ later)) in
    absurd (omega (
      arith,
      past,
      all,
      length-append (text shape done) (own ++ flat_map (frame_text shape.format) later),
      length-append own (flat_map (frame_text shape.format) later),
      length-frame_text shape.format frame,
    ))

pub counted_all : (shape : Shape) (known : List Frame) (gate count : ℕ) → Counted shape known gate count → length (text shape known) ≤ gate → count ≡ length known
counted_all shape known gate count c past =
    let none : c.rest ≡ [] = none_behind shape known c.done c.rest c.known_is (omega (arith, past, c.gate_is)) in
    c.count_is ∙ sym (ap length (c.known_is ∙ ap (λ (fs : List Frame). c.done ++ fs) none ∙ append-nil c.done))

module _ (shape : Shape) (held : ℕ → List ℕ) (frames : ℕ → List Frame) (file : IsPensFile shape held frames) (known more : List Frame) (s t gate count : ℕ)
    (stand : frames s ≡ known ++ more) (c : Counted shape known gate count) (before : gate < length (text shape known)) where
  one : (frame : Frame) × (later : List Frame) × (c.rest ≡ frame ∷ later)
  one = next_in shape known c.done c.rest c.known_is (omega (arith, before, c.gate_is))

  known_so : known ≡ c.done ++ one.0 ∷ one.1
  known_so = c.known_is ∙ ap (λ (fs : List Frame). c.done ++ fs) one.2

  at : (m : ℕ) → s ≤ m → (later : List Frame) × (frames m ≡ c.done ++ one.0 ∷ later)
  at m le =
      let grown = file.grows s m le in (
        one.1 ++ (more ++ grown.0),
        grown.1 ∙ ap (λ (fs : List Frame). fs ++ grown.0) stand ∙ append_assoc known more grown.0 ∙ ap (λ (fs : List Frame). fs ++ (more ++ grown.0)) known_so
            ∙ append_assoc c.done (one.0 ∷ one.1) (more ++ grown.0),
      )

  whole : IsFrame shape one.0
  whole = let here = at s (omega arith) in (legal_behind shape nothing c.done (one.0 ∷ here.0) (subst (λ fs. AreLegal shape fs) here.1 (file.legal s))).0

  pub counted_more : (next : ℕ) → StepsOver held s t gate next → Counted shape known next (count + 1)
  counted_more next step = record {
    done = c.done ++ one.0 ∷ [];
    rest = one.1;
    known_is = known_so ∙ sym (append_assoc c.done (one.0 ∷ []) one.1);
    gate_is = omega (
      arith,
      step.next_is,
      c.gate_is,
      told,
      length-frame_text shape.format one.0,
      ap length (text-append shape c.done (one.0 ∷ [])),
      length-append (text shape c.done) (own ++ []),
      ap length (append-nil own),
    );
    count_is = omega (arith, c.count_is, length-append c.done (one.0 ∷ []));
  }
    where
      own : List ℕ
      own = frame_text shape.format one.0

      head_same : (j : ℕ) → j < 6 → get_or step.head j 0 ≡ get_or own j 0
      head_same j small =
          let was = step.there j (omega (arith, small, step.long)) in
          let here = at was.moment was.since in
          was.stood ∙ ap (λ p. slice_index (held was.moment) (p + j)) c.gate_is ∙ head_byte shape held frames file was.moment j c.done here.0 one.0 here.1 small

      told : payload_len_in step.head ≡ length (payload_of shape.format one.0)
      told = told_same shape one.0 step.head whole (omega (arith, step.long)) head_same

  pub counted_sound : (fault : LookFault) → HasSeen shape held s t gate fault → IsNoDamage fault
  counted_sound fault seen =
      let here = at s (omega arith) in
      let is : frames s ≡ (c.done ++ []) ++ one.0 ∷ here.0 = here.1 ∙ ap (λ (fs : List Frame). fs ++ one.0 ∷ here.0) (sym (append-nil c.done)) in
      let walked : Walked shape held frames c.done s gate [] = record {
        found = [];
        stand = (one.0 ∷ here.0, is);
        gate_is = c.gate_is ∙ ap (λ (fs : List Frame). length (text shape fs)) (sym (append-nil c.done));
        long = refl;
        each = λ j lt. absurd (omega (arith, lt));
      } in
      no_damage shape held frames file c.done s t gate [] fault walked (one.0, here.0, is) seen
