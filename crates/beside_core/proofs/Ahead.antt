-- A look that has read ahead of the frames that it has found.
use Rattle.std.proofs.Common.{◌≡◌, ℕ, ◌+◌, ◌-◌, ◌<◌, ◌≤◌, List, [], ◌∷◌, ◌++◌, length, take, drop, get_or, sym, ap, subst, ◌∙◌, arith, length-append}
use Rattle.std.specs.Prelude.{slice_index}
use Rattle.std.proofs.lemmas.List.{get_or_append_left, get_or-drop, get_or-take, length-drop, length-take-le, take-append-le, drop-append-le, drop-drop}
use Rattle.std.proofs.Math.Seq.{take-add}
use Rattle.disk_core.specs.Shared.{WasThere, WereThere, InTurn}
use Rattle.segment_core.specs.declared.format.Shape.{Shape}
use Rattle.segment_core.specs.declared.fault.ScanFault.{ScanFault}
use Rattle.segment_core.specs.Frame.{Frame, text, open_gate, closed_gate}
use Rattle.segment_core.specs.Fault.{payload_len_in}
use Rattle.segment_core.specs.Reading.{IsFaulty}
use Rattle.beside_core.specs.declared.fault.LookFault.TheVariants.{Scan}
use Rattle.beside_core.specs.Fault.{HasSeen}
use Rattle.beside_core.specs.Look.{ReadBehind, LookedOn}
use Rattle.beside_core.specs.PensFile.{IsPensFile}
use Rattle.beside_core.proofs.Looked.{looked_end}
use Rattle.beside_core.proofs.Taken.{read_of, were_there, in_turn_none, in_turn_more, in_turn_behind, payload_len_in-front}
use Rattle.beside_core.proofs.Walking.{Walked, TookFrame, walked_nothing, walked_more, later_walked, no_damage, later_stand, one_more}

-- Of the text from a place on, so many bytes are frames that were found at some moment; those behind were read since, one
-- after the other.
pub record Ahead (shape : Shape) (held : ℕ → List ℕ) (from now at walked : ℕ) (bytes : List ℕ) : Type 0 where
  pub moment : ℕ
  pub begun : from ≤ moment
  pub inside : walked ≤ length bytes
  pub rest : InTurn held moment now (at + walked) (drop walked bytes)
  pub found : (frames : ℕ → List Frame) (known : List Frame) → IsPensFile shape held frames → at ≡ length (text shape known) → (more : List Frame) × (frames from ≡ known ++ more)
      → Walked shape held frames known moment (at + walked) (take walked bytes)

pub ahead_nothing : (shape : Shape) (held : ℕ → List ℕ) (now at : ℕ) → Ahead shape held now now at 0 []
ahead_nothing shape held now at = record {
  moment = now;
  begun = omega arith;
  inside = omega arith;
  rest = in_turn_none held now now (at + 0) (omega arith);
  found = λ frames known file is more. (
      let place : length (text shape known) ≡ at + 0 = omega (arith, is) in
      subst (λ p. Walked shape held frames known now p []) place (walked_nothing shape held frames file known now more.0 more.1));
}

module _ (shape : Shape) (held : ℕ → List ℕ) (from now at walked : ℕ) (bytes : List ℕ) (ahead : Ahead shape held from now at walked bytes) where
  -- more was read behind
  pub ahead_more : (kept : Type 0) (later : ℕ) (after : List ℕ) → kept → now ≤ later → ReadBehind kept held now later (at + length bytes) bytes after → Ahead shape held from later at walked after
  ahead_more kept later after model le read = record {
    moment = ahead.moment;
    begun = ahead.begun;
    inside = omega (arith, ahead.inside, ap length read.after_is, length-append bytes read.got);
    rest = subst (λ (bs : List ℕ). InTurn held ahead.moment later (at + walked) bs) (sym (ap (drop walked) read.after_is ∙ drop-append_le))
        (in_turn_more held ahead.moment now later (at + walked) (drop walked bytes) read.got (omega (arith, ahead.rest.since 0, ahead.rest.until 0)) le ahead.rest
        (subst (λ p. InTurn held now later p read.got) behind (read.there model)));
    found = λ frames known file known_is more. subst (λ (bs : List ℕ). Walked shape held frames known ahead.moment (at + walked) bs)
        (sym (ap (take walked) read.after_is ∙ take-append_le)) (ahead.found frames known file known_is more);
  }
    where
      drop-append_le : drop walked (bytes ++ read.got) ≡ drop walked bytes ++ read.got
      drop-append_le = drop-append-le walked bytes read.got ahead.inside

      take-append_le : take walked (bytes ++ read.got) ≡ take walked bytes
      take-append_le = take-append-le walked bytes read.got ahead.inside

      behind : at + length bytes ≡ at + walked + length (drop walked bytes)
      behind = omega (arith, ahead.inside, length-drop walked bytes)

  -- the first byte that is ahead
  pub gate_there : walked < length bytes → WasThere held ahead.moment now (at + walked) (slice_index bytes walked)
  gate_there some =
      let lt : 0 < length (drop walked bytes) = omega (arith, some, length-drop walked bytes) in
      let was = were_there held ahead.moment now (at + walked) (drop walked bytes) ahead.rest 0 lt in
      let place : at + walked + 0 ≡ at + walked = omega arith in
      let index : walked + 0 ≡ walked = omega arith in
      subst (λ p. WasThere held ahead.moment now p (slice_index bytes walked)) place
      (subst (λ b. WasThere held ahead.moment now (at + walked + 0) b) (get_or-drop walked bytes 0 0 ∙ ap (slice_index bytes) index) was)

  -- the head that is ahead
  module _ (long : walked + 6 ≤ length bytes) where
    pub head_long : length (take 6 (drop walked bytes)) ≡ 6
    head_long = length-take-le 6 (drop walked bytes) (omega (arith, long, length-drop walked bytes))

    -- since its gate was read
    pub head_since : WereThere held (ahead.rest.moments 0) now (at + walked) (take 6 (drop walked bytes))
    head_since j lt =
        let small : j < 6 = omega (arith, lt, head_long) in
        let inside : j < length (drop walked bytes) = omega (arith, small, long, length-drop walked bytes) in
        record {
          moment = ahead.rest.moments j;
          since = ahead.rest.ascend 0 j (omega arith);
          until = ahead.rest.until j;
          inside = ahead.rest.inside j inside;
          stood = get_or-take 6 (drop walked bytes) j 0 small ∙ ahead.rest.stood j inside;
        }

    -- and what it is refused for
    pub head_seen : (fault : ScanFault) → IsFaulty shape (at + walked) (take 6 (drop walked bytes)) fault → HasSeen shape held from now (at + walked) (Scan fault)
    head_seen fault is = (
      take 6 (drop walked bytes),
      head_long,
      λ j lt. (
          let was = head_since j lt in
          record { moment = was.moment; since = omega (arith, was.since, ahead.begun, ahead.rest.since 0); until = was.until; inside = was.inside; stood = was.stood }),
      is,
    )

  -- a frame stands behind the open gate that is ahead
  module _ (frames : ℕ → List Frame) (known : List Frame) (file : IsPensFile shape held frames) (known_is : at ≡ length (text shape known))
      (more : (more : List Frame) × (frames from ≡ known ++ more)) where
    pub so_far : Walked shape held frames known ahead.moment (at + walked) (take walked bytes)
    so_far = ahead.found frames known file known_is more

    -- the frames that were found, and one more, stood when the first byte ahead was read open
    pub frame_behind : walked < length bytes → slice_index bytes walked ≡ open_gate
        → (frame : Frame) × (later : List Frame) × (frames (ahead.rest.moments 0) ≡ (known ++ so_far.found) ++ frame ∷ later)
    frame_behind some opened =
        let m : ℕ = ahead.rest.moments 0 in
        let there = later_stand shape held frames file ahead.moment m (known ++ so_far.found) so_far.stand.0 (ahead.rest.since 0) so_far.stand.1 in
        let lt : 0 < length (drop walked bytes) = omega (arith, some, length-drop walked bytes) in
        let place : at + walked + 0 ≡ length (text shape (known ++ so_far.found)) = omega (arith, so_far.gate_is) in
        let index : walked + 0 ≡ walked = omega arith in
        one_more shape held frames file m (known ++ so_far.found) (so_far.stand.0 ++ there.0) there.1
        (ap (slice_index (held m)) (sym place) ∙ sym (ahead.rest.stood 0 lt) ∙ get_or-drop walked bytes 0 0 ∙ ap (slice_index bytes) index ∙ opened)

    -- and still at the moment of that byte, if they are read so
    stood_then : Walked shape held frames known (ahead.rest.moments 0) (at + walked) (take walked bytes)
    stood_then = later_walked shape held frames file known ahead.moment (ahead.rest.moments 0) (at + walked) (take walked bytes) (ahead.rest.since 0) so_far

    -- a head that stands there is not at fault
    pub sound_ahead : walked < length bytes → slice_index bytes walked ≡ open_gate → (long : walked + 6 ≤ length bytes) → (fault : ScanFault)
        → IsFaulty shape (at + walked) (take 6 (drop walked bytes)) fault → ⊥
    unfolding stood_then later_walked so_far
    sound_ahead some opened long fault is =
        no_damage shape held frames file known (ahead.rest.moments 0) now (at + walked) (take walked bytes) (Scan fault) stood_then (frame_behind some opened)
        (take 6 (drop walked bytes), head_long long, head_since long, is)

    -- what is ahead up to a gate that isn't open is all that stood when that one was read
    pub looked_ahead : walked < length bytes → (slice_index bytes walked ≡ open_gate → ⊥) → LookedOn shape frames known from now (at + walked) (take walked bytes ++ closed_gate ∷ [])
    looked_ahead some closed = looked_end shape held frames file known from ahead.moment now (at + walked) (slice_index bytes walked) (take walked bytes) ahead.begun so_far closed (gate_there some)

-- one frame more was found
pub ahead_frame : (shape : Shape) (held : ℕ → List ℕ) (from now at walked n : ℕ) (bytes : List ℕ) → (ahead : Ahead shape held from now at walked bytes) → walked < length bytes
    → slice_index bytes walked ≡ open_gate → n ≡ 6 + payload_len_in (drop walked bytes) → walked + n ≤ length bytes → Ahead shape held from now at (walked + n) bytes
unfolding stood_then later_walked so_far
ahead_frame shape held from now at walked n bytes ahead some opened told long = record {
  moment = ahead.rest.moments n;
  begun = omega (arith, ahead.begun, ahead.rest.since n);
  inside = long;
  rest = subst (λ p. InTurn held (ahead.rest.moments n) now p (drop (walked + n) bytes)) place
      (subst (λ (bs : List ℕ). InTurn held (ahead.rest.moments n) now (at + walked + n) bs) (drop-drop n walked bytes)
      (in_turn_behind held ahead.moment now (at + walked) n (drop walked bytes) ahead.rest));
  found = λ frames known file known_is more. (
      let walked_then = stood_then shape held from now at walked bytes ahead frames known file known_is more in
      let one = frame_behind shape held from now at walked bytes ahead frames known file known_is more some opened in
      subst (λ p. Walked shape held frames known (ahead.rest.moments n) p (take (walked + n) bytes)) place
      (subst (λ (bs : List ℕ). Walked shape held frames known (ahead.rest.moments n) (at + walked + n) bs) (sym (take-add walked n bytes))
      (walked_more shape held frames file known (ahead.rest.moments 0) (ahead.rest.moments n) (at + walked) (at + walked + n) (take walked bytes) (take n (drop walked bytes))
      (ahead.rest.ascend 0 n (omega arith)) walked_then one took)));
}
  where
    place : at + walked + n ≡ at + (walked + n)
    place = omega arith

    behind_long : n ≤ length (drop walked bytes)
    behind_long = omega (arith, long, length-drop walked bytes)

    got_long : length (take n (drop walked bytes)) ≡ n
    got_long = length-take-le n (drop walked bytes) behind_long

    took : TookFrame held (ahead.rest.moments 0) (ahead.rest.moments n) (at + walked) (at + walked + n) (take n (drop walked bytes))
    took = record {
      there = λ j lt. (
          let small : j < n = omega (arith, lt, got_long) in
          let inside : j < length (drop walked bytes) = omega (arith, small, behind_long) in
          record {
            moment = ahead.rest.moments j;
            since = ahead.rest.ascend 0 j (omega arith);
            until = ahead.rest.ascend j n (omega (arith, small));
            inside = ahead.rest.inside j inside;
            stood = get_or-take n (drop walked bytes) j 0 small ∙ ahead.rest.stood j inside;
          });
      long = got_long ∙ told ∙ ap (λ k. 6 + k) (sym (payload_len_in-front (take n (drop walked bytes)) (drop walked bytes) (omega (arith, got_long, told)) (omega (arith, behind_long, told))
          (λ j small. get_or-take n (drop walked bytes) j 0 (omega (arith, small, told)))));
      next_is = ap (λ k. at + walked + k) (sym got_long);
    }

-- ---- what is read behind bytes leaves them as they are

module _ (kept : Type 0) (held : ℕ → List ℕ) (from to place walked : ℕ) (before after : List ℕ) (read : ReadBehind kept held from to place before after) where
  pub byte_stays : walked < length before → slice_index after walked ≡ slice_index before walked
  byte_stays some = ap (λ (bs : List ℕ). slice_index bs walked) read.after_is ∙ get_or_append_left before read.got 0 walked some

  pub len_stays : walked + 6 ≤ length before → payload_len_in (take 6 (drop walked before)) ≡ payload_len_in (drop walked after)
  len_stays long =
      let whole : drop walked after ≡ drop walked before ++ read.got = ap (drop walked) read.after_is ∙ drop-append-le walked before read.got (omega (arith, long)) in
      let front : length (take 6 (drop walked before)) ≡ 6 = length-take-le 6 (drop walked before) (omega (arith, long, length-drop walked before)) in
      payload_len_in-front (take 6 (drop walked before)) (drop walked after) (omega (arith, front)) (omega (
        arith,
        ap length whole,
        length-append (drop walked before) read.got,
        long,
        length-drop walked before,
      )) (λ j small. get_or-take 6 (drop walked before) j 0 small ∙ sym (ap (λ (bs : List ℕ). get_or bs j 0) whole ∙ get_or_append_left (drop walked before) read.got 0 j
      (omega (arith, small, long, length-drop walked before))))

-- ---- a turn: a gate that is read open, a head, and the rest of its frame

pub record HeadAhead (shape : Shape) (held : ℕ → List ℕ) (from now at walked : ℕ) (bytes : List ℕ) : Type 0 where
  pub ahead : Ahead shape held from now at walked bytes
  pub opened : slice_index bytes walked ≡ open_gate
  pub long : walked + 6 ≤ length bytes

module _ (shape : Shape) (held : ℕ → List ℕ) (from at walked : ℕ) where
  pub head_ahead : (kept then : Type 0) (file next : ℕ → List ℕ) (s t u : ℕ) (text first second : List ℕ) → Ahead shape held from s at walked text → file ≡ held → next ≡ held → s ≤ t → t ≤ u → kept → then
      → ReadBehind kept file s t (at + length text) text first → walked < length first → slice_index first walked ≡ open_gate
      → ReadBehind then next t u (at + length first) first second → walked + 6 ≤ length second → HeadAhead shape held from u at walked second
  head_ahead kept then file next s t u text first second ahead same also st tu model still read some opened more long = record {
    ahead = ahead_more shape held from t at walked first (ahead_more shape held from s at walked text ahead kept t first model st (read_of kept file held s t (at + length text) text first same read))
        then u second still tu (read_of then next held t u (at + length first) first second also more);
    opened = byte_stays then next t u (at + length first) walked first second more some ∙ opened;
    long = long;
  }

  pub turn_ahead : (kept : Type 0) (file : ℕ → List ℕ) (s t len : ℕ) (text after : List ℕ) → HeadAhead shape held from s at walked text → file ≡ held → s ≤ t → kept
      → ReadBehind kept file s t (at + length text) text after → len ≡ payload_len_in (take 6 (drop walked text)) → walked + (6 + len) ≤ length after
      → Ahead shape held from t at (walked + (6 + len)) after
  turn_ahead kept file s t len text after head same st model read told long =
      ahead_frame shape held from t at walked (6 + len) after
      (ahead_more shape held from s at walked text head.ahead kept t after model st (read_of kept file held s t (at + length text) text after same read)) (omega (arith, long))
      (byte_stays kept file s t (at + length text) walked text after read (omega (arith, head.long)) ∙ head.opened)
      (ap (λ n. 6 + n) (told ∙ len_stays kept file s t (at + length text) walked text after read head.long)) long

  -- what a head is refused for, as its bytes stand
  pub faulty_ahead : (gate : ℕ) (slice text : List ℕ) (fault : ScanFault) → at + walked ≡ gate → slice ≡ text → IsFaulty shape gate (take (walked + 6 - walked) (drop walked slice)) fault
      → IsFaulty shape (at + walked) (take 6 (drop walked text)) fault
  faulty_ahead gate slice text fault place same faulty =
      let six : walked + 6 - walked ≡ 6 = omega arith in
      subst (λ p. IsFaulty shape p (take 6 (drop walked text)) fault) (sym place) (subst (λ n. IsFaulty shape gate (take n (drop walked text)) fault) six
      (subst (λ (bs : List ℕ). IsFaulty shape gate (take (walked + 6 - walked) (drop walked bs)) fault) same faulty))
