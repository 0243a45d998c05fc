-- What bytes show that were read in turn of the file of a pen.
use Rattle.std.proofs.Common.{◌≡◌, ◌⊎◌, ℕ, ◌+◌, ◌<◌, ◌≤◌, ◌^◌, true, List, [], ◌∷◌, ◌++◌, length, take, drop, Some, None, Ok, Err, refl, sym, ap, subst, ◌∙◌, arith, append_assoc, inl, inr}
use Rattle.std.specs.Prelude.{◌≢◌, slice_index, slice_get, Option, Result, MatchResult, MatchOption}
use Rattle.std.specs.List.{flat_map}
use Rattle.std.proofs.lemmas.Bool.{cases_lt, cases_eq}
use Rattle.std.proofs.lemmas.List.{append-nil, nil_from_length, length-append, length-drop, length-take-le, get_or-take, get_or-drop, take-append-drop, drop-drop, drop_at, take_at}
use Rattle.std.proofs.Math.Seq.{drop-append_seam}
use Rattle.disk_core.specs.Shared.{WereThere, InTurn}
use Rattle.record_core.specs.Bytes.{Encoding}
use Rattle.segment_core.specs.declared.fault.Cause.TheVariants.{NoGate}
use Rattle.segment_core.specs.declared.fault.ScanFault.{ScanFault}
use Rattle.segment_core.specs.declared.fault.ScanFault.TheVariants.{Unborn, NotSegment, Width}
use Rattle.segment_core.specs.declared.format.Shape.{Shape}
use Rattle.segment_core.specs.declared.tally.Tally.{Tally}
use Rattle.segment_core.specs.Shape.{shape_of, format_in}
use Rattle.segment_core.specs.Frame.{Frame, header, text, frame_text, payload_of, open_gate, closed_gate}
use Rattle.segment_core.specs.Tally.{nothing, after, tally_of, AreLegal, AreLegalFrom}
use Rattle.segment_core.specs.Image.{HasFrames}
use Rattle.segment_core.specs.Fault.{header_fault, frame_fault, frame_lines, payload_len_in, is_closed, damaged}
use Rattle.segment_core.specs.Raw.{AreReadAs}
use Rattle.segment_core.proofs.Header.{header_of_none, header_fault-append, format_known, other_width, finds_unborn_short, finds_unborn_closed, finds_other_short}
use Rattle.segment_core.proofs.Lines.{frame_fault_from_lines, frame_fault_closed, first_line_at}
use Rattle.segment_core.proofs.Payload.{length-frame_text, payload_len_in-frame_text, small_payload}
use Rattle.segment_core.proofs.Push.{length-text}
use Rattle.beside_core.specs.declared.seen.Seen.{Seen}
use Rattle.beside_core.specs.declared.fault.LookFault.{LookFault}
use Rattle.beside_core.specs.declared.fault.LookFault.TheVariants.{Disk, Scan, NoRecord, TooFar, Memory}
use Rattle.beside_core.specs.PensFile.{IsPensFile}
use Rattle.beside_core.specs.Bookmark.{LiesBehind}
use Rattle.beside_core.specs.Replay.{vector_left}
use Rattle.beside_core.specs.Since.{MayRefuse}
use Rattle.beside_core.specs.Seen.{IsSeen, HasFrameFault, IsUnseen, WasSeen, IsEnd, EndEarly, AnswersInTurn}
use Rattle.beside_core.proofs.HeaderSeen.{header_read, header_same, header_sound}
use Rattle.beside_core.proofs.Taken.{were_there, in_turn_behind}
use Rattle.beside_core.proofs.Taking.{first_ones, no_frame}
use Rattle.beside_core.proofs.Walking.{Walked, text-append, walked_nothing, later_stand}
use Rattle.beside_core.proofs.Ahead.{Ahead, so_far, ahead_frame, looked_ahead}
use Rattle.beside_core.proofs.Grown.{none_came}
use Rattle.beside_core.proofs.Padded.{ahead_ends}

same_fault : (a b : ScanFault) → Some a ≡ Some b → a ≡ b
same_fault a b is = cc

-- these frames leave what those of one moment did
record LeaveThatOf (shape : Shape) (frames : ℕ → List Frame) (from to : ℕ) (done : List Frame) : Type 0 where
  moment : ℕ
  since : from ≤ moment
  until : moment ≤ to
  many : length done ≡ length (frames moment)
  gate_is : length (text shape done) ≡ length (text shape (frames moment))
  tally_is : tally_of done ≡ tally_of (frames moment)
  vector_is : vector_left shape.width done ≡ vector_left shape.width (frames moment)

-- bytes end, or their first one is a closed gate, or an open one
data NextGate (bytes : List ℕ) : Type 0 where
  NoByte : length bytes ≡ 0 → NextGate bytes
  Closed : is_closed bytes ≡ true → NextGate bytes
  Opened : 0 < length bytes → slice_index bytes 0 ≡ open_gate → NextGate bytes

next_gate : (bytes : List ℕ) → NextGate bytes
next_gate [] = NoByte refl
next_gate (b ∷ bytes) = elim (cases_eq b 1) [
  | inl is ↦ Opened (omega arith) is
  | inr not ↦ Closed (grind arith)
]

module _ (shape : Shape) (held : ℕ → List ℕ) (frames : ℕ → List Frame) (file : IsPensFile shape held frames) (from to : ℕ) (bytes : List ℕ) (turn : InTurn held from to 0 bytes) where
  -- ---- the header

  header_is : 11 ≤ length bytes → bytes ≡ header shape ++ drop 11 bytes
  header_is long =
      let cut : length (take 11 bytes) ≡ 11 = length-take-le 11 bytes long in
      let there : WereThere held from to 0 (take 11 bytes) = λ j lt. (
      let was = were_there held from to 0 bytes turn j (omega (arith, lt, cut, long)) in
      record { moment = was.moment; since = was.since; until = was.until; inside = was.inside; stood = get_or-take 11 bytes j 0 (omega (arith, lt, cut)) ∙ was.stood }) in
      sym (take-append-drop 11 bytes) ∙ ap (λ (bs : List ℕ). bs ++ drop 11 bytes) (header_read shape held frames from to (take 11 bytes) file cut there)

  same_shape : (other : Shape) (rest : List ℕ) → other.width < 2 ^ 16 → bytes ≡ header other ++ rest → other ≡ shape
  same_shape other rest narrow is =
      let long : 11 ≤ length bytes = omega (arith, ap length is, length-append (header other) rest, header_long other) in
      header_same other shape narrow file.narrow (sym (take_at (header other) rest 11 (header_long other)) ∙ ap (take 11) (sym is ∙ header_is long) ∙ take_at (header shape) (drop 11 bytes) 11 (header_long shape))
    where
      header_long : (s : Shape) → length (header s) ≡ 11
      header_long s = refl

  sound_here : 11 ≤ length bytes → header_fault shape.width bytes ≡ None
  sound_here long = ap (header_fault shape.width) (header_is long) ∙ header_fault-append shape.width (header shape) (drop 11 bytes) eleven ∙ header_sound shape file.narrow
    where
      eleven : 11 ≤ length (header shape)
      eleven = omega arith

  sound_shape : {R : Type 0} (form : Encoding R) → header_fault form.width bytes ≡ None → shape_of (format_in bytes) form ≡ shape
  sound_shape form none =
      let has = header_of_none form.width bytes none in
      let own = header_of_none shape.width bytes (sound_here has.long) in
      let format = format_known bytes shape.format (ap (λ (bs : List ℕ). slice_index bs 8) (sym (header_is has.long))) in
      let width : form.width ≡ shape.width = sym has.wide ∙ own.wide in
      ap (λ f. record { format = f; width = form.width }) format ∙ ap (λ w. record { format = shape.format; width = w }) width

  -- ---- the frames

  start : Ahead shape held from to 11 0 (drop 11 bytes)
  start = record {
    moment = turn.moments 11;
    begun = turn.since 11;
    inside = omega arith;
    rest = in_turn_behind held from to 0 11 bytes turn;
    found = λ fs known pens is more. (
        let there = later_stand shape held fs pens from (turn.moments 11) known more.0 (turn.since 11) more.1 in
        let place : length (text shape known) ≡ 11 + 0 = omega (arith, is) in
        subst (λ p. Walked shape held fs known (turn.moments 11) p []) place (walked_nothing shape held fs pens known (turn.moments 11) (more.0 ++ there.0) there.1));
  }

  ahead_all : (tally : Tally) (walked : ℕ) (done : List Frame) (rest : List ℕ) → Ahead shape held from to 11 walked (drop 11 bytes) → walked ≤ length (drop 11 bytes)
      → drop walked (drop 11 bytes) ≡ flat_map (frame_text shape.format) done ++ rest → AreLegalFrom shape tally done
      → Ahead shape held from to 11 (walked + length (flat_map (frame_text shape.format) done)) (drop 11 bytes)
  ahead_all tally walked [] rest ahead inside is legal = (let same : walked ≡ walked + 0 = omega arith in subst (λ n. Ahead shape held from to 11 n (drop 11 bytes)) same ahead)
  ahead_all tally walked (frame ∷ done) rest ahead inside is legal =
      let own : List ℕ = frame_text shape.format frame in
      let more : List ℕ = flat_map (frame_text shape.format) done ++ rest in
      let here : drop walked (drop 11 bytes) ≡ own ++ more = is ∙ append_assoc own (flat_map (frame_text shape.format) done) rest in
      let long : length own ≡ 6 + length (payload_of shape.format frame) = length-frame_text shape.format frame in
      let all : length (drop 11 bytes) ≡ walked + (length own + length more) = omega (arith, inside, ap length here, length-append own more, length-drop walked (drop 11 bytes)) in
      let at : walked + 0 ≡ walked = omega arith in
      let opened : slice_index (drop 11 bytes) walked ≡ open_gate = ap (slice_index (drop 11 bytes)) (sym at) ∙ sym (get_or-drop walked (drop 11 bytes) 0 0) ∙ ap (λ (bs : List ℕ). slice_index bs 0) here in
      let told : length own ≡ 6 + payload_len_in (drop walked (drop 11 bytes))
      = long ∙ ap (λ n. 6 + n) (sym (ap payload_len_in here ∙ payload_len_in-frame_text shape.format frame more (small_payload shape frame legal.0))) in
      let next = ahead_frame shape held from to 11 walked (length own) (drop 11 bytes) ahead (omega (arith, all, long)) opened told (omega (arith, all)) in
      let rest_is : drop (walked + length own) (drop 11 bytes) ≡ more = sym (drop-drop (length own) walked (drop 11 bytes)) ∙ ap (drop (length own)) here ∙ drop-append_seam own more in
      let there : walked + length own + length (flat_map (frame_text shape.format) done) ≡ walked + length (own ++ flat_map (frame_text shape.format) done)
      = omega (arith, length-append own (flat_map (frame_text shape.format) done)) in
      subst (λ n. Ahead shape held from to 11 n (drop 11 bytes)) there (ahead_all (after tally frame) (walked + length own) done rest next (omega (arith, all)) rest_is legal.2)

  module _ (done : List Frame) (rest : List ℕ) (is : bytes ≡ text shape done ++ rest) (legal : AreLegal shape done) where
    body_is : drop 11 bytes ≡ flat_map (frame_text shape.format) done ++ rest
    body_is =
        let eleven : length (header shape) ≡ 11 = refl in
        ap (drop 11) (is ∙ append_assoc (header shape) (flat_map (frame_text shape.format) done) rest) ∙ drop_at (header shape) (flat_map (frame_text shape.format) done ++ rest) 11 eleven

    abbrev walked : ℕ
    walked = length (flat_map (frame_text shape.format) done)

    ahead : Ahead shape held from to 11 (length (flat_map (frame_text shape.format) done)) (drop 11 bytes)
    ahead = (let all : 0 + walked ≡ walked = omega arith in subst (λ n. Ahead shape held from to 11 n (drop 11 bytes)) all (ahead_all nothing 0 done rest start (omega arith) body_is legal))

    gate_at : slice_index (drop 11 bytes) walked ≡ slice_index rest 0
    gate_at =
        let at : walked + 0 ≡ walked = omega arith in
        ap (slice_index (drop 11 bytes)) (sym at) ∙ sym (get_or-drop walked (drop 11 bytes) 0 0)
        ∙ ap (λ (bs : List ℕ). slice_index bs 0) (ap (drop walked) body_is ∙ drop-append_seam (flat_map (frame_text shape.format) done) rest)

    body_long : length (drop 11 bytes) ≡ walked + length rest
    body_long = ap length body_is ∙ length-append (flat_map (frame_text shape.format) done) rest

    -- up to a closed gate they leave the vector of the moment at which it was read
    leave : 0 < length rest → (slice_index rest 0 ≡ open_gate → ⊥) → LeaveThatOf shape frames from to done
    leave some not =
        let looked = looked_ahead shape held from to 11 walked (drop 11 bytes) ahead frames [] file refl (frames from, refl) (omega (arith, body_long, some)) (λ opened. not (sym gate_at ∙ opened)) in
        let front : take walked (drop 11 bytes) ≡ flat_map (frame_text shape.format) done = ap (take walked) body_is ∙ take_at (flat_map (frame_text shape.format) done) rest walked refl in
        let first = first_ones shape nothing done looked.reads (closed_gate ∷ []) (closed_gate ∷ []) (no_frame shape) (ap (λ (bs : List ℕ). bs ++ closed_gate ∷ []) (sym front)
        ∙ looked.text_is) legal looked.legal in
        let none : first.0 ≡ [] = none_came shape first.0 (omega (arith, ap length first.2, length-append (flat_map (frame_text shape.format) first.0) (closed_gate ∷ []))) in
        let reads : looked.reads ≡ done = first.1 ∙ ap (λ (fs : List Frame). done ++ fs) none ∙ append-nil done in
        record {
          moment = looked.moment;
          since = looked.since;
          until = looked.until;
          many = ap length (sym reads) ∙ looked.many ∙ ap length (sym looked.frames_are);
          gate_is = omega (arith, length-text shape done, looked.gate_is);
          tally_is = ap tally_of (sym reads) ∙ looked.tally_is;
          vector_is = ap (vector_left shape.width) (sym reads) ∙ looked.vector_is;
        }

    -- and where what follows them is at fault, they end before the file
    ends_early : (p : ℕ) (fault : ScanFault) → frame_fault shape p (tally_of done) rest ≡ Some fault → EndEarly shape frames from to bytes (Scan fault)
    unfolding frame_lines
    ends_early p fault found = elim (next_gate rest) [
      | NoByte none ↦ (
          let so = so_far shape held from to 11 walked (drop 11 bytes) ahead frames [] file refl (frames from, refl) in
          let longer = ap (λ (fs : List Frame). length (text shape fs)) so.stand.1 ∙ ap length (text-append shape so.found so.stand.0)
          ∙ length-append (text shape so.found) (flat_map (frame_text shape.format) so.stand.0) in
          let empty : rest ≡ [] = nil_from_length rest none in
          let same : fault ≡ damaged p NoGate = same_fault fault (damaged p NoGate) (sym found ∙ ap (frame_fault shape p (tally_of done)) empty
          ∙ frame_fault_from_lines shape p (tally_of done) [] (damaged p NoGate) refl (first_line_at 0 (frame_lines shape p []) (damaged p NoGate) (refl, refl))) in
          let end : IsEnd (damaged p NoGate) = inl refl in
          record {
            moment = ahead.moment;
            since = ahead.begun;
            until = omega (arith, ahead.rest.since 0, ahead.rest.until 0);
            short = omega (arith, none, ap length is, length-append (text shape done) rest, length-text shape done, so.gate_is, longer);
            end = fault;
            is = refl;
            is_end = subst IsEnd (sym same) end;
          })
      | Closed closed ↦ (let clash : Some fault ≡ None = sym found ∙ frame_fault_closed shape p (tally_of done) rest closed in absurd cc)
      | Opened some opened ↦ (
          let end = ahead_ends shape held frames file from to (drop 11 bytes) done ahead rest body_is legal opened some p fault found in
          record { moment = to; since = omega (arith, turn.since 0, turn.until 0); until = omega arith; short = omega (arith, end.1, length-drop 11 bytes); end = fault; is = refl; is_end = end.0 })
    ]

  -- ---- what is answered

  module _ {R : Type 0} (form : Encoding R) where
    was_seen : (seen : Seen R) → IsSeen form bytes seen → WasSeen form shape frames from to seen
    was_seen found seen =
        let closed = seen.framed.closed in
        let rest : List ℕ = closed.0 ∷ closed.1 in
        let same = same_shape found.next.shape (flat_map (frame_text found.next.shape.format) seen.frames ++ rest) found.next.narrow (closed.3
        ∙ append_assoc (header found.next.shape) (flat_map (frame_text found.next.shape.format) seen.frames) rest) in
        let framed : HasFrames shape bytes seen.frames = subst (λ (s : Shape). HasFrames s bytes seen.frames) same seen.framed in
        let lies : LiesBehind shape seen.frames found.next = subst (λ (s : Shape). LiesBehind s seen.frames found.next) same seen.lies in
        let wide : shape.width ≡ form.width = ap (λ (s : Shape). s.width) (sym same) ∙ seen.wide in
        let at = leave seen.frames (framed.closed.0 ∷ framed.closed.1) framed.closed.3 framed.legal (omega arith) framed.closed.2 in
        record {
          moment = at.moment;
          since = at.since;
          until = at.until;
          many = seen.many ∙ at.many;
          lies = record { shape_is = lies.shape_is; gate_is = lies.gate_is ∙ at.gate_is; tally_is = lies.tally_is ∙ at.tally_is };
          are = subst (λ cells. AreReadAs form cells found.records.items) (subst (λ w. vector_left w seen.frames ≡ vector_left w (frames at.moment)) wide at.vector_is) seen.are;
        }

    -- bytes that end inside the header
    header_ends : (fault : ScanFault) → length bytes < 11 → header_fault form.width bytes ≡ Some fault → IsEnd fault
    header_ends fault short some = elim (cases_lt 1 (length bytes)) [
      | inr one ↦ by Unborn (finds_unborn_short form.width bytes one) tt
      | inl more ↦ elim (cases_eq (slice_index bytes 0) 1) [
        | inr closed ↦ by Unborn (finds_unborn_closed form.width bytes closed) tt
        | inl opened ↦ by NotSegment (finds_other_short form.width bytes (record { some = more; opened = opened }) short) tt
      ]
    ]
      where
        by : (end : ScanFault) → header_fault form.width bytes ≡ Some end → IsEnd end → IsEnd fault
        by end found is = subst IsEnd (same_fault end fault (sym found ∙ some)) is

    scan_fault : (fault : ScanFault) (o : Option ScanFault) → header_fault form.width bytes ≡ o
        → MatchOption o (HasFrameFault (shape_of (format_in bytes) form) bytes fault) (λ first. fault ≡ first)
        → MayRefuse form shape frames from to (Scan fault) ⊎ EndEarly shape frames from to bytes (Scan fault)
    scan_fault fault None none has =
        let same = sound_shape form none in
        let here : HasFrameFault shape bytes fault = subst (λ (s : Shape). HasFrameFault s bytes fault) same has in
        let p : ℕ = length (text shape here.0) in
        let rest_is : drop p bytes ≡ here.1.begins.0 = ap (drop p) here.1.begins.1 ∙ drop_at (text shape here.0) here.1.begins.0 p refl in
        inr (ends_early here.0 here.1.begins.0 here.1.begins.1 here.1.legal p fault (ap (frame_fault shape p (tally_of here.0)) (sym rest_is) ∙ here.2))
    scan_fault fault (Some first) some is = elim (cases_lt (length bytes) 11) [
      | inl short ↦ inr (record {
        moment = from;
        since = omega arith;
        until = omega (arith, turn.since 0, turn.until 0);
        short = omega (arith, short, length-text shape (frames from), eleven);
        end = fault;
        is = refl;
        is_end = subst IsEnd (sym is) (header_ends first short some);
      })
      | inr long ↦ (
          let other : shape.width ≢ form.width = λ same. (
          let clash : Some first ≡ None = sym some ∙ ap (λ w. header_fault w bytes) (sym same) ∙ sound_here long in
          absurd cc) in
          inl (other, is ∙ same_fault first (Width shape.width) (sym some ∙ other_width form.width shape.width bytes (sound_here long) other)))
    ]
      where
        eleven : length (header shape) ≡ 11
        eleven = refl

    refused : (fault : LookFault) → IsUnseen form bytes fault → MayRefuse form shape frames from to fault ⊎ EndEarly shape frames from to bytes fault
    refused (Disk fault) unseen = absurd unseen
    refused (Scan fault) unseen = scan_fault fault (header_fault form.width bytes) refl unseen
    refused TooFar unseen = inl tt
    refused Memory unseen = inl tt
    refused (NoRecord i) unseen =
        let same = sound_shape form unseen.sound in
        let framed : HasFrames shape bytes unseen.frames = subst (λ (s : Shape). HasFrames s bytes unseen.frames) same unseen.framed in
        let at = leave unseen.frames (framed.closed.0 ∷ framed.closed.1) framed.closed.3 framed.legal (omega arith) framed.closed.2 in
        let wide : shape.width ≡ form.width = ap (λ (s : Shape). s.width) (sym same) in
        let vector : vector_left form.width unseen.frames ≡ vector_left form.width (frames at.moment)
        = subst (λ w. vector_left w unseen.frames ≡ vector_left w (frames at.moment)) wide at.vector_is in
        inl (at.moment, at.since, at.until, unseen.cell, ap (λ cells. slice_get cells i) (sym vector) ∙ unseen.stands, unseen.bad)

-- What the bytes show, whoever read them, is what the file had at one moment, where they were read so.
pub answers_in_turn : {R : Type 0} (form : Encoding R) (bytes : List ℕ) (result : Result (Seen R) LookFault)
    → MatchResult result (IsSeen form bytes) (IsUnseen form bytes) → AnswersInTurn form bytes result
answers_in_turn form bytes (Ok found) seen = λ held from to shape frames turn file. was_seen shape held frames file from to bytes turn form found seen
answers_in_turn form bytes (Err fault) unseen = λ held from to shape frames turn file. refused shape held frames file from to bytes turn form fault unseen
