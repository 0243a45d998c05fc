-- Frames that were taken in behind a header alone, and what they leave.
use Rattle.std.proofs.Common.{◌≡◌, ℕ, ◌+◌, ◌-◌, ◌*◌, List, [], ◌∷◌, ◌++◌, length, drop, Some, Ok, Err, refl, sym, ap, subst, ◌∙◌, arith, append_assoc}
use Rattle.std.specs.Prelude.{slice_get, MatchOption, true}
use Rattle.std.specs.Global.{Vec}
use Rattle.std.specs.List.{flat_map}
use Rattle.std.proofs.lemmas.List.{drop_at}
use Rattle.record_core.specs.Bytes.{Encoding}
use Rattle.record_core.specs.Cells.{cell}
use Rattle.segment_core.specs.declared.format.Shape.{Shape}
use Rattle.segment_core.specs.Shape.{shape_of, format_in}
use Rattle.segment_core.specs.Frame.{Frame, header, frame_text, text}
use Rattle.segment_core.specs.Tally.{tally_from, tally_of, AreLegal, AreLegalFrom}
use Rattle.segment_core.specs.Image.{HasFrames}
use Rattle.segment_core.specs.Fault.{frame_fault, is_closed}
use Rattle.segment_core.specs.Raw.{cells_in, AreReadAs}
use Rattle.segment_core.proofs.Push.{length-text}
use Rattle.segment_core.proofs.Raw.{slice_get-cells_in}
use Rattle.segment_core.proofs.Walked as walked
use Rattle.beside_core.specs.declared.bookmark.Bookmark.{Bookmark}
use Rattle.beside_core.specs.declared.fault.LookFault.{LookFault}
use Rattle.beside_core.specs.declared.fault.LookFault.TheVariants.{Disk, Scan, NoRecord, TooFar, Memory}
use Rattle.beside_core.specs.declared.laying.Laid.{Laid}
use Rattle.beside_core.specs.declared.news.Edit.{Edit}
use Rattle.beside_core.specs.declared.since.Loss.{Loss}
use Rattle.beside_core.specs.declared.since.Loss.TheVariants.{Changed, Shorter}
use Rattle.beside_core.specs.Replay.{vector_left}
use Rattle.beside_core.specs.Bookmark.{LiesBehind}
use Rattle.beside_core.specs.Edit.{IsEdited, loss_of}
use Rattle.beside_core.specs.Tail.{IsLossBy, BeginsWithLoss, AreTaken, IsReplayEnd}
use Rattle.beside_core.specs.Since.{DecodesTail}
use Rattle.beside_core.specs.Seen.{HasHeader, IsSeen, HasFrameFault, IsUnseen}
use Rattle.beside_core.proofs.Grown.{are_read}

-- nothing is lost where nothing was known
no_loss : (frames : List Frame) (loss : Loss) → IsLossBy 0 frames loss → ⊥
no_loss frames (Changed i) is = absurd (omega (arith, is.0))
no_loss frames (Shorter n) is = absurd (omega (arith, is.0))

record BeginsFresh {R : Type 0} (edits : List (Edit R)) (base : ℕ) : Type 0 where
  no_edits : edits ≡ []
  at_first : base ≡ 0

begins_fresh : {R : Type 0} (frames : List Frame) (edits : List (Edit R)) (base : ℕ) → BeginsWithLoss 0 frames edits base → BeginsFresh edits base
begins_fresh frames [] base begins = record { no_edits = refl; at_first = begins }
begins_fresh frames (edit ∷ edits) base begins = absurd (no_loss frames (loss_of edit) begins)

module _ {R : Type 0} (form : Encoding R) (bytes : List ℕ) (mark : Bookmark) (has : HasHeader form bytes mark) where
  module _ (frames : List Frame) (laid : Laid R) (next : Bookmark) (taken : AreTaken form mark frames laid next) where
    fresh : BeginsFresh laid.edits.items laid.base
    fresh = begins_fresh frames laid.edits.items laid.base (subst (λ n. BeginsWithLoss n frames laid.edits.items laid.base) (ap (λ t. t.size) has.lies.tally_is) taken.begins)

    all_tail : next.tally.size - laid.base ≡ next.tally.size
    all_tail = omega (arith, fresh.at_first)

    vector_is : vector_left form.width frames ≡ cells_in form.width next.tally.size laid.tail.items
    vector_is =
        let stands = taken.is [] (sym (ap (λ t. t.size) has.lies.tally_is)) in
        let none : [] ≡ stands.front = subst (λ edits. IsEdited form edits [] stands.front) fresh.no_edits stands.edited in
        stands.is ∙ ap (λ (cells : List (List ℕ)). cells ++ cells_in form.width (next.tally.size - laid.base) laid.tail.items) (sym none)
        ∙ ap (λ n. cells_in form.width n laid.tail.items) all_tail

    lies_next : LiesBehind mark.shape frames next
    lies_next = record {
      shape_is = taken.shape_is;
      gate_is = omega (arith, taken.gate_is, has.lies.gate_is, length-text mark.shape frames, length-text mark.shape []);
      tally_is = taken.tally_is ∙ ap (λ t. tally_from t frames) has.lies.tally_is;
    }

    filled : length laid.tail.items ≡ next.tally.size * form.width
    filled = taken.is_tail.filled ∙ ap (λ n. n * form.width) all_tail

    pub seen : (rest : List ℕ) (records : Vec R) (count : ℕ) → count ≡ length frames → AreLegal mark.shape frames → bytes ≡ text mark.shape frames ++ rest → is_closed rest ≡ true → DecodesTail form 0 laid.tail.items (Ok records)
        → IsSeen form bytes (record { records = records; frames = count; next = next })
    seen rest records count many legal is closed decodes =
        let read = decodes next.tally.size filled in
        let gate = walked.closed_gate rest closed in
        record {
          frames = frames;
          framed = subst (λ (s : Shape). HasFrames s bytes frames) (sym taken.shape_is) (record { legal = legal; closed = (gate.0, gate.1, gate.2, is ∙ ap (λ (bs : List ℕ). text mark.shape frames ++ bs) gate.3) });
          wide = ap (λ (s : Shape). s.width) (taken.shape_is ∙ has.shape_is);
          many = many;
          lies = subst (λ (s : Shape). LiesBehind s frames next) (sym taken.shape_is) lies_next;
          are = subst (λ cells. AreReadAs form cells records.items) (sym vector_is) (are_read form next.tally.size laid.tail.items records.items read.0 read.1);
        }

    pub unread : (rest : List ℕ) (fault : LookFault) → AreLegal mark.shape frames → bytes ≡ text mark.shape frames ++ rest → is_closed rest ≡ true → DecodesTail form 0 laid.tail.items (Err fault)
        → IsUnseen form bytes fault
    unread rest (Disk fault) legal is closed decodes = absurd (decodes next.tally.size filled)
    unread rest (Scan fault) legal is closed decodes = absurd (decodes next.tally.size filled)
    unread rest TooFar legal is closed decodes = absurd (decodes next.tally.size filled)
    unread rest Memory legal is closed decodes = has.sound
    unread rest (NoRecord i) legal is closed decodes =
        let bad = decodes next.tally.size filled in
        let gate = walked.closed_gate rest closed in
        let place : i ≡ bad.0 = omega (arith, bad.1) in
        record {
          sound = has.sound;
          frames = frames;
          framed = subst (λ (s : Shape). HasFrames s bytes frames) has.shape_is (record { legal = legal; closed = (gate.0, gate.1, gate.2, is ∙ ap (λ (bs : List ℕ). text mark.shape frames ++ bs) gate.3) });
          cell = cell form.width laid.tail.items bad.0;
          stands = ap (λ cells. slice_get cells i) vector_is ∙ ap (slice_get (cells_in form.width next.tally.size laid.tail.items)) place
              ∙ slice_get-cells_in form.width next.tally.size laid.tail.items bad.0 bad.2;
          bad = bad.3;
        }

  -- the bytes behind the header are the text of frames
  pub text_whole : (frames : List Frame) (rest : List ℕ) → drop 11 bytes ≡ flat_map (frame_text mark.shape.format) frames ++ rest → bytes ≡ text mark.shape frames ++ rest
  text_whole frames rest is = has.begins ∙ ap (λ (bs : List ℕ). header mark.shape ++ bs) is ∙ sym (append_assoc (header mark.shape) (flat_map (frame_text mark.shape.format) frames) rest)

  pub legal_whole : (frames : List Frame) → AreLegalFrom mark.shape mark.tally frames → AreLegal mark.shape frames
  legal_whole frames legal = subst (λ t. AreLegalFrom mark.shape t frames) has.lies.tally_is legal

  pub ended : (frames : List Frame) (rest : List ℕ) (fault : LookFault) → AreLegal mark.shape frames → bytes ≡ text mark.shape frames ++ rest → IsReplayEnd form mark frames rest fault
      → IsUnseen form bytes fault
  ended frames rest (Disk fault) legal is end = end
  ended frames rest (NoRecord i) legal is end = absurd (omega (arith, end.0, ap (λ t. t.size) has.lies.tally_is))
  ended frames rest TooFar legal is end = absurd end
  ended frames rest Memory legal is end = has.sound
  ended frames rest (Scan fault) legal is end =
      let p : ℕ = length (text mark.shape frames) in
      let place : mark.gate + length (flat_map (frame_text mark.shape.format) frames) ≡ p = omega (arith, has.lies.gate_is, length-text mark.shape frames, length-text mark.shape []) in
      let here : frame_fault mark.shape p (tally_of frames) (drop p bytes) ≡ Some fault
      = ap (frame_fault mark.shape p (tally_of frames)) (ap (drop p) is ∙ drop_at (text mark.shape frames) rest p refl)
      ∙ ap (λ t. frame_fault mark.shape p t rest) (sym (ap (λ t. tally_from t frames) has.lies.tally_is))
      ∙ ap (λ n. frame_fault mark.shape n (tally_from mark.tally frames) rest) (sym place) ∙ end in
      subst (λ o. MatchOption o (HasFrameFault (shape_of (format_in bytes) form) bytes fault) (λ first. fault ≡ first)) (sym has.sound)
      (subst (λ (s : Shape). HasFrameFault s bytes fault) has.shape_is (frames, record { legal = legal; begins = (rest, is) }, here))
