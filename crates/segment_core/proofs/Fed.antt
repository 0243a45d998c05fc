-- What a scanner keeps from piece to piece, and what it answers in the end.
use Rattle.std.proofs.Common.{take-add, ◌≡◌, ℕ, ◌+◌, ◌-◌, ◌≤◌, ◌<◌, true, false, List, [], ◌∷◌, ◌++◌, length, take, drop, Option, Some, None, refl, sym, ap, subst, ◌∙◌, append_assoc, arith, inl, inr}
use Rattle.std.proofs.lemmas.List.{append-nil, drop_at, drop_all, length-append, length-take, length-take-le, take-append-drop, take_all}
use Rattle.std.proofs.lemmas.Slice.{take-put_mid}
use borrow.Rule.Slice.PartMut.{put_mid}
use Rattle.record_core.specs.Bytes.{Encoding}
use Rattle.segment_core.specs.declared.fault.Cause.TheVariants.{NoGate, ShortFrame}
use Rattle.segment_core.specs.declared.fault.ScanFault.{ScanFault}
use Rattle.segment_core.specs.declared.fault.ScanFault.TheVariants.{Memory}
use Rattle.segment_core.specs.declared.format.Format.{Format}
use Rattle.segment_core.specs.declared.format.Shape.{Shape}
use Rattle.segment_core.specs.declared.scanner.Scanner.{Scanner}
use Rattle.segment_core.specs.declared.scanner.ScanStage.{ScanStage}
use Rattle.segment_core.specs.declared.scanner.ScanStage.TheVariants as stages
use Rattle.segment_core.specs.declared.walk.Walk.{Walk}
use Rattle.segment_core.specs.Shape.{shape_of, format_in}
use Rattle.segment_core.specs.Frame.{Frame, header, text}
use Rattle.segment_core.specs.Tally.{tally_of}
use Rattle.segment_core.specs.Image.{HasFrames, IsLongest}
use Rattle.segment_core.specs.Fault.{header_fault, IsSound, first_line, frame_lines, frame_fault, is_closed, damaged, IsRefused}
use Rattle.segment_core.specs.Reading.{IsShort}
use Rattle.segment_core.specs.Found.{BeginsWithText, IsNoVector}
use Rattle.segment_core.specs.Walk.{IsBehind, StandsBefore, IsFaultOf, IsWalkRefused}
use Rattle.segment_core.specs.Scanner.{IsFront, GoesOn, HasEnded, IsOn, IsRefusedFor, IsFedAt, IsFed}
use Rattle.segment_core.proofs.Push.{append-empty}
use Rattle.segment_core.proofs.Lines.{frame_fault_from_lines}
use Rattle.segment_core.proofs.Head.{finds_no_gate}
use Rattle.segment_core.proofs.Longest.{NoFrame_fault, is_longest}
use Rattle.segment_core.proofs.Header.{header_of_none, header_fault-append, format_in-append}
use Rattle.segment_core.proofs.Refusals.{refused_by_header, refused_by_frame, refused_for_memory, refused_by_record}
use Rattle.segment_core.proofs.Walked.{stands_more, has_frames}

-- ---- bytes that follow

pub sound_more : (width : ℕ) (format : Format) (image more : List ℕ) → IsSound width format image → IsSound width format (image ++ more)
sound_more width format image more sound =
    let long = (header_of_none width image sound.no_fault).long in
    record { no_fault = header_fault-append width image more long ∙ sound.no_fault; names = format_in-append image more (omega arith) ∙ sound.names }

pub refused_more : {R : Type 0} (form : Encoding R) (image more : List ℕ) (fault : ScanFault) → IsRefusedFor form image fault → IsRefusedFor form (image ++ more) fault
refused_more form image more fault refused rest = subst (λ (bs : List ℕ). IsRefused form bs fault) (sym (append_assoc image more rest)) (refused (more ++ rest))

pub frames_more : (shape : Shape) (image more : List ℕ) (frames : List Frame) → HasFrames shape image frames → HasFrames shape (image ++ more) frames
frames_more shape image more frames has =
    let gate = has.closed in
    record { legal = has.legal; closed = (gate.0, gate.1 ++ more, gate.2, ap (λ (bs : List ℕ). bs ++ more) gate.3 ∙ append_assoc (text shape frames) (gate.0 ∷ gate.1) more) }

pub ended_more : {R : Type 0} (form : Encoding R) (image more : List ℕ) (scanner : Scanner R) → HasEnded form image scanner → HasEnded form (image ++ more) scanner
ended_more form image more scanner ended = record {
  sound = sound_more form.width scanner.walk.shape.format image more ended.sound;
  frames = ended.frames;
  behind = ended.behind;
  framed = frames_more scanner.walk.shape image more ended.frames ended.framed;
}

-- ---- the shape of the file

pub shape_is : {R : Type 0} (form : Encoding R) (walk : Walk R) → walk.shape.width ≡ form.width → walk.shape ≡ shape_of walk.shape.format form
shape_is {R} form walk width = ap (λ (w : ℕ). record { format = walk.shape.format; width = w }) width

-- what a walk refuses is refused of the image, whatever follows
pub refused_by_walk : {R : Type 0} (form : Encoding R) (image : List ℕ) (walk : Walk R) (fault : ScanFault)
    → IsSound form.width walk.shape.format image → walk.shape.width ≡ form.width
    → IsWalkRefused walk.shape image fault
    → IsRefusedFor form image fault
refused_by_walk form image walk fault sound width refused more =
    let format : Format = walk.shape.format in
    let after = sound_more form.width format image more sound in
    elim refused [
      | inl found ↦ (
          let at = subst (λ s. IsFaultOf s image fault) (shape_is form walk width) found more in
          refused_by_frame form format (image ++ more) at.0 fault after at.1 at.2)
      | inr memory ↦ refused_for_memory form format (image ++ more) fault after memory
    ]

pub memory_for : {R : Type 0} (form : Encoding R) (format : Format) (image : List ℕ) (fault : ScanFault) → IsSound form.width format image → fault ≡ Memory → IsRefusedFor form image fault
memory_for form format image fault sound memory more = refused_for_memory form format (image ++ more) fault (sound_more form.width format image more sound) memory

-- ---- where the frames end

pub ended : {R : Type 0} (form : Encoding R) (image left : List ℕ) (scanner : Scanner R)
    → IsSound form.width scanner.walk.shape.format image → StandsBefore form image left scanner.walk
    → is_closed left ≡ true
    → HasEnded form image scanner
ended form image left scanner sound stands closed = record { sound = sound; frames = stands.frames; behind = stands.behind; framed = has_frames form image left scanner.walk stands closed }

-- an image that ends inside a frame, or where a gate has to stand
pub cut_fault : {R : Type 0} (form : Encoding R) (image left : List ℕ) (walk : Walk R) (fault : ScanFault)
    → IsSound form.width walk.shape.format image → StandsBefore form image left walk → is_closed left ≡ false
    → first_line (frame_lines walk.shape walk.at left) ≡ Some fault
    → IsRefused form image fault
cut_fault form image left walk fault sound stands opened some =
    let shape : Shape = walk.shape in
    let frames : List Frame = stands.frames in
    let behind = stands.behind in
    let same = shape_is form walk behind.width_is in
    let here : frame_fault shape (length (text shape frames)) (tally_of frames) left ≡ Some fault
    = ap (λ n. frame_fault shape n (tally_of frames) left) (sym behind.at_end)
    ∙ frame_fault_from_lines shape walk.at (tally_of frames) left fault opened some in
    let rest : drop (length (text shape frames)) image ≡ left = ap (drop (length (text shape frames))) stands.left ∙ drop_at (text shape frames) left (length (text shape frames)) refl in
    let longest = is_longest shape frames image left behind.legal stands.left (NoFrame_fault shape (length (text shape frames)) (tally_of frames) left fault here) in
    refused_by_frame form shape.format image frames fault sound (subst (λ s. IsLongest s image frames) same longest)
    (subst
    (λ s. frame_fault s (length (text s frames)) (tally_of frames) (drop (length (text s frames)) image) ≡ Some fault)
    same (ap (frame_fault shape (length (text shape frames)) (tally_of frames)) rest ∙ here))

pub no_gate : {R : Type 0} (form : Encoding R) (image : List ℕ) (scanner : Scanner R)
    → GoesOn form image scanner → length scanner.pending.items ≡ 0
    → IsRefused form image (damaged scanner.walk.at NoGate)
no_gate form image scanner on none = cut_fault form image scanner.pending.items scanner.walk (damaged scanner.walk.at NoGate) on.sound on.stands on.short.opened (on.short.empty none)

pub short_frame : {R : Type 0} (form : Encoding R) (image : List ℕ) (scanner : Scanner R)
    → GoesOn form image scanner → 0 < length scanner.pending.items
    → IsRefused form image (damaged scanner.walk.at ShortFrame)
short_frame form image scanner on some = cut_fault form image scanner.pending.items scanner.walk (damaged scanner.walk.at ShortFrame) on.sound on.stands on.short.opened (on.short.cut some)

-- ---- the header

pub too_short : (width : ℕ) (image : List ℕ) → length image < 11 → header_fault width image ≡ None → ⊥
too_short width image short none = let long = (header_of_none width image none).long in absurd (omega arith)

pub refused_by_front : {R : Type 0} (form : Encoding R) (image : List ℕ) (fault : ScanFault)
    → 11 ≤ length image → header_fault form.width image ≡ Some fault
    → IsRefusedFor form image fault
refused_by_front form image fault long some more = refused_by_header form (image ++ more) fault (header_fault-append form.width image more long ∙ some)

-- ---- stages

pub fed_by : {R : Type 0} (form : Encoding R) (image : List ℕ) (scanner : Scanner R) (stage : ScanStage) → scanner.stage ≡ stage → IsFedAt form image scanner stage → IsFed form image scanner
unfolding IsFed
fed_by form image scanner stage is fed = subst (IsFedAt form image scanner) (sym is) fed

pub fed_at : {R : Type 0} (form : Encoding R) (image : List ℕ) (scanner : Scanner R) (stage : ScanStage) → scanner.stage ≡ stage → IsFed form image scanner → IsFedAt form image scanner stage
unfolding IsFed
fed_at form image scanner stage is fed = subst (IsFedAt form image scanner) is fed

pub fed_on : {R : Type 0} (form : Encoding R) (image : List ℕ) (scanner : Scanner R) → IsOn form image scanner → IsFed form image scanner
fed_on form image scanner on = elim on [
  | inl goes ↦ fed_by form image scanner stages.Open goes.0 goes.1
  | inr closed ↦ fed_by form image scanner stages.Closed closed.0 closed.1
]

-- ---- the vector

begins_with_text : (shape : Shape) (image : List ℕ) (frames : List Frame) → HasFrames shape image frames → BeginsWithText shape image frames
begins_with_text shape image frames has = (has.closed.0 ∷ has.closed.1, has.closed.3)

-- what is known where a closed gate has ended the frames, in words of the format and the record type
pub record IsWhole {R : Type 0} (form : Encoding R) (image : List ℕ) (walk : Walk R) (frames : List Frame) : Type 0 where
  pub sound : IsSound form.width walk.shape.format image
  pub framed : HasFrames (shape_of walk.shape.format form) image frames
  pub begins : BeginsWithText (shape_of walk.shape.format form) image frames
  pub gate_is : walk.at ≡ length (text (shape_of walk.shape.format form) frames)

pub is_whole : {R : Type 0} (form : Encoding R) (image : List ℕ) (scanner : Scanner R) (ended : HasEnded form image scanner) → IsWhole form image scanner.walk ended.frames
is_whole form image scanner ended =
    let same = shape_is form scanner.walk ended.behind.width_is in
    let framed = subst (λ s. HasFrames s image ended.frames) same ended.framed in
    record {
      sound = ended.sound;
      framed = framed;
      begins = begins_with_text (shape_of scanner.walk.shape.format form) image ended.frames framed;
      gate_is = ended.behind.at_end ∙ ap (λ s. length (text s ended.frames)) same;
    }

pub refused_at_end : {R : Type 0} (form : Encoding R) (image : List ℕ) (walk : Walk R) (frames : List Frame)
    (fault : ScanFault)
    → IsWhole form image walk frames → IsNoVector walk.shape.format form image frames fault
    → IsRefused form image fault
refused_at_end form image walk frames fault whole refused = elim refused [
  | inl bad ↦ refused_by_record form walk.shape.format image frames fault whole.sound whole.framed bad
  | inr memory ↦ refused_for_memory form walk.shape.format image fault whole.sound memory
]

-- ---- behind a read

pub after_closed : {R : Type 0} (form : Encoding R) (image left : List ℕ) (scanner : Scanner R) (old : Walk R)
    → scanner.walk.shape ≡ old.shape → IsSound form.width old.shape.format image
    → StandsBefore form image left scanner.walk → is_closed left ≡ true
    → HasEnded form image scanner
after_closed form image left scanner old same sound stands closed = ended form image left scanner (subst (λ (s : Shape). IsSound form.width s.format image) (sym same) sound) stands closed

pub after_short : {R : Type 0} (form : Encoding R) (image left : List ℕ) (scanner : Scanner R) (old : Walk R)
    → scanner.walk.shape ≡ old.shape → IsSound form.width old.shape.format image
    → StandsBefore form image left scanner.walk → IsShort scanner.walk.shape scanner.walk.at left
    → scanner.pending.items ≡ left
    → GoesOn form image scanner
after_short form image left scanner old same sound stands short pending = record {
  sound = subst (λ (s : Shape). IsSound form.width s.format image) (sym same) sound;
  stands = subst (λ (bs : List ℕ). StandsBefore form image bs scanner.walk) (sym pending) stands;
  short = subst (IsShort scanner.walk.shape scanner.walk.at) (sym pending) short;
}

-- the bytes that are fed stand behind those that are pending
pub stands_behind_pending : {R : Type 0} (form : Encoding R) (image pending bytes all : List ℕ) (walk : Walk R)
    → StandsBefore form image pending walk → all ≡ pending ++ bytes
    → StandsBefore form (image ++ bytes) all walk
stands_behind_pending form image pending bytes all walk stands is = subst (λ (bs : List ℕ). StandsBefore form (image ++ bytes) bs walk) (sym is) (stands_more form image pending bytes walk stands)

-- ---- what is left at the end of an image that is the front of a header

pub front_fault : {R : Type 0} (form : Encoding R) (image : List ℕ) (scanner : Scanner R) (width : ℕ)
    (answer : Option ScanFault)
    → IsFront form image scanner → width ≡ form.width
    → header_fault width (take scanner.filled scanner.header) ≡ answer
    → header_fault form.width image ≡ answer
front_fault form image scanner width answer front is told = ap (λ w. header_fault w image) (sym is) ∙ ap (header_fault width) (sym front.kept) ∙ told

-- ---- piece by piece

pub on_open : {R : Type 0} (form : Encoding R) (image : List ℕ) (scanner : Scanner R) → IsOn form image scanner → scanner.stage ≡ stages.Open → GoesOn form image scanner
on_open form image scanner on stage = elim on [
  | inl goes ↦ goes.1
  | inr closed ↦ (let clash : stages.Open ≡ stages.Closed = sym stage ∙ closed.0 in absurd cc)
]

-- the front of a piece and what is left of it
whole_piece : (image piece : List ℕ) (n : ℕ) → (image ++ take n piece) ++ drop n piece ≡ image ++ piece
whole_piece image piece n = append_assoc image (take n piece) (drop n piece) ∙ ap (λ (bs : List ℕ). image ++ bs) (take-append-drop n piece)

pub next_part : (image piece : List ℕ) (used n : ℕ) → (image ++ take used piece) ++ take (used + n - used) (drop used piece) ≡ image ++ take (used + n) piece
next_part image piece used n =
    let size : used + n - used ≡ n = omega arith in
    append_assoc image (take used piece) (take (used + n - used) (drop used piece))
    ∙ ap (λ (bs : List ℕ). image ++ bs) (ap (λ k. take used piece ++ take k (drop used piece)) size ∙ sym (take-add used n piece))

-- a scanner whose frames have ended, or whose piece is used up
pub on_ended : {R : Type 0} (form : Encoding R) (image piece : List ℕ) (n : ℕ) (scanner : Scanner R)
    → IsOn form (image ++ take n piece) scanner → (scanner.stage ≡ stages.Open → ⊥)
    → IsFed form (image ++ piece) scanner
on_ended form image piece n scanner on other = elim on [
  | inl goes ↦ absurd (other goes.0)
  | inr closed ↦
      fed_by form (image ++ piece) scanner stages.Closed closed.0
      (subst (λ (bs : List ℕ). HasEnded form bs scanner) (whole_piece image piece n) (ended_more form (image ++ take n piece) (drop n piece) scanner closed.1))
]

pub on_used : {R : Type 0} (form : Encoding R) (image piece : List ℕ) (n : ℕ) (scanner : Scanner R)
    → IsOn form (image ++ take n piece) scanner → length piece ≤ n
    → IsFed form (image ++ piece) scanner
on_used form image piece n scanner on all = subst (λ (bs : List ℕ). IsFed form (image ++ bs) scanner) (take_all n piece all) (fed_on form (image ++ take n piece) scanner on)

pub on_nothing : {R : Type 0} (form : Encoding R) (image piece : List ℕ) (scanner : Scanner R)
    → scanner.stage ≡ stages.Open → GoesOn form image scanner
    → IsOn form (image ++ take 0 piece) scanner
on_nothing form image piece scanner stage goes = inl (stage, subst (λ (bs : List ℕ). GoesOn form bs scanner) (sym (append-nil image)) goes)

pub refused_part : {R : Type 0} (form : Encoding R) (image piece : List ℕ) (used n : ℕ) (fault : ScanFault)
    → IsRefusedFor form ((image ++ take used piece) ++ take (used + n - used) (drop used piece)) fault
    → IsRefusedFor form (image ++ piece) fault
refused_part form image piece used n fault refused =
    subst (λ (bs : List ℕ). IsRefusedFor form bs fault) (whole_piece image piece (used + n))
    (refused_more form (image ++ take (used + n) piece) (drop (used + n) piece) fault (subst (λ (bs : List ℕ). IsRefusedFor form bs fault) (next_part image piece used n) refused))

-- bytes that mean nothing
pub fed_more : {R : Type 0} (form : Encoding R) (image piece : List ℕ) (scanner : Scanner R) (stage : ScanStage)
    → scanner.stage ≡ stage → (stage ≡ stages.Open → ⊥) → (stage ≡ stages.Header → length piece ≡ 0)
    → IsFed form image scanner
    → IsFed form (image ++ piece) scanner
fed_more form image piece scanner stages.Header is other none fed = subst (λ (bs : List ℕ). IsFed form bs scanner) (append-empty image piece (none refl)) fed
fed_more form image piece scanner stages.Open is other none fed = absurd (other refl)
fed_more form image piece scanner stages.Closed is other none fed =
    fed_by form (image ++ piece) scanner stages.Closed is
    (ended_more form image piece scanner (fed_at form image scanner stages.Closed is fed))
fed_more form image piece scanner (stages.Refused fault) is other none fed =
    fed_by form (image ++ piece) scanner (stages.Refused fault) is
    (refused_more form image piece fault (fed_at form image scanner (stages.Refused fault) is fed))

-- ---- the header byte by byte

-- the bytes that were copied stand behind those of before
pub front_more : {R : Type 0} (form : Encoding R) (image piece part : List ℕ) (used : ℕ) (scanner : Scanner R)
    → IsFront form image scanner → used ≤ length piece → part ≡ take used piece
    → take (scanner.filled + used) (put_mid scanner.filled (scanner.filled + used - scanner.filled) scanner.header part) ≡ image ++ take used piece
front_more form image piece part used scanner front inside is =
    let filled = front.filled in
    let kept = sym (length-take scanner.filled scanner.header) ∙ ap length front.kept in
    let len : length part ≡ used = ap length is ∙ length-take-le used piece inside in
    take-put_mid scanner.filled (scanner.filled + used - scanner.filled) scanner.header part (scanner.filled + used) (omega arith) (omega arith)
    ∙ ap (λ (bs : List ℕ). bs ++ part) front.kept ∙ ap (λ (bs : List ℕ). image ++ bs) is

pub length-front : {R : Type 0} (form : Encoding R) (image piece : List ℕ) (used : ℕ) (scanner : Scanner R)
    → IsFront form image scanner → used ≤ length piece
    → length (image ++ take used piece) ≡ scanner.filled + used
length-front form image piece used scanner front inside =
    let a = length-append image (take used piece) in
    let b = length-take-le used piece inside in
    let f = front.filled in
    omega arith

-- what was found of the bytes of a whole header
pub record IsHeader (width : ℕ) (format : Format) (bytes : List ℕ) : Type 0 where
  pub no_fault : header_fault width bytes ≡ None
  pub names : format_in bytes ≡ format
  pub written : bytes ≡ header (record { format = format; width = width }) ++ drop 11 bytes

pub goes_on_behind_header : {R : Type 0} (form : Encoding R) (image bytes : List ℕ) (format : Format) (width : ℕ)
    (scanner : Scanner R)
    → bytes ≡ image → length image ≡ 11 → width ≡ form.width → IsHeader width format bytes
    → scanner.walk.shape ≡ record { format = format; width = width } → IsBehind form [] scanner.walk
    → scanner.pending.items ≡ []
    → GoesOn form image scanner
goes_on_behind_header {R} form image bytes format width scanner is long wide found shape behind pending =
    let format_is : scanner.walk.shape.format ≡ format = ap (λ (s : Shape). s.format) shape in
    let none : drop 11 bytes ≡ [] = ap (drop 11) is ∙ drop_all 11 image (omega arith) in
    let text_is : text scanner.walk.shape [] ≡ header (record { format = format; width = width }) = append-nil (header scanner.walk.shape) ∙ ap header shape in
    record {
      sound = record {
        no_fault = ap (λ w. header_fault w image) (sym wide) ∙ ap (header_fault width) (sym is) ∙ found.no_fault;
        names = ap format_in (sym is) ∙ found.names ∙ sym format_is;
      };
      stands = record {
        frames = [];
        behind = behind;
        left = sym is ∙ found.written ∙ ap (λ (bs : List ℕ). bs ++ drop 11 bytes) (sym text_is) ∙ ap (λ (bs : List ℕ). text scanner.walk.shape [] ++ bs) (none ∙ sym pending);
      };
      short = finds_no_gate scanner.walk.shape scanner.walk.at scanner.pending.items (ap length pending);
    }
