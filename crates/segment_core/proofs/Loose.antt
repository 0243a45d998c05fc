-- Bytes that agree with an image but for loose ones have its vector, in frames that differ in home bytes alone.
use Rattle.std.proofs.Common.{◌≡◌, ℕ, ◌+◌, ◌≤◌, ◌<◌, List, ◌++◌, length, take, drop, get_or, Option, Some, None, refl, sym, ap, ◌∙◌, arith, append_assoc}
use Rattle.std.specs.List.{flat_map}
use Rattle.std.specs.Option.{option_and_then}
use Rattle.std.proofs.lemmas.List.{length-append, length-drop, length-take-le, get_or-take, get_or-drop, get_or_append_left, get_or-append-add, take-append-drop, drop-drop, ext_get_or}
use Rattle.record_core.specs.Bytes.{Encoding}
use Rattle.segment_core.specs.declared.format.Format.{Format}
use Rattle.segment_core.specs.declared.format.Shape.{Shape}
use Rattle.segment_core.specs.Shape.{shape_of}
use Rattle.segment_core.specs.Frame.{Frame, header, frame_text, text}
use Rattle.segment_core.specs.Tally.{nothing, tally_of, AreLegal}
use Rattle.segment_core.specs.Image.{BeginsImage}
use Rattle.segment_core.specs.Vector.{change_of, place_of, record_in, record_at, IsVectorOf}
use Rattle.segment_core.specs.Folding.{IsLoose}
use Rattle.segment_core.specs.Blanked.{all_blanked}
use Rattle.segment_core.proofs.Push.{length-text}
use Rattle.segment_core.proofs.PlaceOf.{home_of_between, place_of_between}
use Rattle.segment_core.proofs.Apart.{place_of_told}
use Rattle.segment_core.proofs.Blanked.{same_tally, same_home, same_change, same_place, same_legal}
use Rattle.segment_core.proofs.HomesAnew.{BeginsAlike, begins_alike}

pub take_same : (n q : ℕ) (a b : List ℕ)
    → q + n ≤ length a → q + n ≤ length b → ((j : ℕ) → q ≤ j → j < q + n → get_or a j 0 ≡ get_or b j 0)
    → take n (drop q a) ≡ take n (drop q b)
take_same n q a b in_a in_b same =
    let la = length-take-le n (drop q a) (omega (arith, length-drop q a)) in
    let lb = length-take-le n (drop q b) (omega (arith, length-drop q b)) in
    ext_get_or 0 (take n (drop q a)) (take n (drop q b)) (la ∙ sym lb) (λ j lt.
    get_or-take n (drop q a) j 0 (omega arith) ∙ get_or-drop q a j 0 ∙ same (q + j) (omega arith) (omega arith)
    ∙ sym (get_or-take n (drop q b) j 0 (omega arith) ∙ get_or-drop q b j 0))

-- what is loose is so whatever home bytes are
pub IsLoose_same : (shape : Shape) (frames others : List Frame) (j : ℕ) → all_blanked frames ≡ all_blanked others → IsLoose shape frames j → IsLoose shape others j
IsLoose_same shape frames others j same loose = record {
  position = loose.position;
  place = loose.place;
  told = loose.told;
  home_is = sym (same_home frames others same shape loose.position) ∙ loose.home_is;
  covered =
      sym (ap (λ t. change_of shape t.folded frames loose.position) (same_tally frames others same) ∙ same_change frames others same shape (tally_of others).folded loose.position)
      ∙ loose.covered;
  from = loose.from;
  before = loose.before;
}

-- the same bytes up to the gate behind these frames, but for loose ones
pub record AgreesButLoose (shape : Shape) (frames : List Frame) (image other : List ℕ) : Type 0 where
  pub long : length (text shape frames) ≤ length other
  pub each : (j : ℕ) → j < length (text shape frames) → (IsLoose shape frames j → ⊥) → get_or other j 0 ≡ get_or image j 0

-- the other bytes begin with these frames but for their home bytes, and say the same
pub record SaysAgain {R : Type 0} (format : Format) (form : Encoding R) (other : List ℕ) (frames : List Frame) (records : List R) : Type 0 where
  pub others : List Frame
  pub alike : all_blanked others ≡ all_blanked frames
  pub begins : BeginsImage (shape_of format form) other others
  pub read : IsVectorOf format form other others records

module _ {R : Type 0} (format : Format) (form : Encoding R) (image other : List ℕ) (frames : List Frame)
    (records : List R) (begins : BeginsImage (shape_of format form) image frames)
    (same : AgreesButLoose (shape_of format form) frames image other) where
  abbrev shape : Shape
  shape = shape_of format form

  abbrev legal : AreLegal shape frames
  legal = begins.legal

  abbrev rest : List ℕ
  rest = begins.begins.0

  abbrev h : ℕ
  h = length (header shape)

  abbrev n : ℕ
  n = length (flat_map (frame_text format) frames)

  all : length (text shape frames) ≡ h + n
  all = length-text shape frames

  behind_header : image ≡ header shape ++ (flat_map (frame_text format) frames ++ rest)
  behind_header = begins.begins.1 ∙ append_assoc (header shape) (flat_map (frame_text format) frames) rest

  header_stays : take h other ≡ header shape
  header_stays =
      let long = same.long in
      let l = length-take-le h other (omega (arith, all)) in
      ext_get_or 0 (take h other) (header shape) l (λ j lt.
      get_or-take h other j 0 (omega arith)
      ∙ same.each j (omega (arith, all)) (λ loose. let b = home_of_between shape frames loose.position loose.place legal loose.home_is in omega (arith, b.from, loose.from))
      ∙ ap (λ (bs : List ℕ). get_or bs j 0) behind_header ∙ get_or_append_left (header shape) (flat_map (frame_text format) frames ++ rest) 0 j (omega arith))

  frames_stay : BeginsAlike format frames (drop h other)
  frames_stay =
      let long = same.long in
      begins_alike shape h nothing frames (flat_map (frame_text format) frames ++ rest) rest (drop h other) legal refl (omega (arith, all, length-drop h other)) (λ j lt not.
      get_or-drop h other j 0
      ∙ same.each (h + j) (omega (arith, all)) (λ loose. not loose.position loose.place loose.home_is loose.from loose.before)
      ∙ ap (λ (bs : List ℕ). get_or bs (h + j) 0) behind_header ∙ get_or-append-add (header shape) (flat_map (frame_text format) frames ++ rest) j 0)

  other_is : other ≡ text shape frames_stay.others ++ drop (length (text shape frames)) other
  other_is =
      let there = frames_stay.begins ∙ ap (λ (bs : List ℕ). flat_map (frame_text format) frames_stay.others ++ bs) (drop-drop n h other ∙ ap (λ k. drop k other) (sym all)) in
      sym (take-append-drop h other) ∙ ap (λ (bs : List ℕ). bs ++ drop h other) header_stays ∙ ap (λ (bs : List ℕ). header shape ++ bs) there
      ∙ sym (append_assoc (header shape) (flat_map (frame_text format) frames_stay.others) (drop (length (text shape frames)) other))

  -- what says what is at a position stays
  bytes_stay : (i place : ℕ) → place_of shape frames i ≡ Some place → take form.width (drop place other) ≡ take form.width (drop place image)
  bytes_stay i place is =
      let b = place_of_between shape frames i place legal is in
      let size = length-append (text shape frames) rest in
      let len = ap length begins.begins.1 in
      take_same form.width place other image (omega (arith, b.to, same.long)) (omega (arith, b.to))
      (λ j from before. same.each j (omega (arith, b.to)) (place_of_told shape frames i place j legal is from before))

  record_stays : (i : ℕ) → record_at format form other frames_stay.others i ≡ record_at format form image frames i
  record_stays i = ap (option_and_then (record_in form other)) (same_place frames_stay.others frames frames_stay.alike shape i) ∙ at_place (place_of shape frames i) refl
    where
      at_place : (o : Option ℕ) → place_of shape frames i ≡ o → option_and_then (record_in form other) o ≡ option_and_then (record_in form image) o
      at_place None is = refl
      at_place (Some place) is = ap form.value_of (bytes_stay i place is)

  pub IsVectorOf_loose : IsVectorOf format form image frames records → SaysAgain format form other frames records
  IsVectorOf_loose read = record {
    others = frames_stay.others;
    alike = frames_stay.alike;
    begins = record { legal = same_legal frames frames_stay.others (sym frames_stay.alike) shape legal; begins = (drop (length (text shape frames)) other, other_is) };
    read = record {
      size = read.size ∙ ap (λ t. t.size) (sym (same_tally frames_stay.others frames frames_stay.alike));
      each = λ i lt. record_stays i ∙ read.each i lt;
    };
  }
