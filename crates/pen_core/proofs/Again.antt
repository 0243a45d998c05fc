-- Bytes that agree with those of a file, but for home bytes that live changes cover, are that file's.
use Rattle.std.proofs.Common.{◌≡◌, ◌≢◌, ℕ, ◌+◌, ◌≤◌, ◌<◌, Bool, true, false, cond, List, [], ◌∷◌, ◌++◌, length, drop, get_or, Option, Some, None, refl, sym, ap, ◌∙◌, arith, inl, inr}
use Rattle.std.specs.Prelude.{nat_lt}
use Rattle.std.specs.Option.{option_or}
use Rattle.std.proofs.lemmas.List.{drop_at, drop_more}
use Rattle.segment_core.specs.declared.format.Shape.{Shape}
use Rattle.segment_core.specs.declared.tally.Tally.{Tally}
use Rattle.segment_core.specs.Frame.{Frame, header, frame_text, text}
use Rattle.segment_core.specs.Tally.{nothing, after, tally_of}
use Rattle.segment_core.specs.Vector.{last_from, change_in, change_of}
use Rattle.segment_core.specs.Folding.{IsLoose}
use Rattle.segment_core.specs.Blanked.{all_blanked}
use Rattle.segment_core.proofs.Blanked.{all_blanked-all_blanked, length-text-blanked}
use Rattle.segment_core.proofs.LastFrom.{option_or_cases}
use Rattle.segment_core.proofs.Loose.{IsLoose_same, IsVectorOf_loose}
use Rattle.segment_core.specs.Raw.{raw}
use Rattle.pen_core.specs.Held.{Opens, HoldsFrames, IsBeingFolded, early_in, gate_of}

pub gate_behind : (shape : Shape) (found frames : List Frame) → all_blanked found ≡ frames → length (text shape found) ≡ gate_of shape frames
gate_behind shape found frames alike = sym (length-text-blanked shape found) ∙ ap (λ fs. length (text shape fs)) alike

-- frames whose home bytes are blank stay so
pub blank_again : (found frames : List Frame) → all_blanked found ≡ frames → all_blanked frames ≡ all_blanked found
blank_again found frames alike = ap all_blanked (sym alike) ∙ all_blanked-all_blanked found

-- ---- what is being folded is covered by a live change

record Said (A : Type 0) (o : Option A) : Type 0 where
  value : A
  is : o ≡ Some value

early_said : (b : Bool) (o : Option ℕ) (x : ℕ) → cond b o None ≡ Some x → o ≡ Some x
early_said true o x is = is
early_said false o x is = absurd cc

or_now : (a b : Option ℕ) (y : ℕ) → b ≡ Some y → Said ℕ (option_or a b)
or_now None b y at = record { value = y; is = at }
or_now (Some z) b y at = record { value = z; is = refl }

or_later : (a b : Option ℕ) (y : ℕ) → a ≡ Some y → Said ℕ (option_or a b)
or_later a b y at = record { value = y; is = ap (λ o. option_or o b) at }

-- where the later says less, what it says is said
last_from_more : (says more : ℕ → Tally → Frame → Option ℕ) (shape : Shape) (p : ℕ) (tally : Tally) (frames : List Frame) (x : ℕ)
    → ((q : ℕ) (t : Tally) (frame : Frame) (y : ℕ) → says q t frame ≡ Some y → more q t frame ≡ Some y)
    → last_from says shape.format p tally frames ≡ Some x → Said ℕ (last_from more shape.format p tally frames)
last_from_more says more shape p tally [] x all is = absurd cc
last_from_more says more shape p tally (frame ∷ frames) x all is =
    let q : ℕ = p + length (frame_text shape.format frame) in
    let t : Tally = after tally frame in
    elim (option_or_cases (last_from says shape.format q t frames) (says p tally frame) x is) [
      | inl
          later ↦ (let s = last_from_more says more shape q t frames x all later in
          or_later (last_from more shape.format q t frames) (more p tally frame) s.value s.is)
      | inr here ↦ or_now (last_from more shape.format q t frames) (more p tally frame) x (all p tally frame x here.1)
    ]

pub folded_covered : (shape : Shape) (count : ℕ) (frames : List Frame) (j : ℕ) → (is : IsBeingFolded shape count frames j)
    → (told : ℕ) × (change_of shape (tally_of frames).folded frames is.position ≡ Some told)
folded_covered shape count frames j is =
    let folded : ℕ = (tally_of frames).folded in
    let said =
    last_from_more (early_in shape folded count is.position) (change_in shape folded is.position) shape
    (length (header shape)) nothing frames is.told
    (λ q t frame y at. early_said (nat_lt t.changes count) (change_in shape folded is.position q t frame) y at) is.covered in
    (said.value, said.is)

pub folded_loose : (shape : Shape) (count : ℕ) (frames : List Frame) (j : ℕ) → IsBeingFolded shape count frames j → IsLoose shape frames j
folded_loose shape count frames j is =
    let said = folded_covered shape count frames j is in
    record { position = is.position; place = is.place; told = said.0; home_is = is.home_is; covered = said.1; from = is.from; before = is.before }

-- ---- the same file

-- The same frames but for home bytes, and the same vector, in bytes that are the same but for loose ones.
pub Holds-again : (shape : Shape) (frames : List Frame) (vector : List (List ℕ)) (base image : List ℕ)
    → HoldsFrames shape frames vector base → gate_of shape frames ≤ length image
    → ((j : ℕ) → j < gate_of shape frames → (IsLoose shape frames j → ⊥) → get_or image j 0 ≡ get_or base j 0)
    → HoldsFrames shape frames vector image
Holds-again shape frames vector base image has long same =
    let gate = gate_behind shape has.found frames has.alike in
    let again = IsVectorOf_loose shape.format (raw shape.width) base image has.found vector has.begins (record {
      long = omega arith;
      each = λ j lt fast. same j (omega arith) (λ loose. fast (IsLoose_same shape frames has.found j (blank_again has.found frames has.alike) loose));
    }) has.read in
    record { found = again.others; alike = again.alike ∙ has.alike; begins = again.begins; read = again.read }

-- and where the gate behind them is closed, such an image opens so
pub Holds-opens : (shape : Shape) (frames : List Frame) (vector : List (List ℕ)) (image : List ℕ)
    → HoldsFrames shape frames vector image → gate_of shape frames < length image → get_or image (gate_of shape frames) 0 ≢ 1
    → Opens shape frames vector image
Holds-opens shape frames vector image has long closed =
    let gate = gate_behind shape has.found frames has.alike in
    let b = has.begins.begins in
    let p : ℕ = length (text shape has.found) in
    let rest : drop p image ≡ b.0 = ap (drop p) b.1 ∙ drop_at (text shape has.found) b.0 p refl in
    record {
      found = has.found;
      alike = has.alike;
      opened = record {
        framed = record {
          legal = has.begins.legal;
          closed = (
            get_or image p 0,
            drop (p + 1) image,
            λ opened. closed (ap (λ n. get_or image n 0) (sym gate) ∙ opened),
            b.1 ∙ ap (λ (bs : List ℕ). text shape has.found ++ bs) (sym rest ∙ drop_more image p 0 (omega arith)),
          );
        };
        read = has.read;
      };
    }
