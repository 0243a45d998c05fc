-- Worked examples: a file that keeps the premise while a fold writes a home byte, and what frames make of vectors.
use Rattle.std.proofs.Common.{◌≡◌, ◌≢◌, ◌⊎◌, ℕ, zero, suc, ◌<◌, ◌≤◌, List, [], ◌∷◌, ◌++◌, length, take, drop, get_or, false, Some, append_assoc, refl, sym, ap, subst, ◌∙◌, arith, inl, inr, length-append}
use Rattle.std.specs.Prelude.{slice_index, slice_get}
use Rattle.std.specs.Option.{option_and_then}
use Rattle.std.specs.List.{flat_map}
use Rattle.std.proofs.lemmas.List.{get_or_append_left}
use Rattle.record_core.specs.Bytes.{boolean}
use Rattle.segment_core.specs.declared.fault.ScanFault.TheVariants.{Unborn, Width}
use Rattle.segment_core.specs.declared.format.Format.TheVariants.{One}
use Rattle.segment_core.specs.declared.format.Shape.{Shape}
use Rattle.segment_core.specs.Frame.{Frame, Group, Change, Shrink, Fold, text, frame_text, header}
use Rattle.segment_core.specs.declared.tally.Tally.{Tally}
use Rattle.segment_core.specs.declared.fault.Cause.TheVariants.{ShortFrame, Layout}
use Rattle.segment_core.specs.Layout.{IsFrame, u32_at, u64_at, is_group_layout, is_change_layout}
use Rattle.segment_core.specs.Fault.{header_lines, frame_fault, frame_lines, order_lines, damaged}
use Rattle.std.specs.Global.{Vec}
use Rattle.segment_core.specs.Raw.{raw, AreReadAs}
use Rattle.beside_core.specs.declared.bookmark.Bookmark.{Bookmark}
use Rattle.beside_core.specs.declared.fault.LookFault.{LookFault}
use Rattle.beside_core.specs.declared.seen.Seen.{Seen}
use Rattle.beside_core.specs.Seen.{IsSeen, IsUnseen, EndEarly, IsEnd}
use Rattle.beside_core.proofs.Walking.{text-append}
use Rattle.beside_core.proofs.Taking.{first_ones}
use Rattle.beside_core.proofs.Grown.{none_came}
use Rattle.segment_core.specs.Tally.{nothing, is_disordered, is_outside, is_unfolded, is_miscounted, is_too_long, MayFollow, AreLegal}
use Rattle.beside_core.specs.declared.fault.LookFault.TheVariants.{Scan}
use Rattle.beside_core.specs.declared.since.Loss.TheVariants.{Changed, Shorter}
use Rattle.beside_core.specs.MayDiffer.{MayDiffer}
use Rattle.beside_core.specs.PensFile.{IsPensFile}
use Rattle.beside_core.specs.Replay.{replayed, vector_left}
use Rattle.beside_core.specs.Tail.{IsLossBy}
use Rattle.beside_core.specs.Since.{MayRefuse}

-- ---- a file of records of one byte: 5 is grown, changed to 7, and folded

abbrev one_byte : Shape
one_byte = record { format = One; width = 1 }

abbrev grown : Frame
grown = Group (1 ∷ []) (5 ∷ [])

abbrev changed : Frame
changed = Change (record { start = 0; count = 1 } ∷ []) (7 ∷ [])

-- the frames of each moment: at moment 2 the fold's home write is under way
abbrev frames : ℕ → List Frame
frames zero = grown ∷ []
frames (suc zero) = grown ∷ changed ∷ []
frames (suc (suc zero)) = grown ∷ changed ∷ []
frames (suc (suc (suc t))) = grown ∷ changed ∷ Fold 1 ∷ []

-- what stands before the home byte of position 0, which is at place 25
abbrev front : List ℕ
front = header one_byte ++ (1 ∷ 1 ∷ 9 ∷ 0 ∷ 0 ∷ 0 ∷ 1 ∷ 0 ∷ 0 ∷ 0 ∷ 1 ∷ 0 ∷ 0 ∷ 0 ∷ [])

abbrev back : ℕ → List ℕ
back zero = 0 ∷ []
back (suc zero) = frame_text One changed ++ 0 ∷ []
back (suc (suc zero)) = frame_text One changed ++ 0 ∷ []
back (suc (suc (suc t))) = frame_text One changed ++ frame_text One (Fold 1) ++ 0 ∷ []

abbrev home : ℕ → ℕ
home zero = 5
home (suc zero) = 5
home (suc (suc t)) = 7

held : ℕ → List ℕ
held t = front ++ home t ∷ back t

is_grown : IsFrame one_byte grown
is_grown = record { wide = omega arith; small = omega arith; layout = (omega arith, ((omega arith, omega arith), tt), refl) }

is_changed : IsFrame one_byte changed
is_changed = record { wide = omega arith; small = omega arith; layout = (refl, ((omega arith, (omega arith, omega arith)), tt), refl) }

is_fold : IsFrame one_byte (Fold 1)
is_fold = record { wide = omega arith; small = omega arith; layout = omega arith }

may : (tally : Tally) (frame : Frame) → is_disordered frame ≡ false → is_outside tally frame ≡ false → is_unfolded tally frame ≡ false → is_miscounted tally frame ≡ false
    → is_too_long tally frame ≡ false → MayFollow tally frame
may tally frame a b c d e = record { ordered = a; inside = b; folded = c; counted = d; short = e }

all_legal : (t : ℕ) → AreLegal one_byte (frames t)
all_legal zero = (is_grown, may nothing grown refl refl refl refl refl, tt)
all_legal (suc zero) = (is_grown, may nothing grown refl refl refl refl refl, (is_changed, may _ changed refl refl refl refl refl, tt))
all_legal (suc (suc zero)) = (is_grown, may nothing grown refl refl refl refl refl, (is_changed, may _ changed refl refl refl refl refl, tt))
all_legal (suc (suc (suc t))) = (is_grown, may nothing grown refl refl refl refl refl, (is_changed, may _ changed refl refl refl refl refl, (is_fold, may _ (Fold 1) refl refl refl refl refl, tt)))

grows : (s t : ℕ) → s ≤ t → (more : List Frame) × (frames t ≡ frames s ++ more)
grows zero zero le = ([], refl)
grows zero (suc zero) le = (changed ∷ [], refl)
grows zero (suc (suc zero)) le = (changed ∷ [], refl)
grows zero (suc (suc (suc t))) le = (changed ∷ Fold 1 ∷ [], refl)
grows (suc zero) zero le = absurd (omega (arith, le))
grows (suc zero) (suc zero) le = ([], refl)
grows (suc zero) (suc (suc zero)) le = ([], refl)
grows (suc zero) (suc (suc (suc t))) le = (Fold 1 ∷ [], refl)
grows (suc (suc zero)) zero le = absurd (omega (arith, le))
grows (suc (suc zero)) (suc zero) le = absurd (omega (arith, le))
grows (suc (suc zero)) (suc (suc zero)) le = ([], refl)
grows (suc (suc zero)) (suc (suc (suc t))) le = (Fold 1 ∷ [], refl)
grows (suc (suc (suc s))) zero le = absurd (omega (arith, le))
grows (suc (suc (suc s))) (suc zero) le = absurd (omega (arith, le))
grows (suc (suc (suc s))) (suc (suc zero)) le = absurd (omega (arith, le))
grows (suc (suc (suc s))) (suc (suc (suc t))) le = ([], refl)

-- lists that differ in one element alone
but_one : (a c : List ℕ) (x y j : ℕ) → (get_or (a ++ x ∷ c) j 0 ≡ get_or (a ++ y ∷ c) j 0) ⊎ (j ≡ length a)
but_one [] c x y zero = inr refl
but_one [] c x y (suc j) = inl refl
but_one (b ∷ a) c x y zero = inl refl
but_one (b ∷ a) c x y (suc j) = elim (but_one a c x y j) [ inl same ↦ inl same | inr here ↦ inr (ap suc here) ]

-- what was written first, with the closed gate
written : (t : ℕ) → text one_byte (frames t) ++ 0 ∷ [] ≡ front ++ 5 ∷ back t
written zero = refl
written (suc zero) = refl
written (suc (suc zero)) = refl
written (suc (suc (suc t))) = refl

home_covered : (t : ℕ) → (home t ≡ 5) ⊎ MayDiffer one_byte 0 (frames t) 14
home_covered zero = inl refl
home_covered (suc zero) = inl refl
home_covered (suc (suc zero)) = inr (inl (0, omega arith, omega arith, omega arith, inl refl))
home_covered (suc (suc (suc t))) = inr (inl (0, omega arith, omega arith, omega arith, inl refl))

worked : IsPensFile one_byte held frames
unfolding held
worked = record {
  wide = omega arith;
  narrow = omega arith;
  legal = all_legal;
  grows = grows;
  stands = λ t j lt. (
      let first : get_or (text one_byte (frames t) ++ 0 ∷ []) j 0 ≡ get_or (text one_byte (frames t)) j 0 = get_or_append_left (text one_byte (frames t)) (0 ∷ []) 0 j lt in
      let other : get_or (front ++ 5 ∷ back t) j 0 ≡ get_or (text one_byte (frames t)) j 0 = ap (λ (bs : List ℕ). get_or bs j 0) (sym (written t)) ∙ first in
      elim (home_covered t) [
        | inl same ↦ inl (ap (λ x. get_or (front ++ x ∷ back t) j 0) same ∙ other)
        | inr differs ↦ elim (but_one front (back t) (home t) 5 j) [
          | inl same ↦ inl (same ∙ other)
          | inr here ↦ inr (14, here, differs)
        ]
      ]);
  closed = closed;
}
  where
    closed : (t : ℕ) → slice_index (held t) (length (text one_byte (frames t))) ≢ 1
    closed zero is = absurd (omega (arith, is))
    closed (suc zero) is = absurd (omega (arith, is))
    closed (suc (suc zero)) is = absurd (omega (arith, is))
    closed (suc (suc (suc t))) is = absurd (omega (arith, is))

-- ---- what frames make of a vector

replays : replayed 1 [] (Group (2 ∷ 1 ∷ []) (5 ∷ 6 ∷ 8 ∷ []) ∷ Change (record { start = 1; count = 1 } ∷ []) (7 ∷ []) ∷ Fold 1 ∷ Shrink 2 ∷ Group (1 ∷ []) (9 ∷ []) ∷ [])
    ≡ (5 ∷ []) ∷ (7 ∷ []) ∷ (9 ∷ []) ∷ []
replays = refl

-- a change of position 1 is a loss of the records below 2, and none of those below 1
is_loss : IsLossBy 2 (Change (record { start = 1; count = 1 } ∷ []) (7 ∷ []) ∷ []) (Changed 1)
is_loss = (omega arith, record { start = 1; count = 1 } ∷ [], 7 ∷ [], ([], [], refl), refl)

no_loss : IsLossBy 1 (Change (record { start = 1; count = 1 } ∷ []) (7 ∷ []) ∷ []) (Changed 1) → ⊥
no_loss loss = absurd (omega (arith, loss.0))

is_cut : IsLossBy 3 (Fold 0 ∷ Shrink 2 ∷ []) (Shorter 2)
is_cut = (omega arith, (Fold 0 ∷ [], [], refl))

no_cut : IsLossBy 2 (Fold 0 ∷ Shrink 2 ∷ []) (Shorter 2) → ⊥
no_cut loss = absurd (omega (arith, loss.0))

-- no pen's file is called unborn, nor of another width than it has
never_unborn : (frames : ℕ → List Frame) → MayRefuse boolean one_byte frames 0 0 (Scan Unborn) → ⊥
never_unborn frames may = may.0 refl

other_width : (frames : ℕ → List Frame) → MayRefuse boolean (record { format = One; width = 8 }) frames 0 0 (Scan (Width 8))
other_width frames = ((λ is. absurd (omega (arith, is))), refl)

-- ---- what bytes show that were read of that file

abbrev behind_change : Bookmark
behind_change = record {
  shape = one_byte;
  gate = 41;
  tally = record { size = 1; changes = 1; folded = 0 };
  wide = omega arith;
  narrow = omega arith;
  short = omega arith;
  few = omega arith;
}

-- with the home byte as it was written, or as the fold writes it: the change says what stands there
abbrev read_with : ℕ → List ℕ
read_with home = front ++ home ∷ frame_text One changed ++ 0 ∷ []

abbrev shown : Vec (List ℕ) → Seen (List ℕ)
shown records = record { records = records; frames = 2; next = behind_change }

seen : (byte : ℕ) (records : Vec (List ℕ)) → records.items ≡ (7 ∷ []) ∷ [] → IsSeen (raw 1) (read_with byte) (shown records)
seen byte records is = record {
  frames = Group (1 ∷ []) (byte ∷ []) ∷ changed ∷ [];
  framed = record {
    legal = (
      record { wide = omega arith; small = omega arith; layout = (omega arith, ((omega arith, omega arith), tt), refl) },
      may nothing (Group (1 ∷ []) (byte ∷ [])) refl refl refl refl refl,
      (is_changed, may _ changed refl refl refl refl refl, tt),
    );
    closed = (0, [], (λ none. absurd (omega (arith, none))), refl);
  };
  wide = refl;
  many = refl;
  lies = record { shape_is = refl; gate_is = refl; tally_is = refl };
  are = subst (λ found. AreReadAs (raw 1) ((7 ∷ []) ∷ []) found) (sym is) (record { size = refl; each = each });
}
  where
    each : (i : ℕ) → option_and_then (raw 1).value_of (slice_get ((7 ∷ []) ∷ []) i) ≡ slice_get ((7 ∷ []) ∷ []) i
    each zero = refl
    each (suc i) = refl

five_is_not_seven : (a b : List ℕ) → a ≡ 7 ∷ [] → b ≡ 5 ∷ [] → Some a ≡ Some b → ⊥
five_is_not_seven a b seven five is =
    let same : a ≡ b = cc in
    absurd (omega (arith, ap (λ (bs : List ℕ). get_or bs 0 0) (sym seven ∙ same ∙ five)))

-- and not 5, which stands in the home byte
not_seen : (records : Vec (List ℕ)) → records.items ≡ (5 ∷ []) ∷ [] → IsSeen (raw 1) (read_with 5) (shown records) → ⊥
not_seen records is found =
    let closed = found.framed.closed in
    let same : flat_map (frame_text One) (grown ∷ changed ∷ []) ++ 0 ∷ [] ≡ flat_map (frame_text One) found.frames ++ closed.0 ∷ closed.1
    = ap (drop 11) (closed.3 ∙ append_assoc (header one_byte) (flat_map (frame_text One) found.frames) (closed.0 ∷ closed.1)) in
    let shut : (frame : Frame) (more : List ℕ) → closed.0 ∷ closed.1 ≡ frame_text One frame ++ more → ⊥ = λ frame more next. closed.2 (ap (λ (bs : List ℕ). get_or bs 0 0) next) in
    let first = first_ones one_byte nothing (grown ∷ changed ∷ []) found.frames (0 ∷ []) (closed.0 ∷ closed.1) shut same (all_legal 1) found.framed.legal in
    let none : first.0 ≡ [] = none_came one_byte first.0 (omega (arith, ap length first.2, length-append (flat_map (frame_text One) first.0) (closed.0 ∷ closed.1))) in
    let cells : vector_left 1 found.frames ≡ (7 ∷ []) ∷ [] = ap (vector_left 1) (first.1 ∙ ap (λ (fs : List Frame). grown ∷ changed ∷ fs) none) in
    five_is_not_seven (7 ∷ []) (5 ∷ []) refl refl (ap (λ (cs : List (List ℕ)). option_and_then (raw 1).value_of (slice_get cs 0)) (sym cells) ∙ found.are.each 0 ∙ ap (λ (cs : List (List ℕ)). slice_get cs 0) is)

-- a file that was read to its end is never found to end early: there its gate stands inside it
pub never_early : (shape : Shape) (held : ℕ → List ℕ) (frames : ℕ → List Frame) (from to end : ℕ) (bytes : List ℕ) (fault : LookFault) → IsPensFile shape held frames
    → ((t : ℕ) → length (text shape (frames t)) < length (held t)) → to ≤ end → length (held end) ≤ length bytes → EndEarly shape frames from to bytes fault → ⊥
never_early shape held frames from to end bytes fault file inside le all early =
    let grown = file.grows early.moment end (omega (arith, early.until, le)) in
    let longer = ap (λ (fs : List Frame). length (text shape fs)) grown.1 ∙ ap length (text-append shape (frames early.moment) grown.0)
    ∙ length-append (text shape (frames early.moment)) (flat_map (frame_text shape.format) grown.0) in
    absurd (omega (arith, inside end, all, early.short, longer))

-- a frame that is cut is an end; one of another form is none
cut_ends : IsEnd (damaged 26 ShortFrame)
cut_ends = inr refl

wrong_is_no_end : IsEnd (damaged 26 Layout) → ⊥
wrong_is_no_end (inl is) = absurd cc
wrong_is_no_end (inr is) = absurd cc

-- bytes that stop in the change are at fault there, and those whose first byte is closed are none of a file
cut_short : IsUnseen (raw 1) (take 30 (read_with 5)) (Scan (damaged 26 ShortFrame))
unfolding header_lines frame_fault frame_lines order_lines is_group_layout is_change_layout u32_at u64_at
cut_short = (grown ∷ [], record { legal = (is_grown, may nothing grown refl refl refl refl refl, tt); begins = (1 ∷ 2 ∷ 9 ∷ 0 ∷ [], refl) }, refl)

unborn : IsUnseen (raw 1) (0 ∷ read_with 5) (Scan Unborn)
unfolding header_lines
unborn = refl
