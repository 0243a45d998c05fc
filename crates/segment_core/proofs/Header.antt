-- The header of a file, and the tests that find it.
use Rattle.std.proofs.Common.{◌≡◌, ℕ, ◌≤◌, ◌<◌, Bool, true, false, cond, List, [], ◌∷◌, ◌++◌, length, take, drop, get_or, slice_index, Some, None, refl, sym, ap, ◌∙◌, arith, codes}
use Rattle.std.specs.Prelude.{not, nat_lt, nat_le, nat_eq, ◌==◌, ◌||◌}
use Rattle.std.specs.List.{starts_with}
use Rattle.std.specs.Int.{w16, to_le_bytes, from_le_bytes}
use Rattle.std.specs.Cmp.Lexicographic.{pointwise, same_text}
use Rattle.std.proofs.lemmas.Bool.{not-false, or_parts, or_from, le-ltb, lt-ltb, le-leb, lt-leb, ltb-false, eqb-true, eq-eqb, ne_eqb}
use Rattle.std.proofs.lemmas.List.{take-append-drop, length-append, length-take-le, length-drop, drop-drop, get_or-drop, get_or_append_left, drop-append-le, take-append-le}
use Rattle.std.proofs.lemmas.Nat.{le_bytes_2}
use Rattle.record_core.specs.Bytes.{IsBytes}
use Rattle.segment_core.specs.declared.fault.ScanFault.{ScanFault}
use Rattle.segment_core.specs.declared.fault.ScanFault.TheVariants.{Unborn, NotSegment, Version, Width}
use Rattle.segment_core.specs.declared.format.Format.{Format}
use Rattle.segment_core.specs.declared.format.Format.TheVariants.{One, Two}
use Rattle.segment_core.specs.Shape.{version_of, format_in}
use Rattle.segment_core.specs.Frame.{header}
use Rattle.segment_core.specs.Fault.{header_lines, header_fault, first_line, is_version}
use Rattle.segment_core.proofs.Numbers.{IsBytes-drop, IsBytes-take}
use Rattle.segment_core.proofs.Lines.{first_line_at, AreSilent, first_line_silent}

silent_lines : (lines : List (Bool × ScanFault)) → first_line lines ≡ None → AreSilent lines
silent_lines [] none = tt
silent_lines ((true, fault) ∷ lines) none = absurd cc
silent_lines ((false, fault) ∷ lines) none = (refl, silent_lines lines none)

-- what stands in a header that no test refuses
pub record HasHeader (width : ℕ) (image : List ℕ) : Type 0 where
  pub long : 11 ≤ length image
  pub opened : slice_index image 0 ≡ 1
  pub magic : starts_with nat_eq (drop 1 image) (codes "CVECSEG") ≡ true
  pub version : slice_index image 8 ≡ version_of (format_in image)
  pub wide : from_le_bytes w16 (take 2 (drop 9 image)) ≡ width

version_known : (image : List ℕ) → is_version (slice_index image 8) ≡ true → slice_index image 8 ≡ version_of (format_in image)
version_known image known = by_tests (slice_index image 8) (slice_index image 8 == 1) (slice_index image 8 == 2) (eqb-true _ _) (eqb-true _ _) known
  where
    by_tests : (byte : ℕ) (one two : Bool) → (one ≡ true → byte ≡ 1) → (two ≡ true → byte ≡ 2) → (one || two) ≡ true → byte ≡ version_of (cond one One Two)
    by_tests byte true two a b known = a refl
    by_tests byte false true a b known = b refl
    by_tests byte false false a b known = absurd cc

-- the format whose version the byte is
pub format_known : (image : List ℕ) (format : Format) → version_of format ≡ slice_index image 8 → format_in image ≡ format
format_known image One is = ap (λ n. cond (n == 1) One Two) (sym is)
format_known image Two is = ap (λ n. cond (n == 1) One Two) (sym is)

pub is_version-version_of : (format : Format) → is_version (version_of format) ≡ true
is_version-version_of One = refl
is_version-version_of Two = refl

pub header_of_none : (width : ℕ) (image : List ℕ) → header_fault width image ≡ None → HasHeader width image
unfolding header_lines
header_of_none width image none =
    let silent = silent_lines (header_lines width image) none in
    let born = or_parts _ _ silent.0 in
    let segment = or_parts _ _ silent.1.0 in
    record {
      long = ltb-false _ _ segment.0;
      opened = eqb-true _ _ (not-false _ born.1);
      magic = not-false _ segment.1;
      version = version_known image (not-false _ silent.1.1.0);
      wide = eqb-true _ _ (not-false _ silent.1.1.1.0);
    }

first_cell : (bytes : List ℕ) (n : ℕ) → 0 < length bytes → slice_index bytes 0 ≡ n → bytes ≡ n ∷ drop 1 bytes
first_cell [] n some is = absurd (omega arith)
first_cell (b ∷ bytes) n some is = ap (λ x. x ∷ bytes) is

pub header_written : (width : ℕ) (image : List ℕ) → IsBytes image → HasHeader width image → image ≡ header (record { format = format_in image; width = width }) ++ drop 11 image
header_written width image fits has =
    let long = has.long in
    let byte : ℕ = version_of (format_in image) in
    let magic : take 7 (drop 1 image) ≡ codes "CVECSEG" = sym (same_text (codes "CVECSEG") (take 7 (drop 1 image)) (sym has.magic)) in
    let some : 0 < length (drop 8 image) = let l = length-drop 8 image in omega arith in
    let version : slice_index (drop 8 image) 0 ≡ byte = get_or-drop 8 image 0 0 ∙ has.version in
    let enough : 2 ≤ length (drop 9 image) = let l = length-drop 9 image in omega arith in
    let wide : to_le_bytes w16 width ≡ take 2 (drop 9 image)
    = le_bytes_2 (take 2 (drop 9 image)) width (length-take-le 2 (drop 9 image) enough) (IsBytes-take 2 (drop 9 image) (IsBytes-drop 9 image fits)) (sym has.wide) in
    let last : drop 9 image ≡ to_le_bytes w16 width ++ drop 11 image
    = sym (take-append-drop 2 (drop 9 image))
    ∙ ap (λ (bs : List ℕ). bs ++ drop 2 (drop 9 image)) (sym wide)
    ∙ ap (λ (bs : List ℕ). to_le_bytes w16 width ++ bs) (drop-drop 2 9 image) in
    let middle : drop 8 image ≡ byte ∷ (to_le_bytes w16 width ++ drop 11 image)
    = first_cell (drop 8 image) byte some version
    ∙ ap (λ (bs : List ℕ). byte ∷ bs) (drop-drop 1 8 image ∙ last) in
    let rest : drop 1 image ≡ codes "CVECSEG" ++ (byte ∷ (to_le_bytes w16 width ++ drop 11 image))
    = sym (take-append-drop 7 (drop 1 image))
    ∙ ap (λ (bs : List ℕ). bs ++ drop 7 (drop 1 image)) magic
    ∙ ap (λ (bs : List ℕ). codes "CVECSEG" ++ bs) (drop-drop 7 1 image ∙ middle) in
    first_cell image 1 (omega arith) has.opened ∙ ap (λ (bs : List ℕ). 1 ∷ bs) rest

starts_more : (front bytes more : List ℕ) → length front ≤ length bytes → starts_with nat_eq (bytes ++ more) front ≡ starts_with nat_eq bytes front
starts_more front bytes more long = ap (pointwise nat_eq front) (take-append-le (length front) bytes more long)

-- a front is told by as many bytes
starts_append : (front bytes more : List ℕ) {whole : List ℕ} → length front ≤ length bytes → whole ≡ bytes ++ more → starts_with nat_eq whole front ≡ starts_with nat_eq bytes front
starts_append front bytes more {whole} long is = ap (λ (bs : List ℕ). starts_with nat_eq bs front) is ∙ starts_more front bytes more long

-- ---- the tests as the code makes them

first_true : (a b : Bool) → a ≡ true → (a || b) ≡ true
first_true true b p = refl
first_true false b p = absurd cc

second_true : (a b : Bool) → b ≡ true → (a || b) ≡ true
second_true true b p = refl
second_true false b p = p

pub finds_unborn_short : (width : ℕ) (image : List ℕ) → length image ≤ 1 → header_fault width image ≡ Some Unborn
unfolding header_lines
finds_unborn_short width image short = first_line_at 0 (header_lines width image) Unborn (first_true _ _ (le-leb _ _ short), refl)

pub finds_unborn_closed : (width : ℕ) (image : List ℕ) → (slice_index image 0 ≡ 1 → ⊥) → header_fault width image ≡ Some Unborn
unfolding header_lines
finds_unborn_closed width image closed = first_line_at 0 (header_lines width image) Unborn (second_true _ _ (ap not (ne_eqb _ _ closed)), refl)

-- the file was begun
pub record IsBorn (image : List ℕ) : Type 0 where
  pub some : 1 < length image
  pub opened : slice_index image 0 ≡ 1

born : (image : List ℕ) → IsBorn image → (nat_le (length image) 1 || not (slice_index image 0 == 1)) ≡ false
born image is = or_from _ _ (lt-leb (length image) 1 is.some) (ap (λ n. not (n == 1)) is.opened)

pub finds_other_short : (width : ℕ) (image : List ℕ) → IsBorn image → length image < 11 → header_fault width image ≡ Some NotSegment
unfolding header_lines
finds_other_short width image is short = first_line_at 1 (header_lines width image) NotSegment (born image is, (first_true _ _ (lt-ltb _ _ short), refl))

pub finds_other_magic : (width : ℕ) (image : List ℕ) → IsBorn image → starts_with nat_eq (drop 1 image) (codes "CVECSEG") ≡ false → header_fault width image ≡ Some NotSegment
unfolding header_lines
finds_other_magic width image is other = first_line_at 1 (header_lines width image) NotSegment (born image is, (second_true _ _ (ap not other), refl))

-- and is a segment file
pub record IsSegment (image : List ℕ) : Type 0 where
  pub born : IsBorn image
  pub long : 11 ≤ length image
  pub magic : starts_with nat_eq (drop 1 image) (codes "CVECSEG") ≡ true

segment : (image : List ℕ) → IsSegment image → (nat_lt (length image) 11 || not (starts_with nat_eq (drop 1 image) (codes "CVECSEG"))) ≡ false
segment image is = or_from _ _ (le-ltb _ _ is.long) (ap not is.magic)

pub finds_version : (width : ℕ) (image : List ℕ) → IsSegment image → is_version (slice_index image 8) ≡ false → header_fault width image ≡ Some (Version (slice_index image 8))
unfolding header_lines
finds_version width image is other = first_line_at 2 (header_lines width image) _ (born image is.born, (segment image is, (ap not other, refl)))

pub finds_width : (width found : ℕ) (image : List ℕ)
    → IsSegment image → is_version (slice_index image 8) ≡ true → found ≡ from_le_bytes w16 (take 2 (drop 9 image))
    → (found ≡ width → ⊥)
    → header_fault width image ≡ Some (Width found)
unfolding header_lines
finds_width width found image is version at other =
    first_line_at 3 (header_lines width image) _ (born image is.born, (segment image is, (ap not version, (ap (λ n. not (n == width)) (sym at) ∙ ap not (ne_eqb _ _ other), ap Width (sym at)))))

pub finds_none : (width found : ℕ) (image : List ℕ)
    → IsSegment image → is_version (slice_index image 8) ≡ true → found ≡ from_le_bytes w16 (take 2 (drop 9 image))
    → found ≡ width
    → header_fault width image ≡ None
unfolding header_lines
finds_none width found image is version at same =
    first_line_silent (header_lines width image) (born image is.born, (segment image is, (ap not version, (ap (λ n. not (n == width)) (sym at) ∙ ap not (eq-eqb _ _ same), tt))))

-- the two bytes of the width
two_cells : (bytes : List ℕ) → 2 ≤ length bytes → get_or bytes 0 0 ∷ get_or bytes 1 0 ∷ [] ≡ take 2 bytes
two_cells [] long = absurd (omega arith)
two_cells (a ∷ []) long = absurd (omega arith)
two_cells (a ∷ b ∷ bytes) long = refl

pub width_read : (image : List ℕ) → IsSegment image → from_le_bytes w16 (get_or image 9 0 ∷ get_or image 10 0 ∷ []) ≡ from_le_bytes w16 (take 2 (drop 9 image))
width_read image is =
    let enough : 2 ≤ length (drop 9 image) = let l = length-drop 9 image in let long = is.long in omega arith in
    ap (λ n. from_le_bytes w16 (n ∷ get_or image 10 0 ∷ [])) (sym (get_or-drop 9 image 0 0))
    ∙ ap (λ n. from_le_bytes w16 (get_or (drop 9 image) 0 0 ∷ n ∷ [])) (sym (get_or-drop 9 image 1 0))
    ∙ ap (from_le_bytes w16) (two_cells (drop 9 image) enough)

-- ---- bytes that follow

-- the fault of a header is told by its bytes alone
pub header_fault-append : (width : ℕ) (image more : List ℕ) → 11 ≤ length image → header_fault width (image ++ more) ≡ header_fault width image
unfolding header_lines
header_fault-append width image more long =
    let len = length-append image more in
    let short : nat_le (length (image ++ more)) 1 ≡ nat_le (length image) 1 = lt-leb (length (image ++ more)) 1 (omega arith) ∙ sym (lt-leb (length image) 1 (omega arith)) in
    let gate : slice_index (image ++ more) 0 ≡ slice_index image 0 = get_or_append_left image more 0 0 (omega arith) in
    let cut : nat_lt (length (image ++ more)) 11 ≡ nat_lt (length image) 11 = le-ltb (length (image ++ more)) 11 (omega arith) ∙ sym (le-ltb (length image) 11 long) in
    let magic : starts_with nat_eq (drop 1 (image ++ more)) (codes "CVECSEG")
    ≡ starts_with nat_eq (drop 1 image) (codes "CVECSEG")
    = starts_append (codes "CVECSEG") (drop 1 image) more (let l = length-drop 1 image in omega arith) (drop-append-le 1 image more (omega arith)) in
    let version : slice_index (image ++ more) 8 ≡ slice_index image 8 = get_or_append_left image more 0 8 (omega arith) in
    let wide : from_le_bytes w16 (take 2 (drop 9 (image ++ more))) ≡ from_le_bytes w16 (take 2 (drop 9 image))
    = ap (λ (bs : List ℕ). from_le_bytes w16 (take 2 bs)) (drop-append-le 9 image more (omega arith))
    ∙ ap (from_le_bytes w16) (take-append-le 2 (drop 9 image) more (let l = length-drop 9 image in omega arith)) in
    rw (short, gate, cut, magic, version, wide) refl

pub format_in-append : (image more : List ℕ) → 9 ≤ length image → format_in (image ++ more) ≡ format_in image
format_in-append image more long = ap (λ n. cond (n == 1) One Two) (get_or_append_left image more 0 8 (omega arith))

-- ---- another width

-- a header that is sound for one width is at fault for any other
pub other_width : (width found : ℕ) (image : List ℕ)
    → header_fault found image ≡ None → (found ≡ width → ⊥)
    → header_fault width image ≡ Some (Width found)
other_width width found image none other =
    let has = header_of_none found image none in
    let long = has.long in
    let segment : IsSegment image =
    record { born = record { some = omega arith; opened = has.opened }; long = has.long; magic = has.magic } in
    let known = ap is_version has.version ∙ is_version-version_of (format_in image) in
    finds_width width found image segment known (sym has.wide) other
