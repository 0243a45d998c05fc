-- The bytes of record i stand at i times the width, in what is written and in what is read.
use Rattle.std.proofs.Common.{◌≡◌, ℕ, zero, suc, subst, ◌-◌, ◌+◌, ◌*◌, ◌≤◌, ◌<◌, List, [], ◌∷◌, ◌++◌, length, take, drop, get_or, Some, refl, sym, ap, ◌∙◌, arith, inl, inr}
use Rattle.std.specs.Prelude.{slice_get, slice_set, IsSome}
use Rattle.std.specs.List.{flat_map}
use Rattle.std.proofs.lemmas.Bool.{cases_lt}
use Rattle.std.proofs.lemmas.List.{take_at, drop_at, drop-drop, take_more, length-append, length_push, flat_map_more}
use Rattle.std.proofs.lemmas.Nat.{mul-le}
use Rattle.std.proofs.lemmas.Slice.{take-put_mid}
use borrow.Rule.Slice.PartMut.{put_mid}
use Rattle.record_core.specs.Bytes.{Encoding}
use Rattle.record_core.specs.Cells.{cell, AreRecords, AreReadAgain, HasRead}

-- ---- cells

pub cell_first : (width : ℕ) (first rest : List ℕ) → length first ≡ width → cell width (first ++ rest) 0 ≡ first
cell_first width first rest len =
    let none : 0 * width ≡ 0 = omega arith in
    ap (λ n. take width (drop n (first ++ rest))) none ∙ take_at first rest width len

pub cell_next : (width : ℕ) (first rest : List ℕ) (i : ℕ) → length first ≡ width → cell width (first ++ rest) (suc i) ≡ cell width rest i
cell_next width first rest i len =
    let more : suc i * width ≡ width + i * width = omega arith in
    ap (λ n. take width (drop n (first ++ rest))) more
    ∙ ap (take width) (sym (drop-drop (i * width) width (first ++ rest)) ∙ ap (drop (i * width)) (drop_at first rest width len))

-- the cell as the code cuts it out
pub cell_is : (width w : ℕ) (bytes : List ℕ) (i : ℕ) → w ≡ width → cell width bytes i ≡ take (i * w + w - i * w) (drop (i * w) bytes)
cell_is width w bytes i is =
    let part : width ≡ i * w + w - i * w = omega arith in
    ap (λ n. take n (drop (i * width) bytes)) part ∙ ap (λ n. take (i * w + w - i * w) (drop (i * n) bytes)) (sym is)

-- ---- elements of a list

-- the only byte is written over
pub set_alone : (bytes : List ℕ) (b : ℕ) → length bytes ≡ 1 → slice_set bytes 0 b ≡ b ∷ []
set_alone [] b len = absurd (omega arith)
set_alone (a ∷ []) b len = refl
set_alone (a ∷ c ∷ bytes) b len = absurd (omega arith)

pub slice_get-append_left : {X : Type 0} (xs ys : List X) (i : ℕ) → i < length xs → slice_get (xs ++ ys) i ≡ slice_get xs i
slice_get-append_left [] ys i lt = absurd (omega arith)
slice_get-append_left (x ∷ xs) ys zero lt = refl
slice_get-append_left (x ∷ xs) ys (suc i) lt = slice_get-append_left xs ys i (omega arith)

pub slice_get_push : {X : Type 0} (xs : List X) (x : X) → slice_get (xs ++ x ∷ []) (length xs) ≡ Some x
slice_get_push [] x = refl
slice_get_push (y ∷ xs) x = slice_get_push xs x

-- ---- what is written

AreReadAgain_push : {R : Type 0} (form : Encoding R) (rs : List R) (r : R) → AreReadAgain form rs
    → form.value_of (form.bytes_of r) ≡ Some r → AreReadAgain form (rs ++ r ∷ [])
AreReadAgain_push form [] r each one = (one, tt)
AreReadAgain_push form (s ∷ rs) r each one = (each.0, AreReadAgain_push form rs r each.1 one)

pub length-flat_map_bytes : {R : Type 0} (form : Encoding R) (rs : List R) → ((r : R) → length (form.bytes_of r) ≡ form.width)
    → length (flat_map form.bytes_of rs) ≡ length rs * form.width
length-flat_map_bytes form [] wide = omega arith
length-flat_map_bytes form (r ∷ rs) wide =
    let more = length-flat_map_bytes form rs wide in
    let one = wide r in
    length-append (form.bytes_of r) (flat_map form.bytes_of rs) ∙ omega arith

cells_read : {R : Type 0} (form : Encoding R) (rs : List R) → ((r : R) → length (form.bytes_of r) ≡ form.width) → AreReadAgain form rs
    → (i : ℕ) → i < length rs → form.value_of (cell form.width (flat_map form.bytes_of rs) i) ≡ slice_get rs i
cells_read form [] wide each i lt = absurd (omega arith)
cells_read form (r ∷ rs) wide each zero lt =
    ap form.value_of (cell_first form.width (form.bytes_of r) (flat_map form.bytes_of rs) (wide r)) ∙ each.0
cells_read form (r ∷ rs) wide each (suc i) lt =
    ap form.value_of (cell_next form.width (form.bytes_of r) (flat_map form.bytes_of rs) i (wide r))
    ∙ cells_read form rs wide each.1 i (omega arith)

pub AreRecords_written : {R : Type 0} (form : Encoding R) (rs : List R) → ((r : R) → length (form.bytes_of r) ≡ form.width) → AreReadAgain form rs
    → AreRecords form (flat_map form.bytes_of rs) rs
AreRecords_written form rs wide each = record {
  filled = length-flat_map_bytes form rs wide;
  each = cells_read form rs wide each;
}

-- ---- what is read

pub HasRead_more : {R : Type 0} (form : Encoding R) (bytes : List ℕ) (count : ℕ) (records : List R) (r : R) → HasRead form bytes count records
    → form.value_of (cell form.width bytes count) ≡ Some r → HasRead form bytes (count + 1) (records ++ r ∷ [])
HasRead_more form bytes count records r read one = record {
  so_far = length_push records r ∙ ap (λ n. n + 1) read.so_far;
  each = λ i lt. elim (cases_lt i count) [
    | inl below ↦ read.each i below ∙ sym (slice_get-append_left records (r ∷ []) i (omega (arith, read.so_far)))
    | inr past ↦ (
        let here : i ≡ length records = omega (arith, read.so_far) in
        let at : i ≡ count = omega arith in
        ap (λ n. form.value_of (cell form.width bytes n)) at ∙ one ∙ sym (ap (slice_get (records ++ r ∷ [])) here ∙ slice_get_push records r))
  ];
}

pub HasRead_all : {R : Type 0} (form : Encoding R) (bytes : List ℕ) (count : ℕ) (records : List R) → HasRead form bytes count records
    → HasRead form bytes (length records) records
HasRead_all form bytes count records read = record { so_far = refl; each = λ i lt. read.each i (omega (arith, read.so_far)) }

-- one more record's bytes behind those of the records before it
pub written_more : {R : Type 0} (form : Encoding R) (records : List R) (out new : List ℕ) (i at end : ℕ) (r : R)
    → i < length records → r ≡ get_or records i r
    → length out ≡ length records * form.width → at ≡ i * form.width → end ≡ at + form.width
    → new ≡ form.bytes_of r → length new ≡ form.width
    → take (i * form.width) out ≡ flat_map form.bytes_of (take i records)
    → take ((i + 1) * form.width) (put_mid at (end - at) out new) ≡ flat_map form.bytes_of (take (i + 1) records)
written_more form records out new i at end r lt is filled begins ends put wide so_far =
    let rows : i * form.width ≤ length records * form.width = mul-le i form.width (length records) form.width (omega arith) (omega arith) in
    let inside : at ≤ length out = omega arith in
    let upto : (i + 1) * form.width ≡ at + length new = omega arith in
    let front : take at out ≡ flat_map form.bytes_of (take i records) = rw begins so_far in
    take-put_mid at (end - at) out new ((i + 1) * form.width) upto inside
    ∙ ap (λ (bs : List ℕ). bs ++ new) front
    ∙ ap (λ (bs : List ℕ). flat_map form.bytes_of (take i records) ++ bs) put
    ∙ flat_map_more form.bytes_of [] (take i records) r
    ∙ ap (flat_map form.bytes_of) (ap (λ x. take i records ++ x ∷ []) is ∙ sym (take_more records i r lt))

pub AreReadAgain_more : {R : Type 0} (form : Encoding R) (records : List R) (i : ℕ) (r : R) → i < length records → r ≡ get_or records i r
    → AreReadAgain form (take i records) → form.value_of (form.bytes_of r) ≡ Some r → AreReadAgain form (take (i + 1) records)
AreReadAgain_more {R} form records i r lt is each one =
    subst (λ (rs : List R). AreReadAgain form rs) (ap (λ x. take i records ++ x ∷ []) is ∙ sym (take_more records i r lt))
    (AreReadAgain_push form (take i records) r each one)

pub AreRecords_read : {R : Type 0} (form : Encoding R) (bytes : List ℕ) (count i : ℕ) (records : List R)
    → length bytes ≡ count * form.width → i ≡ count → HasRead form bytes i records → AreRecords form bytes records
AreRecords_read form bytes count i records filled all read = record {
  filled = filled ∙ ap (λ n. n * form.width) (sym all ∙ sym read.so_far);
  each = λ k lt. read.each k (omega (arith, read.so_far));
}

-- ---- what was read stands

IsSome_within : {X : Type 0} (xs : List X) (i : ℕ) → i < length xs → IsSome (slice_get xs i)
IsSome_within [] i lt = absurd (omega arith)
IsSome_within (x ∷ xs) zero lt = refl
IsSome_within (x ∷ xs) (suc i) lt = IsSome_within xs i (omega arith)

pub HasRead_some : {R : Type 0} (form : Encoding R) (bytes : List ℕ) (i : ℕ) (rs : List R) → HasRead form bytes i rs
    → (k : ℕ) → k < i → IsSome (form.value_of (cell form.width bytes k))
HasRead_some form bytes i rs read k lt = rw (read.each k lt) (IsSome_within rs k (omega (arith, read.so_far)))
