-- Edits that are noted one behind the other.
use Rattle.std.proofs.Common.{◌≡◌, ℕ, zero, suc, ◌+◌, ◌-◌, ◌*◌, ◌<◌, List, [], ◌∷◌, ◌++◌, length, take, drop, get_or, set, Some, refl, sym, ap, subst, ◌∙◌, arith, append_assoc, length-append}
use Rattle.std.specs.List.{AllByRecursion}
use Rattle.std.proofs.lemmas.List.{append-nil, take-append-drop, length-take-le, length-drop, drop-drop}
use Rattle.std.proofs.Math.Seq.{drop-cons, set-append_seam}
use Rattle.record_core.specs.Bytes.{Encoding}
use Rattle.record_core.specs.Cells.{cell}
use Rattle.record_core.proofs.Lists.{AllByRecursion-append}
use Rattle.segment_core.specs.Raw.{cells_in}
use Rattle.segment_core.proofs.Raw.{length-cells_in}
use Rattle.beside_core.specs.declared.news.Edit.{Edit}
use Rattle.beside_core.specs.declared.news.Edit.TheVariants.{Set, Cut}
use Rattle.beside_core.specs.Edit.{IsEdited, AreNoted}
use Rattle.beside_core.specs.Tail.{IsSetIn, NotesRun}

-- ---- one edit more

pub edited_set : {R : Type 0} (form : Encoding R) (edits : List (Edit R)) (known front : List (List ℕ)) (i : ℕ) (r : R) (bytes : List ℕ) → IsEdited form edits known front → i < length front
    → form.value_of bytes ≡ Some r → IsEdited form (edits ++ Set i r ∷ []) known (set front i bytes)
edited_set form [] known front i r bytes is lt reads = (subst (λ (cells : List (List ℕ)). i < length cells) (sym is) lt, bytes, reads, ap (λ (cells : List (List ℕ)). set cells i bytes) is)
edited_set form (Set j s ∷ edits) known front i r bytes is lt reads = (is.0, is.1, is.2, edited_set form edits (set known j is.1) front i r bytes is.3 lt reads)
edited_set form (Cut n ∷ edits) known front i r bytes is lt reads = (is.0, edited_set form edits (take n known) front i r bytes is.1 lt reads)

pub edited_cut : {R : Type 0} (form : Encoding R) (edits : List (Edit R)) (known front : List (List ℕ)) (n : ℕ) → IsEdited form edits known front → n < length front
    → IsEdited form (edits ++ Cut n ∷ []) known (take n front)
edited_cut form [] known front n is lt = (subst (λ (cells : List (List ℕ)). n < length cells) (sym is) lt, ap (take n) is)
edited_cut form (Set j s ∷ edits) known front n is lt = (is.0, is.1, is.2, edited_cut form edits (set known j is.1) front n is.3 lt)
edited_cut form (Cut m ∷ edits) known front n is lt = (is.0, edited_cut form edits (take m known) front n is.1 lt)

-- ---- what is noted of each

weaker : {X : Type 0} (P Q : X → Type 0) (xs : List X) → ((x : X) → P x → Q x) → AllByRecursion P xs → AllByRecursion Q xs
weaker P Q [] more all = tt
weaker P Q (x ∷ xs) more all = (more x all.0, weaker P Q xs more all.1)

pub noted_weaker : {R : Type 0} (P Q : Edit R → Type 0) (old new : List (Edit R)) → ((edit : Edit R) → P edit → Q edit) → AreNoted P old new → AreNoted Q old new
noted_weaker P Q old new more noted = (noted.0, noted.1, weaker P Q noted.0 more noted.2)

pub noted_none : {R : Type 0} (P : Edit R → Type 0) (old : List (Edit R)) → AreNoted P old old
noted_none P old = ([], sym (append-nil old), tt)

pub noted_one : {R : Type 0} (P : Edit R → Type 0) (old : List (Edit R)) (edit : Edit R) → P edit → AreNoted P old (old ++ edit ∷ [])
noted_one P old edit has = (edit ∷ [], refl, (has, tt))

pub noted_more : {R : Type 0} (P : Edit R → Type 0) (old mid new : List (Edit R)) → AreNoted P old mid → AreNoted P mid new → AreNoted P old new
noted_more {R} P old mid new a b = (
  a.0 ++ b.0,
  b.1 ∙ ap (λ (edits : List (Edit R)). edits ++ b.0) a.1 ∙ append_assoc old a.0 b.0,
  AllByRecursion-append P a.0 b.0 a.2 b.2,
)

-- ---- a run of records

-- one cell more
pub cells_in-push : (width k : ℕ) (bytes : List ℕ) → cells_in width (k + 1) bytes ≡ cells_in width k bytes ++ cell width bytes k ∷ []
cells_in-push width zero bytes = let none : 0 ≡ 0 * width = omega arith in ap (λ n. take width (drop n bytes) ∷ []) none
cells_in-push width (suc k) bytes =
    let more : suc k + 1 ≡ suc (k + 1) = omega arith in
    let at : width + k * width ≡ suc k * width = omega arith in
    ap (λ n. cells_in width n bytes) more
    ∙ ap (λ (cells : List (List ℕ)). take width bytes ∷ cells) (cells_in-push width k (drop width bytes))
    ∙ ap (λ (bs : List ℕ). take width bytes ∷ (cells_in width k (drop width bytes) ++ take width bs ∷ [])) (drop-drop (k * width) width bytes ∙ ap (λ n. drop n bytes) at)

pub slice_is_cell : (width w k : ℕ) (bytes : List ℕ) → w ≡ width → take (k * w + w - k * w) (drop (k * w) bytes) ≡ cell width bytes k
slice_is_cell width w k bytes is = let long : k * w + w - k * w ≡ w = omega arith in ap (λ n. take n (drop (k * w) bytes)) long ∙ ap (λ n. cell n bytes k) is

-- and it stands behind those that were put
put_next : {X : Type 0} (front done : List X) (start k : ℕ) (x : X) → length done ≡ k → start + k < length front
    → set (take start front ++ done ++ drop (start + k) front) (start + k) x ≡ take start front ++ (done ++ x ∷ []) ++ drop (start + (k + 1)) front
put_next {X} front done start k x long lt =
    let before : List X = take start front ++ done in
    let first : X = get_or front (start + k) x in
    let rest : drop (start + k) front ≡ first ∷ drop (suc (start + k)) front = drop-cons front (start + k) x lt in
    let next : suc (start + k) ≡ start + (k + 1) = omega arith in
    let at : start + k ≡ length (take start front ++ done) = omega (arith, length-append (take start front) done, length-take-le start front (omega (arith, lt)), long) in
    ap (λ (xs : List X). set (before ++ xs) (start + k) x) rest
    ∙ ap (λ n. set (before ++ first ∷ drop (suc (start + k)) front) n x) at
    ∙ set-append_seam before first (drop (suc (start + k)) front) x
    ∙ ap (λ n. before ++ x ∷ drop n front) next
    ∙ sym (append_assoc before (x ∷ []) (drop (start + (k + 1)) front))
    ∙ ap (λ (xs : List X). xs ++ drop (start + (k + 1)) front) (append_assoc (take start front) done (x ∷ []))

pub notes_none : {R : Type 0} (form : Encoding R) (start : ℕ) (bytes : List ℕ) (old : List (Edit R)) → NotesRun form start 0 bytes old old
notes_none form start bytes old = record {
  noted = noted_none (IsSetIn start 0) old;
  is = λ known front edited within. (
      let at : start + 0 ≡ start = omega arith in
      subst (λ cells. IsEdited form old known cells) (sym (ap (λ (cells : List (List ℕ)). cells ++ drop (start + 0) front) (append-nil (take start front))
      ∙ ap (λ n. take start front ++ drop n front) at ∙ take-append-drop start front)) edited);
}

pub notes_more : {R : Type 0} (form : Encoding R) (start k : ℕ) (bytes : List ℕ) (old mid new : List (Edit R)) (r : R) → NotesRun form start k bytes old mid
    → form.value_of (cell form.width bytes k) ≡ Some r → new ≡ mid ++ Set (start + k) r ∷ [] → NotesRun form start (k + 1) bytes old new
notes_more {R} form start k bytes old mid new r notes reads is = subst (λ edits. NotesRun form start (k + 1) bytes old edits) (sym is) (record {
  noted = noted_more (IsSetIn start (k + 1)) old mid (mid ++ Set (start + k) r ∷ [])
      (noted_weaker (IsSetIn start k) (IsSetIn start (k + 1)) old mid (λ edit has. (has.0, omega (arith, has.1), has.2)) notes.noted)
      (noted_one (IsSetIn start (k + 1)) mid (Set (start + k) r) (k, omega arith, refl));
  is = λ known front edited within. (
      let lt : start + k < length front = within k (omega arith) in
      let done : List (List ℕ) = cells_in form.width k bytes in
      let so_far : List (List ℕ) = take start front ++ done ++ drop (start + k) front in
      let long : length (take start front ++ done ++ drop (start + k) front) ≡ length front = omega (
        arith,
        length-append (take start front ++ done) (drop (start + k) front),
        length-append (take start front) done,
        length-take-le start front (omega (arith, lt)),
        length-cells_in form.width k bytes,
        length-drop (start + k) front,
        lt,
      ) in
      let one = edited_set form mid known so_far (start + k) r (cell form.width bytes k) (notes.is known front edited (λ j less. within j (omega (arith, less)))) (omega (arith, long, lt)) reads in
      subst (λ cells. IsEdited form (mid ++ Set (start + k) r ∷ []) known cells) (put_next front done start k (cell form.width bytes k) (length-cells_in form.width k bytes) lt
      ∙ ap (λ (cells : List (List ℕ)). take start front ++ cells ++ drop (start + (k + 1)) front) (sym (cells_in-push form.width k bytes))) one);
})
