-- A run of records that is replaced: those before the tail by edits, the others in its bytes.
use Rattle.std.proofs.Common.{◌≡◌, ◌⊎◌, ℕ, ◌+◌, ◌-◌, ◌*◌, ◌<◌, ◌≤◌, List, [], ◌++◌, length, take, drop, min, sym, ap, subst, ◌∙◌, arith, append_assoc, length-append, inl, inr}
use Rattle.std.proofs.lemmas.List.{append-nil, nil_from_length, take-append-le, drop-append-le, take-append-drop, take_all, drop_all, drop-take, take-take, length-take-le, length-drop}
use Rattle.std.proofs.lemmas.Nat.{mul-le}
use Rattle.std.proofs.lemmas.Bool.{cases_lt}
use Rattle.std.proofs.Math.Nat.{add-mul, min-le_left, min-le_right, min-eq_left, min-eq_right}
use Rattle.std.proofs.Math.Seq.{drop-append-add}
use Rattle.record_core.specs.Bytes.{Encoding}
use Rattle.record_core.specs.Cells.{cell}
use Rattle.segment_core.specs.Raw.{cells_in}
use Rattle.segment_core.proofs.Raw.{length-cells_in}
use Rattle.beside_core.specs.declared.laying.Laid.{Laid}
use Rattle.beside_core.specs.declared.fault.LookFault.{LookFault}
use Rattle.beside_core.specs.declared.fault.LookFault.TheVariants.{Disk, Scan, NoRecord, TooFar, Memory}
use Rattle.beside_core.specs.declared.since.Loss.TheVariants.{Changed}
use Rattle.beside_core.specs.Edit.{loss_of}
use Rattle.beside_core.specs.Tail.{FillsTail, IsDecodeFault, IsSetIn, NotesRun, ReplacesRun}
use Rattle.beside_core.proofs.Tails.{cells_in-split, cells_in-spliced, spliced_behind}
use Rattle.beside_core.proofs.Noting.{noted_weaker}

-- ---- lists

module _ {X : Type 0} (front rest : List X) where
  -- inside the first part
  run_before : (a : List X) (start : ℕ) → start + length a ≤ length front
      → take start (front ++ rest) ++ a ++ drop (start + length a) (front ++ rest) ≡ (take start front ++ a ++ drop (start + length a) front) ++ rest
  run_before a start le =
      ap (λ (xs : List X). xs ++ a ++ drop (start + length a) (front ++ rest)) (take-append-le start front rest (omega (arith, le)))
      ∙ ap (λ (xs : List X). take start front ++ a ++ xs) (drop-append-le (start + length a) front rest le)
      ∙ sym (append_assoc (take start front ++ a) (drop (start + length a) front) rest)

  -- across the seam
  run_across : (a b : List X) (start : ℕ) → start + length a ≡ length front
      → take start (front ++ rest) ++ (a ++ b) ++ drop (length front + length b) (front ++ rest) ≡ (take start front ++ a ++ drop (start + length a) front) ++ (b ++ drop (length b) rest)
  run_across a b start is =
      ap (λ (xs : List X). xs ++ (a ++ b) ++ drop (length front + length b) (front ++ rest)) (take-append-le start front rest (omega (arith, is)))
      ∙ ap (λ (xs : List X). take start front ++ (a ++ b) ++ xs) (drop-append-add front rest (length b))
      ∙ ap (λ (xs : List X). xs ++ drop (length b) rest) (sym (append_assoc (take start front) a b))
      ∙ append_assoc (take start front ++ a) b (drop (length b) rest)
      ∙ ap (λ (xs : List X). xs ++ (b ++ drop (length b) rest)) (sym (append-nil (take start front ++ a)) ∙ ap (λ (xs : List X). take start front ++ a ++ xs)
      (sym (drop_all (start + length a) front (omega (arith, is)))))

  -- behind it
  run_behind : (b : List X) (s : ℕ) → take (length front + s) (front ++ rest) ++ b ++ drop (length front + s + length b) (front ++ rest) ≡ front ++ (take s rest ++ b ++ drop (s + length b) rest)
  run_behind b s = spliced_behind front rest b s (length b)

  -- wherever it stands, it is that of the first part and that of the other
  run_parts : (a b : List X) (start s : ℕ) → s ≡ start - length front → length a ≤ length front - start → (length b ≡ 0) ⊎ (length a ≡ length front - start)
      → take start (front ++ rest) ++ (a ++ b) ++ drop (start + (length a + length b)) (front ++ rest)
      ≡ (take start front ++ a ++ drop (start + length a) front) ++ (take s rest ++ b ++ drop (s + length b) rest)
  run_parts a b start s s_is few which = elim (cases_lt start (length front)) [
    | inl lt ↦ (
        let none : s ≡ 0 = omega (arith, s_is, lt) in
        let over : 0 + length b ≡ length b = omega arith in
        let rest_is : take s rest ++ b ++ drop (s + length b) rest ≡ b ++ drop (length b) rest = ap (λ n. take n rest ++ b ++ drop (n + length b) rest) none
        ∙ ap (λ n. b ++ drop n rest) over in
        let front_is : List X = take start front ++ a ++ drop (start + length a) front in
        elim which [
          | inl no_more ↦ (
              let nothing : b ≡ [] = nil_from_length b no_more in
              let count : start + (length a + length b) ≡ start + length a = omega (arith, no_more) in
              ap (λ (xs : List X). take start (front ++ rest) ++ (a ++ xs) ++ drop (start + (length a + length b)) (front ++ rest)) nothing
              ∙ ap (λ (xs : List X). take start (front ++ rest) ++ xs ++ drop (start + (length a + length b)) (front ++ rest)) (append-nil a)
              ∙ ap (λ n. take start (front ++ rest) ++ a ++ drop n (front ++ rest)) count
              ∙ run_before a start (omega (arith, few, lt))
              ∙ ap (λ (xs : List X). front_is ++ xs) (sym (rest_is ∙ ap (λ (xs : List X). xs ++ drop (length xs) rest) nothing)))
          | inr all ↦ (
              let count : start + (length a + length b) ≡ length front + length b = omega (arith, all, lt) in
              ap (λ n. take start (front ++ rest) ++ (a ++ b) ++ drop n (front ++ rest)) count
              ∙ run_across a b start (omega (arith, all, lt))
              ∙ ap (λ (xs : List X). front_is ++ xs) (sym rest_is))
        ])
    | inr ge ↦ (
        let nothing : a ≡ [] = nil_from_length a (omega (arith, few, ge)) in
        let at : start ≡ length front + s = omega (arith, s_is, ge) in
        let count : start + (length a + length b) ≡ length front + s + length b = omega (arith, at, ap length nothing) in
        let whole : take start front ++ a ++ drop (start + length a) front ≡ front
        = ap (λ (xs : List X). take start front ++ xs ++ drop (start + length xs) front) nothing
        ∙ ap (λ (xs : List X). xs ++ drop (start + 0) front) (append-nil (take start front))
        ∙ (let same : start + 0 ≡ start = omega arith in ap (λ n. take start front ++ drop n front) same) ∙ take-append-drop start front in
        ap (λ (xs : List X). take start (front ++ rest) ++ (xs ++ b) ++ drop (start + (length a + length b)) (front ++ rest)) nothing
        ∙ ap (λ n. take start (front ++ rest) ++ b ++ drop n (front ++ rest)) count
        ∙ ap (λ n. take n (front ++ rest) ++ b ++ drop (length front + s + length b) (front ++ rest)) at
        ∙ run_behind b s
        ∙ ap (λ (xs : List X). xs ++ (take s rest ++ b ++ drop (s + length b) rest)) (sym whole))
  ]

-- ---- cells

-- those of the first bytes
pub cell-take : (width below k : ℕ) (bytes : List ℕ) → k < below → cell width (take (below * width) bytes) k ≡ cell width bytes k
cell-take width below k bytes lt =
    let more : ℕ = (below - k) * width in
    let parts : below * width ≡ k * width + (below - k) * width = (let all : below ≡ k + (below - k) = omega (arith, lt) in ap (λ n. n * width) all ∙ add-mul k (below - k) width) in
    let one : width ≤ (below - k) * width = (let le = mul-le 1 width (below - k) width (omega (arith, lt)) (omega arith) in omega (arith, le)) in
    ap (λ n. take width (drop (k * width) (take n bytes))) parts
    ∙ ap (take width) (drop-take (k * width) more bytes)
    ∙ take-take width more (drop (k * width) bytes) one

pub fault_in_run : {R : Type 0} (form : Encoding R) (start below w count : ℕ) (bytes : List ℕ) (fault : LookFault) → w ≡ form.width → below ≤ count
    → IsDecodeFault form start (take (below * w) bytes) below fault
    → IsDecodeFault form start bytes count fault
fault_in_run form start below w count bytes (Disk fault) wide le is = is
fault_in_run form start below w count bytes (Scan fault) wide le is = is
fault_in_run form start below w count bytes (NoRecord i) wide le is =
    (is.0, is.1, omega (arith, is.2, le), ap form.value_of (sym (ap (λ n. cell form.width (take (below * n) bytes) is.0) wide ∙ cell-take form.width below is.0 bytes is.2)) ∙ is.3)
fault_in_run form start below w count bytes TooFar wide le is = is
fault_in_run form start below w count bytes Memory wide le is = is

module _ {R : Type 0} (form : Encoding R) (start count below w size : ℕ) (bytes : List ℕ) (old : Laid R) (wide : w ≡ form.width) (below_is : below ≡ min count (old.base
    - start)) (inside : start + count ≤ size) (is_tail : FillsTail form.width old.base size old.tail.items) (filled : length bytes ≡ count * form.width) where
  le_count : below ≤ count
  le_count = let le = min-le_left count (old.base - start) in omega (arith, below_is, le)

  le_room : below ≤ old.base - start
  le_room = let le = min-le_right count (old.base - start) in omega (arith, below_is, le)

  which : (count - below ≡ 0) ⊎ (below ≡ old.base - start)
  which = elim (cases_lt (old.base - start) count) [
    | inl lt ↦ inr (below_is ∙ min-eq_right (omega (arith, lt)))
    | inr ge ↦ inl (let all = below_is ∙ min-eq_left ge in omega (arith, all))
  ]

  fits : start - old.base + (count - below) ≤ size - old.base
  fits = elim which [ inl none ↦ omega (arith, none, inside, is_tail.behind) | inr room ↦ omega (arith, room, inside, le_count) ]

  over : (count - below) * form.width + below * form.width ≡ count * form.width
  over = let all : count - below + below ≡ count = omega (arith, le_count) in sym (add-mul (count - below) below form.width) ∙ ap (λ n. n * form.width) all

  pub part_inside : below * w ≤ length bytes
  part_inside = let at = ap (λ n. below * n) wide in omega (arith, at, over, filled)

  pub lies_inside : (start - old.base) * w + (length bytes - below * w) ≤ length old.tail.items
  lies_inside =
      let le = mul-le (start - old.base + (count - below)) form.width (size - old.base) form.width fits (omega arith) in
      let at = ap (λ n. (start - old.base) * n) wide in
      let cut = ap (λ n. below * n) wide in
      omega (arith, le, is_tail.filled, over, filled, at, cut, add-mul (start - old.base) (count - below) form.width)

  module _ (new : Laid R) (base_is : new.base ≡ old.base) (notes : NotesRun form start below (take (below * w) bytes) old.edits.items new.edits.items)
      (tail_is : new.tail.items ≡ take ((start - old.base) * w) old.tail.items ++ drop (below * w) bytes ++ drop ((start - old.base) * w + (length bytes - below * w)) old.tail.items) where
    abbrev a : List (List ℕ)
    a = cells_in form.width below (take (below * form.width) bytes)

    abbrev b : List (List ℕ)
    b = cells_in form.width (count - below) (drop (below * form.width) bytes)

    part_long : length (drop (below * form.width) bytes) ≡ (count - below) * form.width
    part_long = omega (arith, length-drop (below * form.width) bytes, filled, over)

    tail_at : new.tail.items ≡ take ((start - old.base) * form.width) old.tail.items ++ drop (below * form.width) bytes
        ++ drop ((start - old.base + (count - below)) * form.width) old.tail.items
    tail_at =
        let to : (start - old.base) * form.width + (length bytes - below * form.width) ≡ (start - old.base + (count - below)) * form.width
        = omega (arith, filled, over, add-mul (start - old.base) (count - below) form.width) in
        tail_is ∙ ap (λ n. take ((start - old.base) * n) old.tail.items ++ drop (below * n) bytes ++ drop ((start - old.base) * n + (length bytes - below * n)) old.tail.items) wide
        ∙ ap (λ n. take ((start - old.base) * form.width) old.tail.items ++ drop (below * form.width) bytes ++ drop n old.tail.items) to

    tail_long : length new.tail.items ≡ length old.tail.items
    tail_long =
        let le = mul-le (start - old.base + (count - below)) form.width (size - old.base) form.width fits (omega arith) in
        let first : List ℕ = take ((start - old.base) * form.width) old.tail.items in
        omega (
          arith,
          ap length tail_at,
          length-append (first ++ drop (below * form.width) bytes) (drop ((start - old.base + (count - below)) * form.width) old.tail.items),
          length-append first (drop (below * form.width) bytes),
          length-take-le ((start - old.base) * form.width) old.tail.items (omega (arith, le, is_tail.filled, add-mul (start - old.base) (count - below) form.width)),
          length-drop ((start - old.base + (count - below)) * form.width) old.tail.items,
          part_long,
          le,
          is_tail.filled,
          add-mul (start - old.base) (count - below) form.width,
        )

    pub replaces_run : ReplacesRun form start count bytes size old new
    replaces_run = record {
      base_is = base_is;
      long = tail_long;
      noted = noted_weaker (IsSetIn start below) (λ edit. (k : ℕ) × (k < count) × (start + k < old.base) × (loss_of edit ≡ Changed (start + k))) old.edits.items new.edits.items
          (λ edit has. (has.0, omega (arith, has.1, le_count), omega (arith, has.1, le_room), has.2)) notes.noted;
      is = λ known cells stands.
          let front : List (List ℕ) = stands.front in
          let rest : List (List ℕ) = cells_in form.width (size - old.base) old.tail.items in
          let a_long : length a ≡ below = length-cells_in form.width below (take (below * form.width) bytes) in
          let b_long : length b ≡ count - below = length-cells_in form.width (count - below) (drop (below * form.width) bytes) in
          let notes' = subst (λ n. NotesRun form start below (take (below * n) bytes) old.edits.items new.edits.items) wide notes in
          let run : cells_in form.width count bytes ≡ a ++ b = cells_in-split form.width count below bytes le_count filled in
          let all : length a + length b ≡ count = omega (arith, a_long, b_long, le_count) in
          let s_is : start - old.base ≡ start - length front = omega (arith, stands.long) in
          let parts = run_parts front rest a b start (start - old.base) s_is (omega (arith, a_long, le_room, stands.long)) (elim which [
            | inl none ↦ inl (omega (arith, b_long, none))
            | inr room ↦ inr (omega (arith, a_long, room, stands.long))
          ]) in
          let laid : take (start - old.base) rest ++ b ++ drop (start - old.base + length b) rest ≡ cells_in form.width (size - new.base) new.tail.items
          = ap (λ n. take (start - old.base) rest ++ b ++ drop (start - old.base + n) rest) b_long
          ∙ sym (cells_in-spliced form.width (size - old.base) (start - old.base) (count - below) old.tail.items (drop (below * form.width) bytes) fits is_tail.filled part_long)
          ∙ ap (λ (bs : List ℕ). cells_in form.width (size - old.base) bs) (sym tail_at) ∙ ap (λ n. cells_in form.width (size - n) new.tail.items) (sym base_is) in
          record {
            front = take start front ++ a ++ drop (start + below) front;
            edited = notes'.is known front stands.edited (λ k lt. omega (arith, lt, le_room, stands.long));
            long = put_long front start below (omega (arith, le_room, stands.long)) ∙ stands.long ∙ sym base_is;
            is = ap (λ (xs : List (List ℕ)). take start xs ++ cells_in form.width count bytes ++ drop (start + count) xs) stands.is
                ∙ ap (λ (xs : List (List ℕ)). take start (front ++ rest) ++ xs ++ drop (start + count) (front ++ rest)) run
                ∙ ap (λ n. take start (front ++ rest) ++ (a ++ b) ++ drop (start + n) (front ++ rest)) (sym all)
                ∙ parts
                ∙ ap (λ n. (take start front ++ a ++ drop (start + n) front) ++ (take (start - old.base) rest ++ b ++ drop (start - old.base + length b) rest)) a_long
                ∙ ap (λ (xs : List (List ℕ)). (take start front ++ a ++ drop (start + below) front) ++ xs) laid;
          };
    }
      where
        put_long : (front : List (List ℕ)) (start below : ℕ) → below ≤ length front - start
            → length (take start front ++ cells_in form.width below (take (below * form.width) bytes) ++ drop (start + below) front) ≡ length front
        put_long front start below few = elim (cases_lt start (length front)) [
          | inl lt ↦ omega (
            arith,
            length-append (take start front ++ cells_in form.width below (take (below * form.width) bytes)) (drop (start + below) front),
            length-append (take start front) (cells_in form.width below (take (below * form.width) bytes)),
            length-take-le start front (omega (arith, lt)),
            length-cells_in form.width below (take (below * form.width) bytes),
            length-drop (start + below) front,
            few,
            lt,
          )
          | inr ge ↦ omega (
            arith,
            length-append (take start front ++ cells_in form.width below (take (below * form.width) bytes)) (drop (start + below) front),
            length-append (take start front) (cells_in form.width below (take (below * form.width) bytes)),
            ap length (take_all start front ge),
            length-cells_in form.width below (take (below * form.width) bytes),
            length-drop (start + below) front,
            few,
            ge,
          )
        ]
