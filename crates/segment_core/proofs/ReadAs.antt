-- Records and the bytes that they are written as: lists of them joined, cut, and with runs replaced.
use Rattle.std.proofs.Common.{◌≡◌, ℕ, zero, suc, ◌+◌, List, [], ◌∷◌, ◌++◌, length, take, drop, map, sum, refl, sym, ap, subst, ◌∙◌}
use Rattle.std.specs.Prelude.{slice_get}
use Rattle.std.specs.List.{flat_map}
use Rattle.std.specs.Option.{option_and_then}
use Rattle.std.proofs.lemmas.List.{map-append, take-map, drop-map}
use Rattle.std.proofs.Math.Seq.{take-append_seam, drop-append_seam}
use Rattle.record_core.specs.Bytes.{Encoding}
use Rattle.record_core.specs.Cells.{AreReadAgain}
use Rattle.segment_core.specs.Frame.{Run, records_of_runs}
use Rattle.segment_core.specs.Written.{group_frame, joined}
use Rattle.segment_core.specs.Runs.{change_frame}
use Rattle.segment_core.specs.Command.{replaced}
use Rattle.segment_core.specs.Raw.{cells_in, after_frame, AreReadAs, AreCellsOf}
use Rattle.segment_core.proofs.Raw.{AreReadAs_written}
use Rattle.segment_core.proofs.OneVector.{same_items}
use Rattle.segment_core.proofs.Written.{sum-lengths, AreReadAgain-append}

-- the records of bytes that were written of them
pub cells_in-flat_map_bytes : {R : Type 0} (form : Encoding R) (records : List R)
    → ((r : R) → length (form.bytes_of r) ≡ form.width)
    → cells_in form.width (length records) (flat_map form.bytes_of records) ≡ map form.bytes_of records
cells_in-flat_map_bytes form [] size_of = refl
cells_in-flat_map_bytes form (r ∷ records) size_of =
    let here : List ℕ = form.bytes_of r in
    let rest : List ℕ = flat_map form.bytes_of records in
    ap (λ w. take w (here ++ rest) ∷ cells_in form.width (length records) (drop w (here ++ rest))) (sym (size_of r))
    ∙ ap (λ c. c ∷ cells_in form.width (length records) (drop (length here) (here ++ rest))) (take-append_seam here rest)
    ∙ ap (λ bs. here ∷ cells_in form.width (length records) bs) (drop-append_seam here rest)
    ∙ ap (λ cs. here ∷ cs) (cells_in-flat_map_bytes form records size_of)

module _ {R : Type 0} (form : Encoding R) where
  -- ---- what is read again

  AreReadAgain-take : (n : ℕ) (records : List R) → AreReadAgain form records → AreReadAgain form (take n records)
  AreReadAgain-take zero records again = tt
  AreReadAgain-take (suc n) [] again = tt
  AreReadAgain-take (suc n) (r ∷ records) again = (again.0, AreReadAgain-take n records again.1)

  AreReadAgain-drop : (n : ℕ) (records : List R) → AreReadAgain form records → AreReadAgain form (drop n records)
  AreReadAgain-drop zero records again = again
  AreReadAgain-drop (suc n) [] again = tt
  AreReadAgain-drop (suc n) (r ∷ records) again = AreReadAgain-drop n records again.1

  -- records that are read from the bytes that they are written as
  AreReadAgain_read : (records : List R) → ((i : ℕ) → option_and_then form.value_of (slice_get (map form.bytes_of records) i) ≡ slice_get records i) → AreReadAgain form records
  AreReadAgain_read [] each = tt
  AreReadAgain_read (r ∷ records) each = (each 0, AreReadAgain_read records (λ i. each (suc i)))

  -- ---- records and their bytes

  pub AreCellsOf_written : (records : List R) → AreReadAgain form records → AreCellsOf form (map form.bytes_of records) records
  AreCellsOf_written records again = record { written = refl; read_again = again }

  pub AreCellsOf_read : (cells : List (List ℕ)) (records : List R) → cells ≡ map form.bytes_of records → AreReadAs form cells records → AreCellsOf form cells records
  AreCellsOf_read cells records written are = record { written = written; read_again = AreReadAgain_read records (subst (λ cs. AreReadAs form cs records) written are).each }

  pub AreCellsOf-read : (cells : List (List ℕ)) (records : List R) → AreCellsOf form cells records → AreReadAs form cells records
  AreCellsOf-read cells records are = subst (λ cs. AreReadAs form cs records) (sym are.written) (AreReadAs_written form records are.read_again)

  -- the same bytes are of the same records
  pub AreCellsOf_same : (cells : List (List ℕ)) (a b : List R) → AreCellsOf form cells a → AreCellsOf form cells b → a ≡ b
  AreCellsOf_same cells a b of_a of_b =
      let p = AreCellsOf-read cells a of_a in
      let q = AreCellsOf-read cells b of_b in
      same_items a b (sym p.size ∙ q.size) (λ i lt. sym (p.each i) ∙ q.each i)

  pub AreCellsOf-append : (cells more : List (List ℕ)) (records new : List R) → AreCellsOf form cells records → AreCellsOf form more new → AreCellsOf form (cells ++ more) (records ++ new)
  AreCellsOf-append cells more records new a b = record {
    written = ap (λ cs. cs ++ more) a.written ∙ ap (λ cs. map form.bytes_of records ++ cs) b.written ∙ sym (map-append form.bytes_of records new);
    read_again = AreReadAgain-append form records new a.read_again b.read_again;
  }

  pub AreCellsOf-take : (n : ℕ) (cells : List (List ℕ)) (records : List R) → AreCellsOf form cells records → AreCellsOf form (take n cells) (take n records)
  AreCellsOf-take n cells records are = record { written = ap (take n) are.written ∙ take-map form.bytes_of n records; read_again = AreReadAgain-take n records are.read_again }

  pub AreCellsOf-drop : (n : ℕ) (cells : List (List ℕ)) (records : List R) → AreCellsOf form cells records → AreCellsOf form (drop n cells) (drop n records)
  AreCellsOf-drop n cells records are = record { written = ap (drop n) are.written ∙ drop-map form.bytes_of n records; read_again = AreReadAgain-drop n records are.read_again }

  -- records that are replaced by others
  pub AreCellsOf-replaced : (cells : List (List ℕ)) (runs : List Run) (written : List (List ℕ)) (records new : List R)
      → AreCellsOf form cells records → AreCellsOf form written new
      → AreCellsOf form (replaced cells runs written) (replaced records runs new)
  AreCellsOf-replaced cells [] written records new are are_new = are
  AreCellsOf-replaced cells (run ∷ runs) written records new are are_new =
      let end : ℕ = run.start + run.count in
      let front =
      AreCellsOf-append (take run.start cells) (take run.count written) (take run.start records)
      (take run.count new) (AreCellsOf-take run.start cells records are)
      (AreCellsOf-take run.count written new are_new) in
      let whole =
      AreCellsOf-append (take run.start cells ++ take run.count written) (drop end cells)
      (take run.start records ++ take run.count new) (drop end records) front
      (AreCellsOf-drop end cells records are) in
      AreCellsOf-replaced (take run.start cells ++ take run.count written ++ drop end cells) runs
      (drop run.count written) (take run.start records ++ take run.count new ++ drop end records)
      (drop run.count new) whole (AreCellsOf-drop run.count written new are_new)

  -- ---- the vector behind a frame

  pub AreCellsOf_group : (width : ℕ) (cells : List (List ℕ)) (records : List R) (growths : List (List R))
      → form.width ≡ width → ((r : R) → length (form.bytes_of r) ≡ form.width)
      → AreReadAgain form (joined growths)
      → AreCellsOf form cells records → AreCellsOf form (after_frame width cells (group_frame form growths)) (records ++ joined growths)
  AreCellsOf_group width cells records growths same size_of again are =
      let bytes : List ℕ = flat_map form.bytes_of (joined growths) in
      let written =
      ap (λ w. cells_in w (sum (map length growths)) bytes) (sym same)
      ∙ ap (λ n. cells_in form.width n bytes) (sym (sum-lengths growths))
      ∙ cells_in-flat_map_bytes form (joined growths) size_of in
      subst (λ (cs : List (List ℕ)). AreCellsOf form (cells ++ cs) (records ++ joined growths)) (sym written)
      (AreCellsOf-append cells (map form.bytes_of (joined growths)) records (joined growths) are (AreCellsOf_written (joined growths) again))

  pub AreCellsOf_change : (width : ℕ) (cells : List (List ℕ)) (records : List R) (runs : List Run)
      (pieces : List (List R))
      → form.width ≡ width → ((r : R) → length (form.bytes_of r) ≡ form.width)
      → length (joined pieces) ≡ records_of_runs runs
      → AreReadAgain form (joined pieces)
      → AreCellsOf form cells records → AreCellsOf form (after_frame width cells (change_frame form runs pieces)) (replaced records runs (joined pieces))
  AreCellsOf_change width cells records runs pieces same size_of filled again are =
      let bytes : List ℕ = flat_map form.bytes_of (joined pieces) in
      let written = ap (λ w. cells_in w (records_of_runs runs) bytes) (sym same) ∙ ap (λ n. cells_in form.width n bytes) (sym filled) ∙ cells_in-flat_map_bytes form (joined pieces) size_of in
      subst (λ (cs : List (List ℕ)). AreCellsOf form (replaced cells runs cs) (replaced records runs (joined pieces))) (sym written)
      (AreCellsOf-replaced cells runs (map form.bytes_of (joined pieces)) records (joined pieces) are (AreCellsOf_written (joined pieces) again))
