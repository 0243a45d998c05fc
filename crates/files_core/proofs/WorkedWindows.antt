-- What a window shows of a list, and what is ruled out.
use Rattle.std.proofs.Common.{◌≡◌, ℕ, List, [], ◌∷◌, length, refl, ap, arith}
use Rattle.std.specs.Int.{w64}
use Rattle.std.proofs.lemmas.List.{length-take}
use Rattle.record_core.specs.Bytes.{unsigned}
use Rattle.pen_core.specs.Typed.{OpensTo}
use Rattle.files_core.specs.declared.asked.Window.{Window}
use Rattle.files_core.specs.Listing.{in_window, AreRecordsFrom, AreWindowOf}

abbrev window : ℕ → ℕ → Window
window from count = record { from = from; count = count }

in_the_middle : in_window {R = ℕ} (window 1 2) (5 ∷ 6 ∷ 7 ∷ 8 ∷ []) ≡ 6 ∷ 7 ∷ []
in_the_middle = refl

past_the_end : in_window {R = ℕ} (window 3 9) (5 ∷ 6 ∷ 7 ∷ 8 ∷ []) ≡ 8 ∷ []
past_the_end = refl

-- ---- what was read of a file, of whatever bytes, that has these records

other_first : (m n : ℕ) (xs ys : List ℕ) → (m ≡ n → ⊥) → m ∷ xs ≡ n ∷ ys → ⊥
other_first m n xs ys other same = other cc

module _ (bytes : List ℕ) (opens : OpensTo (unsigned w64) bytes (5 ∷ 6 ∷ 7 ∷ [])) where
  not_late : AreRecordsFrom (unsigned w64) bytes 1 1 (7 ∷ []) → ⊥
  not_late are = other_first 7 6 [] [] (λ same. omega arith) (are (5 ∷ 6 ∷ 7 ∷ []) opens)

  not_filler : AreRecordsFrom (unsigned w64) bytes 1 2 (0 ∷ 0 ∷ []) → ⊥
  not_filler are = other_first 0 6 (0 ∷ []) (7 ∷ []) (λ same. omega arith) (are (5 ∷ 6 ∷ 7 ∷ []) opens)

  none_past_the_end : AreRecordsFrom (unsigned w64) bytes 2 2 (7 ∷ 0 ∷ []) → ⊥
  none_past_the_end are = let size : 2 ≡ 1 = ap length (are (5 ∷ 6 ∷ 7 ∷ []) opens) in omega (arith, size)

  they_are : AreWindowOf (unsigned w64) (window 1 9) (Unit {0}) bytes (6 ∷ 7 ∷ [])
  they_are = record { records = 5 ∷ 6 ∷ 7 ∷ []; file = λ known. opens; shown = refl }

-- also of bytes that aren't known no more are listed than are asked for
not_more : (known : Type 0) (bytes : List ℕ) → AreWindowOf (unsigned w64) (window 0 1) known bytes (5 ∷ 6 ∷ []) → ⊥
not_more known bytes are =
    let size : 2 ≡ length (in_window (window 0 1) are.records) = ap length are.shown in
    let most = length-take 1 are.records in
    omega (arith, size, most)
