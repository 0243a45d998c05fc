-- A value whose byte is 0.
use Rattle.std.proofs.Common.{◌≡◌, ◌≤◌, ℕ, List, [], ◌∷◌, Some, None, Bool, true, false, length, refl, arith}
use Rattle.std.specs.Prelude.{◌==◌, if◌then◌else◌, slice_index}
use Rattle.std.proofs.lemmas.Bool.{eqb-true}
use Rattle.record_core.specs.Bytes.{Encoding, WritesBack}
use Rattle.segment_core.specs.declared.scanner.Scanner.{Scanner}
use Rattle.segment_core.specs.Scanner.{IsFed}
use Rattle.call_tests.specs.declared.nought.Nought.{Nought}

abbrev pub nought : Encoding Nought
nought = record { width = 1; bytes_of = λ _. 0 ∷ []; value_of = λ bytes. if slice_index bytes 0 == 0 then Some (record {}) else None }

by_test : (is_0 : Bool) (byte : ℕ) (x : Nought) → (is_0 ≡ true → byte ≡ 0) → (if is_0 then Some (record {}) else None) ≡ Some x → 0 ∷ [] ≡ byte ∷ []
by_test true byte x zeroth is = rw (zeroth refl) refl
by_test false byte x zeroth is = absurd cc

pub nought_back : WritesBack nought
nought_back [] x fits len is = absurd (omega arith)
nought_back (byte ∷ []) x fits len is = by_test (byte == 0) byte x (eqb-true byte 0) is
nought_back (byte ∷ other ∷ rest) x fits len is = absurd (omega arith)

-- the scanner has read an image of at most so many bytes
abbrev pub HasReadWithin : ℕ → Scanner Nought → Type 0
HasReadWithin limit scanner = (image : List ℕ) × IsFed nought image scanner × length image ≤ limit
