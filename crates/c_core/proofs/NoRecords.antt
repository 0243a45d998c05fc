-- Why bytes are no records.
use Rattle.std.proofs.Common.{◌≡◌, ◌≢◌, ℕ, ◌*◌, ◌/◌, ◌%◌, ◌<◌, List, length, None, inl, inr, sym, ap, subst, ◌∙◌, arith}
use Rattle.std.specs.List.{slice_get}
use Rattle.std.proofs.Math.Nat.{mul-mod_left, mul-div_cancel}
use Rattle.std.proofs.lemmas.Option.{slice_get_cases}
use Rattle.record_core.specs.Bytes.{Encoding}
use Rattle.record_core.specs.Cells.{cell}
use Rattle.c_core.specs.Records.{AreNone}

-- something is left behind the last whole one
pub not_whole : {R : Type 0} (form : Encoding R) (bytes : List ℕ) (width : ℕ) → width ≡ form.width → length bytes % width ≢ 0 → AreNone form bytes
not_whole form bytes width same some = λ records are.
    some (ap (λ n. n % width) (are.filled ∙ ap (λ w. length records * w) (sym same)) ∙ mul-mod_left (length records) width)

is_there : {R : Type 0} (records : List R) (i : ℕ) → i < length records → slice_get records i ≡ None → ⊥
is_there records i inside none = elim ((slice_get_cases records i).1) [
  | inl found ↦ (let is = found.2 in absurd cc)
  | inr past ↦ (let far = past.0 in absurd (omega arith))
]

-- one of as many as there are has no value
pub one_is_bad : {R : Type 0} (form : Encoding R) (bytes : List ℕ) (width n i : ℕ) → 0 < width → width ≡ form.width
    → n ≡ length bytes / width → i < n → form.value_of (cell form.width bytes i) ≡ None → AreNone form bytes
one_is_bad form bytes width n i wide same many lt bad = λ records are.
    let count : n ≡ length records =
    many ∙ ap (λ k. k / width) (are.filled ∙ ap (λ w. length records * w) (sym same)) ∙ mul-div_cancel (length records) wide in
    let inside : i < length records = subst (λ k. i < k) count lt in
    is_there records i inside (sym (are.each i inside) ∙ bad)
