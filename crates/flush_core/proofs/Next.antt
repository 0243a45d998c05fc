-- The growths behind the first ones.
use Rattle.std.proofs.Common.{◌≡◌, ℕ, ◌+◌, ◌-◌, ◌*◌, ◌≤◌, ◌<◌, List, [], ◌∷◌, ◌++◌, length, take, drop, map, Some, Bor, ap, sym, ◌∙◌, append_assoc, arith}
use Rattle.std.specs.Prelude.{slice_get, option_map}
use Rattle.std.specs.List.{AllByRecursion}
use Rattle.std.proofs.lemmas.List.{map_push, take-map, length-append}
use Rattle.std.proofs.lemmas.List.Concat.{flat_map-append}
use Rattle.std.proofs.lemmas.List.Folds.{flat_map-map}
use Rattle.std.proofs.lemmas.List.Elements.{All-map, All-drop, All-weaker, recursion_from_All}
use Rattle.std.proofs.lemmas.Option.{slice_get-map, slice_get_within}
use Rattle.std.proofs.Math.Seq.{take-add}
use Rattle.block_core.specs.Growth.{Growth}
use Rattle.block_core.specs.Length.{IsBlockLength}
use Rattle.segment_core.specs.Written.{joined, payload_len}
use Rattle.segment_core.proofs.Written.{take_more, payload_len_more}
use Rattle.segment_core.proofs.Replaced.{slice_get-drop}
use Rattle.directory_core.specs.Chain.{total, AreBlocks}
use Rattle.directory_core.specs.Chain as chains
use Rattle.directory_core.proofs.Chains.{length-grown_records}
use Rattle.flush_core.specs.Group.{IsGreatest}

-- the records of each growth from one on
abbrev pub from_on : {R : Type 0} → ℕ → List (Growth R) → List (List R)
from_on from entries = map (λ e. e.records) (drop from entries)

module _ {R : Type 0} (entries : List (Growth R)) (from : ℕ) where
  -- the growth at a place behind it
  at : (k : ℕ) (e : Growth R) → slice_get entries (from + k) ≡ Some e → slice_get (drop from entries) k ≡ Some e
  at k e is = slice_get-drop from entries k ∙ is

  pub slice_get-from_on : (k : ℕ) (e : Growth R) → slice_get entries (from + k) ≡ Some e → slice_get (from_on from entries) k ≡ Some e.records
  slice_get-from_on k e is = slice_get-map (λ (f : Growth R). f.records) (drop from entries) k ∙ ap (option_map (λ (f : Growth R). f.records)) (at k e is)

  -- a row of the records of so many gets one slice more
  pub row_more : (row : List (Bor (List R))) (before : List (List R)) (slice : Bor (List R)) (number : ℕ) (e : Growth R) → from ≤ number
      → slice_get entries number ≡ Some e → slice.now ≡ e.records
      → map (λ growth. growth.now) row ≡ before ++ map (λ f. f.records) (take (number - from) (drop from entries))
      → map (λ growth. growth.now) (row ++ slice ∷ []) ≡ before ++ map (λ f. f.records) (take (number + 1 - from) (drop from entries))
  row_more row before slice number e le is same are =
      let k : ℕ = number - from in
      let here : from + k ≡ number = omega arith in
      let last : number + 1 - from ≡ k + 1 = omega arith in
      let rest : List (Growth R) = drop from entries in
      map_push (λ (b : Bor (List R)). b.now) row slice
      ∙ ap (λ (rs : List R). map (λ (b : Bor (List R)). b.now) row ++ rs ∷ []) same
      ∙ ap (λ (rows : List (List R)). rows ++ e.records ∷ []) are
      ∙ append_assoc before (map (λ (f : Growth R). f.records) (take k rest)) (e.records ∷ [])
      ∙ ap (λ (rows : List (List R)). before ++ rows)
      (sym (map_push (λ (f : Growth R). f.records) (take k rest) e)
      ∙ ap (map (λ (f : Growth R). f.records)) (sym (take_more rest k e (at k e (ap (slice_get entries) here ∙ is))) ∙ ap (λ n. take n rest) (sym last)))

  -- a row of the records of so many, as a slice
  pub row_is : (known : List (Growth R)) (slice row : List (Bor (List R))) (n : ℕ) → known ≡ entries → slice ≡ row
      → map (λ growth. growth.now) row ≡ map (λ e. e.records) (take (from + n - from) (drop from known))
      → map (λ growth. growth.now) slice ≡ take n (from_on from entries)
  row_is known slice row n same value are =
      let many : from + n - from ≡ n = omega arith in
      ap (map (λ (b : Bor (List R)). b.now)) value ∙ are
      ∙ ap (λ (es : List (Growth R)). map (λ (e : Growth R). e.records) (take (from + n - from) (drop from es))) same
      ∙ ap (λ k. map (λ (e : Growth R). e.records) (take k (drop from entries))) many ∙ sym (take-map (λ (e : Growth R). e.records) n (drop from entries))

  -- the records of the first ones, and of so many behind them
  pub grown_records-take_on : (n : ℕ) → chains.grown_records (take (from + n) entries) ≡ chains.grown_records (take from entries) ++ joined (take n (from_on from entries))
  grown_records-take_on n =
      ap chains.grown_records (take-add from n entries)
      ∙ flat_map-append (λ (e : Growth R). e.records) (take from entries) (take n (drop from entries))
      ∙ ap (λ (rs : List R). chains.grown_records (take from entries) ++ rs)
      (sym (flat_map-map (λ (rs : List R). rs) (λ (e : Growth R). e.records) (take n (drop from entries)))
      ∙ ap joined (sym (take-map (λ (e : Growth R). e.records) n (drop from entries))))

  pub total-take_on : (n : ℕ) → total (take (from + n) entries) ≡ total (take from entries) + length (joined (take n (from_on from entries)))
  total-take_on n =
      sym (length-grown_records (take (from + n) entries)) ∙ ap length (grown_records-take_on n)
      ∙ length-append (chains.grown_records (take from entries)) (joined (take n (from_on from entries)))
      ∙ ap (λ k. k + length (joined (take n (from_on from entries)))) (length-grown_records (take from entries))

-- one more growth doesn't fit
pub IsGreatest_full : {R : Type 0} (width limit : ℕ) (growths : List (List R)) (k : ℕ) (growth : List R) → slice_get growths k ≡ Some growth
    → payload_len width (take k growths) ≤ limit → limit < payload_len width (take k growths) + (4 + length growth * width)
    → IsGreatest width limit growths k
IsGreatest_full width limit growths k growth is fits large =
    let inside = slice_get_within growths k growth is in
    let more = payload_len_more width growths k growth is in
    record { there = omega arith; fits = fits; most = λ _. omega (arith, more) }

-- blocks have records
pub filled_from_on : {R : Type 0} (width : ℕ) (entries : List (Growth R)) (from : ℕ) → AreBlocks width entries
    → AllByRecursion (λ growth. 0 < length growth) (from_on from entries)
filled_from_on {R} width entries from blocks =
    recursion_from_All (λ (growth : List R). 0 < length growth) (from_on from entries)
    (All-map (λ (growth : List R). 0 < length growth) (λ (e : Growth R). e.records) (drop from entries)
    (All-drop (λ (e : Growth R). 0 < length e.records) from entries
    (All-weaker (λ (e : Growth R). IsBlockLength width (length e.records)) (λ (e : Growth R). 0 < length e.records) (λ e block. block.some) entries blocks)))
