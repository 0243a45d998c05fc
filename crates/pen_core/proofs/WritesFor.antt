-- Writes whose bytes stand one behind the other.
use Rattle.std.proofs.Common.{◌≡◌, ℕ, zero, suc, ◌+◌, ◌-◌, ◌≤◌, ◌<◌, List, [], ◌∷◌, ◌++◌, length, map, take, drop, get_or, All, refl, sym, ap, ◌∙◌, arith}
use Rattle.std.proofs.Math.Seq.{drop-append_seam}
use Rattle.std.specs.List.{flat_map}
use Rattle.std.proofs.lemmas.List.{drop-take, take-take, take_all, take-append-le, drop-append-le, take_more, length-append, length-drop, map_push}
use Rattle.std.proofs.lemmas.List.Elements.{All-tail, All-head, All-push, All-weaker}
use Rattle.record_core.specs.Bytes.{Encoding}
use Rattle.segment_core.specs.declared.found.Home.{Home}
use Rattle.pen_core.specs.declared.fold.Write.{Write}
use Rattle.pen_core.specs.InHand.{write_of}
use Rattle.pen_core.specs.HomeRuns.{AreAscending}
use Rattle.pen_core.specs.Values.{bytes_at, write_for, writes_for}

-- the write's bytes stand among so many
abbrev pub Within : ℕ → Write → Type 0
Within len write = (write.from ≤ write.to) × (write.to ≤ len)

write_of-append : (bytes more : List ℕ) (write : Write) → Within (length bytes) write → write_of (bytes ++ more) write ≡ write_of bytes write
write_of-append bytes more write within =
    ap (λ bs. record { place = write.place; bytes = bs })
    (ap (take (write.to - write.from)) (drop-append-le write.from bytes more (omega (arith, within.0, within.1)))
    ∙ take-append-le (write.to - write.from) (drop write.from bytes) more (omega (arith, length-drop write.from bytes, within.0, within.1)))

-- bytes behind them change no write
writes_of-append : (bytes more : List ℕ) (writes : List Write) → All (Within (length bytes)) writes
    → map (write_of (bytes ++ more)) writes ≡ map (write_of bytes) writes
writes_of-append bytes more [] within = refl
writes_of-append bytes more (write ∷ writes) within =
    ap (λ w. w ∷ map (write_of (bytes ++ more)) writes) (write_of-append bytes more write (All-head (Within (length bytes)) write writes within))
    ∙ ap (λ ws. write_of bytes write ∷ ws) (writes_of-append bytes more writes (All-tail (Within (length bytes)) write writes within))

write_of-last : (place : ℕ) (bytes more : List ℕ)
    → write_of (bytes ++ more)
    (record { place = place; from = length bytes; to = length (bytes ++ more) }) ≡ record { place = place; bytes = more }
write_of-last place bytes more =
    let count : length more ≡ length (bytes ++ more) - length bytes = omega (arith, length-append bytes more) in
    ap (λ bs. record { place = place; bytes = bs })
    (ap (take (length (bytes ++ more) - length bytes)) (drop-append_seam bytes more)
    ∙ ap (λ n. take n more) (sym count)
    ∙ take_all (length more) more (omega arith))

-- one run's write behind the others
pub writes_more : {R : Type 0} (form : Encoding R) (records : List R) (runs : List Home) (k : ℕ) (d : Home) (bytes : List ℕ)
    (writes : List Write)
    → k < length runs
    → map (write_of bytes) writes ≡ writes_for form records (take k runs) → All (Within (length bytes)) writes
    → map (write_of (bytes ++ bytes_at form records (get_or runs k d).position (get_or runs k d).count))
    (writes ++ record {
      place = (get_or runs k d).place;
      from = length bytes;
      to = length (bytes ++ bytes_at form records (get_or runs k d).position (get_or runs k d).count);
    } ∷ [])
    ≡ writes_for form records (take (k + 1) runs)
writes_more form records runs k d bytes writes lt so_far within =
    let run = get_or runs k d in
    let more = bytes_at form records run.position run.count in
    let write : Write = record { place = run.place; from = length bytes; to = length (bytes ++ more) } in
    map_push (write_of (bytes ++ more)) writes write
    ∙ ap (λ ws. ws ++ write_of (bytes ++ more) write ∷ []) (writes_of-append bytes more writes within ∙ so_far)
    ∙ ap (λ w. writes_for form records (take k runs) ++ w ∷ []) (write_of-last run.place bytes more)
    ∙ sym (map_push (write_for form records) (take k runs) run)
    ∙ ap (writes_for form records) (sym (take_more runs k d lt))

pub within_more : (bytes more : List ℕ) (writes : List Write) (place : ℕ) → All (Within (length bytes)) writes
    → All (Within (length (bytes ++ more)))
    (writes ++ record { place = place; from = length bytes; to = length (bytes ++ more) } ∷ [])
within_more bytes more writes place within =
    All-push (Within (length (bytes ++ more))) writes (record { place = place; from = length bytes; to = length (bytes ++ more) })
    (All-weaker (Within (length bytes)) (Within (length (bytes ++ more)))
    (λ w inside. (inside.0, omega (arith, inside.1, length-append bytes more))) writes within)
    (omega (arith, length-append bytes more), omega arith)

pub ascending-inside : (from to : ℕ) (runs : List Home) → AreAscending from to runs → from ≤ to
ascending-inside from to [] ascend = ascend
ascending-inside from to (run ∷ runs) ascend = let rest = ascending-inside (run.position + run.count) to runs ascend.1 in omega (arith, ascend.0)

pub ascending-ends : (from to : ℕ) (runs : List Home) (k : ℕ) (d : Home) → AreAscending from to runs → k < length runs
    → (get_or runs k d).position + (get_or runs k d).count ≤ to
ascending-ends from to [] k d ascend lt = absurd (omega arith)
ascending-ends from to (run ∷ runs) zero d ascend lt = ascending-inside (run.position + run.count) to runs ascend.1
ascending-ends from to (run ∷ runs) (suc k) d ascend lt = ascending-ends (run.position + run.count) to runs k d ascend.1 (omega arith)

-- ---- records behind the last run

cut_part : {X : Type 0} (xs : List X) (n from count : ℕ) → from + count ≤ n → take count (drop from (take n xs)) ≡ take count (drop from xs)
cut_part xs n from count le =
    let split : n ≡ from + (n - from) = omega arith in
    ap (λ m. take count (drop from (take m xs))) split
    ∙ ap (take count) (drop-take from (n - from) xs)
    ∙ take-take count (n - from) (drop from xs) (omega arith)

-- they are no matter to its writes
pub writes_for-take : {R : Type 0} (form : Encoding R) (records : List R) (n from : ℕ) (runs : List Home)
    → AreAscending from n runs → writes_for form (take n records) runs ≡ writes_for form records runs
writes_for-take form records n from [] ascend = refl
writes_for-take form records n from (run ∷ runs) ascend =
    ap (λ rs. record { place = run.place; bytes = flat_map form.bytes_of rs } ∷ writes_for form (take n records) runs)
    (cut_part records n run.position run.count (ascending-inside (run.position + run.count) n runs ascend.1))
    ∙ ap (λ ws. write_for form records run ∷ ws) (writes_for-take form records n (run.position + run.count) runs ascend.1)
