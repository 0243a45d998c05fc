-- The list of a snapshot, and how growths come behind it.
use Rattle.std.proofs.Common.{◌≡◌, ℕ, suc, ◌+◌, ◌≤◌, List, [], ◌∷◌, ◌++◌, length, map, take, drop, get_or, slice_get, Some, refl, ap, ap₂, sym, ◌∙◌, arith}
use Rattle.std.proofs.lemmas.Grind.{flat_map-append}
use Rattle.std.proofs.lemmas.List.{append-nil, append_assoc, length-append, length-map, length-take-le, get_or-map, take_all, take_more, take-map, take-append-drop, drop-append-le}
use Rattle.std.proofs.lemmas.Option.{slice_get_within, get_or_from_slice_get}
use Rattle.block_core.specs.Growth.{Growth}
use Rattle.directory_core.specs.Chain.{total, grown_records, Agree, IsPrefix}
use Rattle.book_core.specs.Lists.{Phase, Seated, opening_of, joined_pieces}
use Rattle.book_core.specs.Snapshots.{Shown, ShowsSeat, full_of, growth_records}
use Rattle.book_core.proofs.Owns.{length-list}
use Rattle.book_core.proofs.PieceLists.{joined_pieces-growths}
use Rattle.book_core.proofs.Slices.{joined-full_of}

-- of two lists that agree the one that isn't longer begins the other
agree_begins : {X : Type 0} (xs ys : List X) → Agree xs ys → length xs ≤ length ys → IsPrefix xs ys
agree_begins [] ys agree le = refl
agree_begins (x ∷ xs) [] agree le = absurd (omega arith)
agree_begins (x ∷ xs) (y ∷ ys) agree le =
    let first : Some x ≡ Some y = agree 0 (omega arith) (omega arith) in
    let same : x ≡ y = grind arith in
    ap₂ (λ (z : _) (zs : List _). z ∷ zs) (sym same) (agree_begins xs ys (λ g less less'. agree (suc g) (omega arith) (omega arith)) (omega arith))

-- behind the growths from one number to another comes the next one
pub growths_more : {R : Type 0} (old : List (List R)) (es : List (Growth R)) (from n : ℕ) (e : Growth R) → from ≤ n → slice_get es n ≡ Some e
    → (old ++ drop from (take n (map (λ f. f.records) es))) ++ e.records ∷ [] ≡ old ++ drop from (take (n + 1) (map (λ f. f.records) es))
growths_more {R} old es from n e le is =
    let gs : List (List R) = map (λ (f : Growth R). f.records) es in
    let inside = slice_get_within es n e is in
    let many = length-map es (λ (f : Growth R). f.records) in
    let here : get_or gs n e.records ≡ e.records = get_or-map (λ (f : Growth R). f.records) es n e e.records inside ∙ ap (λ (f : Growth R). f.records) (get_or_from_slice_get es n e e is) in
    let more : take (n + 1) gs ≡ take n gs ++ e.records ∷ [] = take_more gs n e.records (omega arith) ∙ ap (λ (p : List R). take n gs ++ p ∷ []) here in
    let before : drop from (take n gs ++ e.records ∷ []) ≡ drop from (take n gs) ++ e.records ∷ [] =
    drop-append-le from (take n gs) (e.records ∷ []) (omega (arith, length-take-le n gs (omega arith))) in
    append_assoc old (drop from (take n gs)) (e.records ∷ []) ∙ ap (λ (ps : List (List R)). old ++ ps) (sym before ∙ ap (drop from) (sym more))

pub length-joined-push : {R : Type 0} (pieces : List (List R)) (p : List R) → length (joined_pieces (pieces ++ p ∷ [])) ≡ length (joined_pieces pieces) + length p
length-joined-push pieces p =
    ap length (flat_map-append (λ (q : List _). q) pieces (p ∷ []))
    ∙ (length-append (joined_pieces pieces) (p ++ []) ∙ ap (λ (q : List _). length (joined_pieces pieces) + length q) (append-nil p))

-- what has all growths that the seat knows has its list
pub shows_all : {R : Type 0} (shown : Shown R) (seat : Seated R) → shown.growths ≡ growth_records seat → ShowsSeat shown.of seat shown
shows_all {R} shown seat same = record {
  of = refl;
  growths = same;
  list = ap (λ (gs : List (List R)). joined_pieces (full_of shown.of.blocks ++ gs)) same
      ∙ (joined_pieces-growths (full_of shown.of.blocks) seat.pass.entries ∙ ap (λ (rs : List R). rs ++ grown_records seat.pass.entries) (joined-full_of shown.of.blocks));
}

-- where it has as many it has the same ones
pub same_growths : {R : Type 0} (shown : Shown R) (seat : Seated R) → Agree shown.growths (growth_records seat)
    → length shown.growths ≡ length seat.pass.entries → shown.growths ≡ growth_records seat
same_growths {R} shown seat agree many =
    let all = length-map seat.pass.entries (λ (e : Growth R). e.records) in
    sym (agree_begins shown.growths (growth_records seat) agree (omega arith)) ∙ take_all (length shown.growths) (growth_records seat) (omega arith)

-- pieces, of which so many are the blocks from before the phase, and the others are growths that the seat knows
module _ {R : Type 0} (live : Phase R) (seat : Seated R) (pieces : List (List R)) (blocks n : ℕ) (inside : blocks ≤ length pieces)
    (first : take blocks pieces ≡ full_of live.blocks) (many : n ≡ length (drop blocks pieces))
    (agree : Agree (drop blocks pieces) (growth_records seat)) (le : n ≤ length seat.pass.entries) where
  begins : drop blocks pieces ≡ take n (growth_records seat)
  begins = sym (rw many (agree_begins (drop blocks pieces) (growth_records seat) agree (omega (arith, length-map seat.pass.entries (λ (e : Growth R). e.records)))))

  pub behind : length (joined_pieces pieces) ≡ length (opening_of live) + total (take n seat.pass.entries)
  behind =
      let cut : pieces ≡ full_of live.blocks ++ map (λ e. e.records) (take n seat.pass.entries) = sym (take-append-drop blocks pieces)
      ∙ ap₂ (λ (xs ys : List (List R)). xs ++ ys) first (begins ∙ take-map (λ (e : Growth R). e.records) n seat.pass.entries) in
      ap (λ (ps : List (List R)). length (joined_pieces ps)) cut
      ∙ (ap length (joined_pieces-growths (full_of live.blocks) (take n seat.pass.entries) ∙ ap (λ (rs : List R). rs ++ grown_records (take n seat.pass.entries)) (joined-full_of live.blocks))
      ∙ length-list (opening_of live) (take n seat.pass.entries))

  pub all_added : drop blocks (pieces ++ drop n (growth_records seat)) ≡ growth_records seat
  all_added = drop-append-le blocks pieces (drop n (growth_records seat)) inside
      ∙ (ap (λ (ps : List (List R)). ps ++ drop n (growth_records seat)) begins ∙ take-append-drop n (growth_records seat))
