-- Records of one piece are those of the whole at its place.
use Rattle.std.proofs.Common.{◌≡◌, ℕ, ◌+◌, ◌-◌, ◌≤◌, ◌<◌, List, [], ◌++◌, length, take, drop, get_or, Some, sym, ap, subst, ◌∙◌, arith, append_assoc}
use Rattle.std.specs.List.{flat_map, slice_get}
use Rattle.std.proofs.lemmas.Option.{get_or_from_slice_get}
use Rattle.std.proofs.Math.Seq.{take-add, drop-append-add}
use Rattle.std.proofs.lemmas.List.{take_all, take-append-drop, take-append-le, drop-append-le, drop-drop, drop_more, take_more, length-append, length-drop, flat_map_more}
use Rattle.std.proofs.lemmas.Grind.{flat_map-append}
use Rattle.record_core.specs.Bytes.{Encoding}
use Rattle.segment_core.specs.Written.{joined}
use Rattle.pen_core.specs.Values.{bytes_at}

-- a part of what stands in the middle
pub middle : {X : Type 0} (front piece rest : List X) (a n : ℕ) → a + n ≤ length piece
    → take n (drop (length front + a) (front ++ (piece ++ rest))) ≡ take n (drop a piece)
middle front piece rest a n within =
    ap (take n) (drop-append-add front (piece ++ rest) a ∙ drop-append-le a piece rest (omega arith))
    ∙ take-append-le n (drop a piece) rest (omega (arith, length-drop a piece))

-- all pieces: those before one, it, and those behind it
pub joined-split : {R : Type 0} (pieces : List (List R)) (k : ℕ) (d : List R) → k < length pieces
    → joined pieces ≡ joined (take k pieces) ++ (get_or pieces k d ++ joined (drop (k + 1) pieces))
joined-split pieces k d lt =
    ap joined (sym (take-append-drop k pieces))
    ∙ flat_map-append (λ p. p) (take k pieces) (drop k pieces)
    ∙ ap (λ ps. joined (take k pieces) ++ joined ps) (drop_more pieces k d lt)

pub joined-next : {R : Type 0} (pieces : List (List R)) (k : ℕ) (d : List R) → k < length pieces
    → length (joined (take (k + 1) pieces)) ≡ length (joined (take k pieces)) + length (get_or pieces k d)
joined-next pieces k d lt =
    ap (λ ps. length (joined ps)) (take_more pieces k d lt)
    ∙ ap length (sym (flat_map_more (λ p. p) [] (take k pieces) (get_or pieces k d)))
    ∙ length-append (joined (take k pieces)) (get_or pieces k d)

-- the records of a piece from one position up to another
pub piece_part : {R : Type 0} (pieces : List (List R)) (k : ℕ) (d : List R) (start at last : ℕ) → k < length pieces
    → start ≡ length (joined (take k pieces)) → start ≤ at → at ≤ last → last ≤ start + length (get_or pieces k d)
    → take (last - at) (drop (at - start) (get_or pieces k d)) ≡ take (last - at) (drop at (joined pieces))
piece_part pieces k d start at last lt is from some to =
    let here : length (joined (take k pieces)) + (at - start) ≡ at = omega arith in
    sym (ap (λ n. take (last - at) (drop n (joined pieces))) (sym here)
    ∙ ap (λ rs. take (last - at) (drop (length (joined (take k pieces)) + (at - start)) rs)) (joined-split pieces k d lt)
    ∙ middle (joined (take k pieces)) (get_or pieces k d) (joined (drop (k + 1) pieces)) (at - start) (last - at) (omega arith))

-- bytes up to one position, and those up to a later one
pub bytes_at-more : {R : Type 0} (form : Encoding R) (records : List R) (from at last : ℕ) → from ≤ at → at ≤ last
    → bytes_at form records from (at - from) ++ bytes_at form records at (last - at) ≡ bytes_at form records from
    (last - from)
bytes_at-more form records from at last some more =
    let here : from + (at - from) ≡ at = omega arith in
    let all : at - from + (last - at) ≡ last - from = omega arith in
    sym (ap (λ n. bytes_at form records from n) (sym all)
    ∙ ap (flat_map form.bytes_of) (take-add (at - from) (last - at) (drop from records))
    ∙ flat_map-append form.bytes_of (take (at - from) (drop from records)) (take (last - at) (drop (at - from) (drop from records)))
    ∙ ap (λ rs. bytes_at form records from (at - from) ++ flat_map form.bytes_of (take (last - at) rs))
    (drop-drop (at - from) from records ∙ ap (λ n. drop n records) here))

-- the next piece ends inside the whole
pub piece_inside : {R : Type 0} (pieces : List (List R)) (k : ℕ) (d : List R) → k < length pieces
    → length (joined (take k pieces)) + length (get_or pieces k d) ≤ length (joined pieces)
piece_inside pieces k d lt =
    let all = ap length (joined-split pieces k d lt) in
    let front = length-append (joined (take k pieces)) (get_or pieces k d ++ joined (drop (k + 1) pieces)) in
    let rest = length-append (get_or pieces k d) (joined (drop (k + 1) pieces)) in
    omega arith

pub joined-all : {R : Type 0} (pieces : List (List R)) (k : ℕ) → length pieces ≤ k → joined (take k pieces) ≡ joined pieces
joined-all pieces k le = ap joined (take_all k pieces le)

pub bytes_at-none : {R : Type 0} (form : Encoding R) (records : List R) (from : ℕ) → [] ≡ bytes_at form records from (from - from)
bytes_at-none form records from =
    let none : 0 ≡ from - from = omega arith in
    ap (bytes_at form records from) none

-- the bytes of a piece's records behind those of the records before them
pub values_more : {R : Type 0} (form : Encoding R) (pieces : List (List R)) (k : ℕ) (piece : List R)
    (start at count from : ℕ) (old mid new : List ℕ)
    → slice_get pieces k ≡ Some piece → k < length pieces → start ≡ length (joined (take k pieces)) → start ≤ at
    → at + count ≤ start + length piece → from ≤ at
    → mid ≡ old ++ bytes_at form (joined pieces) from (at - from)
    → new ≡ mid ++ flat_map form.bytes_of (take (at - start + count - (at - start)) (drop (at - start) piece))
    → new ≡ old ++ bytes_at form (joined pieces) from (at + count - from)
values_more form pieces k piece start at count from old mid new found lt is behind to le so_far wrote =
    let last : ℕ = at + count in
    let there : get_or pieces k piece ≡ piece = get_or_from_slice_get pieces k piece piece found in
    let many : at - start + count - (at - start) ≡ last - at = omega arith in
    let fits : last ≤ start + length (get_or pieces k piece) = subst (λ p. last ≤ start + length p) (sym there) to in
    let part : take (at - start + count - (at - start)) (drop (at - start) piece) ≡ take (last - at) (drop at (joined pieces)) =
    ap (λ n. take n (drop (at - start) piece)) many
    ∙ ap (λ p. take (last - at) (drop (at - start) p)) (sym there)
    ∙ piece_part pieces k piece start at last lt is behind (omega arith) fits in
    wrote ∙ ap (λ bs. bs ++ flat_map form.bytes_of (take (at - start + count - (at - start)) (drop (at - start) piece))) so_far
    ∙ append_assoc old (bytes_at form (joined pieces) from (at - from))
    (flat_map form.bytes_of (take (at - start + count - (at - start)) (drop (at - start) piece)))
    ∙ ap (λ rs. old ++ (bytes_at form (joined pieces) from (at - from) ++ flat_map form.bytes_of rs)) part
    ∙ ap (λ bs. old ++ bs) (bytes_at-more form (joined pieces) from at last le (omega arith))

pub passed_more : {R : Type 0} (pieces : List (List R)) (k : ℕ) (piece : List R) (start : ℕ)
    → slice_get pieces k ≡ Some piece → k < length pieces → start ≡ length (joined (take k pieces))
    → (length (joined (take (k + 1) pieces)) ≡ start + length piece) × (start + length piece ≤ length (joined pieces))
passed_more pieces k piece start found lt is =
    let there : length (get_or pieces k piece) ≡ length piece = ap length (get_or_from_slice_get pieces k piece piece found) in
    let next = joined-next pieces k piece lt in
    let inside = piece_inside pieces k piece lt in
    (omega arith, omega arith)
