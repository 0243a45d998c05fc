-- Growths as frames: their sizes, their text one by one, and the vector that is read from them.
use Rattle.std.proofs.Common.{◌≡◌, ℕ, zero, suc, ◌+◌, ◌*◌, ◌≤◌, ◌<◌, List, [], ◌∷◌, ◌++◌, length, take, drop, get_or, map, sum, Some, refl, sym, ap, subst, ◌∙◌, append_assoc, arith}
use Rattle.std.specs.Prelude.{slice_get}
use Rattle.std.specs.Global.{Vec}
use Rattle.std.specs.List.{flat_map}
use Rattle.std.specs.Int.{w32, to_le_bytes}
use Rattle.std.proofs.lemmas.List.{append-nil, length-append, length-map, map_more, map_push, take-append-drop}
use Rattle.std.proofs.lemmas.List.Concat.{flat_map-append, length-flat_map}
use Rattle.std.proofs.lemmas.List.Sums.{sum-map}
use Rattle.std.proofs.lemmas.Nat.{mul-le}
use Rattle.std.proofs.Math.Nat.{add-mul}
use Rattle.record_core.specs.Cells.{AreReadAgain}
use Rattle.record_core.proofs.Cells.{length-flat_map_bytes}
use Rattle.record_core.specs.Limits.{payload_limit}
use Rattle.record_core.specs.Bytes.{Encoding}
use Rattle.segment_core.specs.declared.format.Format.{Format}
use Rattle.segment_core.specs.Shape.{shape_of}
use Rattle.segment_core.specs.declared.tally.Tally.{Tally}
use Rattle.segment_core.specs.Frame.{payload_of, frame_text, text}
use Rattle.segment_core.specs.Tally.{after}
use Rattle.segment_core.specs.Written.{growths_of, groups_of, joined, all_records, group_frame, payload_len, AllFit}
use Rattle.segment_core.proofs.Payload.{length-group_payload}
use Rattle.segment_core.proofs.Push.{text_push}

-- ---- sizes

pub joined-append : {R : Type 0} (a b : List (List R)) → joined (a ++ b) ≡ joined a ++ joined b
joined-append a b = flat_map-append (λ growth. growth) a b

pub joined_push : {R : Type 0} (growths : List (List R)) (growth : List R) → joined (growths ++ growth ∷ []) ≡ joined growths ++ growth
joined_push growths growth = joined-append growths (growth ∷ []) ∙ ap (λ (rs : List _). joined growths ++ rs) (append-nil growth)

pub payload_len_push : {R : Type 0} (width : ℕ) (growths : List (List R)) (growth : List R)
    → payload_len width (growths ++ growth ∷ []) ≡ payload_len width growths + (4 + length growth * width)
payload_len_push width growths growth =
    let records = ap length (joined_push growths growth) ∙ length-append (joined growths) growth in
    let count = length-append growths (growth ∷ []) in
    let product : length (joined (growths ++ growth ∷ [])) * width ≡ (length (joined growths) + length growth) * width = ap (λ n. n * width) records in
    omega arith

payload_len-append : {R : Type 0} (width : ℕ) (a b : List (List R)) → payload_len width a ≤ payload_len width (a ++ b)
payload_len-append width a b =
    let records = ap length (joined-append a b) ∙ length-append (joined a) (joined b) in
    let count = length-append a b in
    let product : length (joined (a ++ b)) * width ≡ (length (joined a) + length (joined b)) * width = ap (λ n. n * width) records in
    omega arith

pub take_more : {X : Type 0} (xs : List X) (k : ℕ) (x : X) → slice_get xs k ≡ Some x → take (k + 1) xs ≡ take k xs ++ x ∷ []
take_more [] k x is = absurd cc
take_more (y ∷ xs) zero x is = let same : y ≡ x = cc in ap (λ (z : _). z ∷ []) same
take_more (y ∷ xs) (suc k) x is = let n : suc k + 1 ≡ suc (k + 1) = omega arith in rw n (ap (λ (l : List _). y ∷ l) (take_more xs k x is))

-- the lengths of the growths, and of one more
pub lengths_push : {R : Type 0} (growths : List (List R)) (growth : List R)
    → flat_map (to_le_bytes w32) (map length (growths ++ growth ∷ [])) ≡ flat_map (to_le_bytes w32) (map length growths) ++ to_le_bytes w32 (length growth)
lengths_push growths growth =
    ap (flat_map (to_le_bytes w32)) (map_push length growths growth) ∙ flat_map-append (to_le_bytes w32) (map length growths) (length growth ∷ [])

pub payload_len_more : {R : Type 0} (width : ℕ) (growths : List (List R)) (k : ℕ) (growth : List R)
    → slice_get growths k ≡ Some growth
    → payload_len width (take (k + 1) growths) ≡ payload_len width (take k growths) + (4 + length growth * width)
payload_len_more width growths k growth is = ap (payload_len width) (take_more growths k growth is) ∙ payload_len_push width (take k growths) growth

pub payload_len_within : {R : Type 0} (width : ℕ) (growths : List (List R)) (k : ℕ) → payload_len width (take k growths) ≤ payload_len width growths
payload_len_within {R} width growths k =
    subst (λ (gs : List (List R)). payload_len width (take k growths) ≤ payload_len width gs) (take-append-drop k growths) (payload_len-append width (take k growths) (drop k growths))

-- a growth takes part of its group's payload
pub growth_within : {R : Type 0} (width : ℕ) (growths : List (List R)) (k : ℕ) (growth : List R)
    → slice_get growths k ≡ Some growth
    → payload_len width (take k growths) + (4 + length growth * width) ≤ payload_len width growths
growth_within width growths k growth is = let more = payload_len_more width growths k growth is in let within = payload_len_within width growths (k + 1) in omega arith

pub payload_len_nothing : {R : Type 0} (width : ℕ) (growths : List (List R)) → growths ≡ [] → payload_len width growths ≡ 4
payload_len_nothing width growths none = ap (payload_len width) none ∙ (let nothing : 4 + 0 * 4 + 0 * width ≡ 4 = omega arith in nothing)

pub records_more : {R : Type 0} (growths : List (List R)) (k : ℕ) (growth : List R)
    → slice_get growths k ≡ Some growth
    → length (joined (take (k + 1) growths)) ≡ length (joined (take k growths)) + length growth
records_more growths k growth is = ap (λ gs. length (joined gs)) (take_more growths k growth is) ∙ ap length (joined_push (take k growths) growth) ∙ length-append (joined (take k growths)) growth

pub records_within : {R : Type 0} (growths : List (List R)) (k : ℕ) → length (joined (take k growths)) ≤ length (joined growths)
records_within growths k =
    let parts = ap (λ gs. length (joined gs)) (sym (take-append-drop k growths)) in
    let both = ap length (joined-append (take k growths) (drop k growths)) ∙ length-append (joined (take k growths)) (joined (drop k growths)) in
    omega arith

-- the bytes of the records up to a growth, and of this one
pub cells_more : {R : Type 0} (width : ℕ) (growths : List (List R)) (k : ℕ) (growth : List R)
    → slice_get growths k ≡ Some growth
    → length (joined (take (k + 1) growths)) * width ≡ length (joined (take k growths)) * width + length growth * width
cells_more width growths k growth is = ap (λ n. n * width) (records_more growths k growth is) ∙ add-mul (length (joined (take k growths))) (length growth) width

pub cells_within : {R : Type 0} (width : ℕ) (growths : List (List R)) (k : ℕ) → length (joined (take k growths)) * width ≤ length (joined growths) * width
cells_within width growths k = mul-le (length (joined (take k growths))) width (length (joined growths)) width (records_within growths k) (omega arith)

-- the product below
pub long_growth : (width n : ℕ) → 1 ≤ width → n ≤ n * width
long_growth width zero wide = omega arith
long_growth width (suc n) wide = let more = long_growth width n wide in omega arith

pub sum-lengths : {R : Type 0} (growths : List (List R)) → length (joined growths) ≡ sum (map length growths)
sum-lengths growths = length-flat_map (λ growth. growth) growths ∙ sym (sum-map length growths)

-- how long the vector is behind a group
pub size-group_frame : {R : Type 0} (form : Encoding R) (tally : Tally) (growths : List (List R)) → (after tally (group_frame form growths)).size ≡ tally.size + length (joined growths)
size-group_frame form tally growths = ap (λ n. tally.size + n) (sym (sum-lengths growths))

pub length-group_frame : {R : Type 0} (format : Format) (form : Encoding R) (growths : List (List R))
    → ((r : R) → length (form.bytes_of r) ≡ form.width)
    → length (payload_of format (group_frame form growths)) ≡ payload_len form.width growths
length-group_frame format form growths wide =
    let a = length-group_payload format (map length growths) (flat_map form.bytes_of (joined growths)) in
    let b = length-map growths length in
    let d = length-flat_map_bytes form (joined growths) wide in
    omega arith

-- ---- what is read again

pub AreReadAgain-append : {R : Type 0} (form : Encoding R) (a b : List R) → AreReadAgain form a → AreReadAgain form b → AreReadAgain form (a ++ b)
AreReadAgain-append form [] b each more = more
AreReadAgain-append form (r ∷ a) b each more = (each.0, AreReadAgain-append form a b each.1 more)

-- ---- text

-- a frame that was appended piece by piece: its head, the count of its growths, their lengths, and their records
pub group_appended : {R : Type 0} (format : Format) (form : Encoding R) (growths : List (List R)) (len n : ℕ)
    (file headed counted listed done : List ℕ)
    → ((r : R) → length (form.bytes_of r) ≡ form.width) → len ≡ payload_len form.width growths → n ≡ length growths
    → headed ≡ file ++ 1 ∷ 1 ∷ to_le_bytes w32 len
    → counted ≡ headed ++ to_le_bytes w32 n
    → listed ≡ counted ++ flat_map (to_le_bytes w32) (map length growths)
    → done ≡ listed ++ flat_map form.bytes_of (joined growths)
    → done ≡ file ++ frame_text format (group_frame form growths)
group_appended format form growths len n file headed counted listed done wide size count a b c d =
    let payload : List ℕ = payload_of format (group_frame form growths) in
    let len_is : len ≡ length payload = size ∙ sym (length-group_frame format form growths wide) in
    let count_is : n ≡ length (map length growths) = count ∙ sym (length-map growths length) in
    let head : List ℕ = 1 ∷ 1 ∷ to_le_bytes w32 len in
    let numbers : List ℕ = flat_map (to_le_bytes w32) (map length growths) in
    let bytes : List ℕ = flat_map form.bytes_of (joined growths) in
    d ∙ ap (λ (bs : List ℕ). bs ++ bytes) (c ∙ ap (λ (bs : List ℕ). bs ++ numbers) (b ∙ ap (λ (bs : List ℕ). bs ++ to_le_bytes w32 n) a))
    ∙ regroup file head (to_le_bytes w32 n) numbers bytes
    ∙ ap (λ k. file ++ (head ++ (to_le_bytes w32 k ++ (numbers ++ bytes)))) count_is
    ∙ ap (λ k. file ++ ((1 ∷ 1 ∷ to_le_bytes w32 k) ++ payload)) len_is
  where
    regroup : (file head count numbers bytes : List ℕ)
        → (((file ++ head) ++ count) ++ numbers) ++ bytes ≡ file ++ (head ++ (count ++ (numbers ++ bytes)))
    regroup file head count numbers bytes = simp append_assoc

-- ---- one group more

pub groups_more : {R : Type 0} (groups : List (Vec (Vec R))) (k : ℕ) (group : Vec (Vec R))
    → k < length groups → group ≡ get_or groups k group
    → groups_of (take (k + 1) groups) ≡ groups_of (take k groups) ++ growths_of group.items ∷ []
groups_more {R} groups k group lt is =
    map_more (λ (g : Vec (Vec R)). growths_of g.items) groups k group lt
    ∙ ap (λ (g : Vec (Vec R)). groups_of (take k groups) ++ growths_of g.items ∷ []) (sym is)

pub all_records_push : {R : Type 0} (groups : List (List (List R))) (group : List (List R)) → all_records (groups ++ group ∷ []) ≡ all_records groups ++ joined group
all_records_push groups group = ap joined (map_push joined groups group) ∙ joined_push (map joined groups) (joined group)

pub text_more : {R : Type 0} (format : Format) (form : Encoding R) (groups : List (List (List R)))
    (group : List (List R))
    → text (shape_of format form) (map (group_frame form) (groups ++ group ∷ [])) ≡ text (shape_of format form) (map (group_frame form) groups) ++ frame_text format (group_frame form group)
text_more format form groups group =
    ap (text (shape_of format form)) (map_push (group_frame form) groups group)
    ∙ text_push (shape_of format form) (map (group_frame form) groups) (group_frame form group)

pub AllFit_push : {R : Type 0} (width : ℕ) (groups : List (List (List R))) (group : List (List R))
    → AllFit width groups → payload_len width group ≤ payload_limit
    → AllFit width (groups ++ group ∷ [])
AllFit_push width [] group fit small = (small, tt)
AllFit_push width (first ∷ groups) group fit small = (fit.0, AllFit_push width groups group fit.1 small)

pub group_at : {R : Type 0} (groups : List (Vec (Vec R))) (k : ℕ) (d : Vec (Vec R)) → k < length groups → slice_get (groups_of groups) k ≡ Some (growths_of (get_or groups k d).items)
group_at [] k d lt = absurd (omega arith)
group_at (group ∷ groups) zero d lt = refl
group_at (group ∷ groups) (suc k) d lt = group_at groups k d (omega arith)

pub growth_got : {R : Type 0} (growths : List (Vec R)) (k : ℕ) (d : Vec R) → k < length growths
    → slice_get (growths_of growths) k ≡ Some (get_or growths k d).items
growth_got [] k d lt = absurd (omega arith)
growth_got (growth ∷ growths) zero d lt = refl
growth_got (growth ∷ growths) (suc k) d lt = growth_got growths k d (omega arith)
