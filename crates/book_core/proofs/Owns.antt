-- Which growths of a list bear an id.
use Rattle.std.proofs.Common.{◌≡◌, ℕ, zero, suc, ◌+◌, ◌≤◌, ◌⊎◌, inl, inr, subst, List, [], ◌∷◌, ◌++◌, length, take, get_or, slice_get, Some, None, Option, option_to_list, IfSome, MatchOption, Bool, refl, ap, sym, ◌∙◌, arith}
use Rattle.std.specs.Prelude.{◌==◌, cond}
use Rattle.std.proofs.lemmas.Bool.{eq-eqb, ne_eqb}
use Rattle.std.proofs.lemmas.List.{take-take, take_all, append-nil, length-append}
use Rattle.std.proofs.lemmas.List.Concat.{length-flat_map}
use Rattle.std.proofs.lemmas.List.Elements.{filter-append, filter_more}
use Rattle.std.proofs.lemmas.Option.{slice_get_within, get_or_from_slice_get}
use Rattle.block_core.specs.Growth.{Growth}
use Rattle.directory_core.specs.Chain.{total, grown_records, IsPrefix}
use Rattle.directory_core.specs.Identity.{Identity}
use Rattle.book_core.specs.Marks.{MarkName, MarkEnd}
use Rattle.book_core.specs.Lists.{Phase, Seated, IsSeatOf, own_of}
use Rattle.book_core.specs.Beginning.{IsNewSeat, AreNewSeats}

-- a list that begins another has its first elements
pub take-begins : {X : Type 0} (xs ys : List X) (n : ℕ) → IsPrefix xs ys → n ≤ length xs → take n ys ≡ take n xs
take-begins xs ys n begins le = sym (take-take n (length xs) ys le) ∙ ap (λ (zs : List _). take n zs) begins

-- a growth that bears the id is one more
pub own_of-push : {R : Type 0} (id : ℕ) (es : List (Growth R)) (e : Growth R) → e.seat ≡ id → own_of id (es ++ e ∷ []) ≡ own_of id es ++ e ∷ []
own_of-push id es e is =
    filter-append (λ (f : Growth _). f.seat == id) es (e ∷ [])
    ∙ ap (λ (b : Bool). own_of id es ++ cond b (e ∷ []) []) (eq-eqb e.seat id is)

-- a growth of another is none more
pub own_of-skip : {R : Type 0} (id n : ℕ) (es : List (Growth R)) (e : Growth R) → slice_get es n ≡ Some e → (e.seat ≡ id → ⊥) → own_of id (take (n + 1) es) ≡ own_of id (take n es)
own_of-skip id n es e is other =
    let here : get_or es n e ≡ e = get_or_from_slice_get es n e e is in
    filter_more (λ (f : Growth _). f.seat == id) es n e (slice_get_within es n e is)
    ∙ (ap (λ (f : Growth _). own_of id (take n es) ++ cond (f.seat == id) (f ∷ []) []) here
    ∙ (ap (λ (b : Bool). own_of id (take n es) ++ cond b (e ∷ []) []) (ne_eqb e.seat id other) ∙ append-nil (own_of id (take n es))))

pub own_of-all : {R : Type 0} (id n : ℕ) (es : List (Growth R)) → length es ≤ n → own_of id (take n es) ≡ own_of id es
own_of-all id n es le = ap (own_of id) (take_all n es le)

-- what stands in a list that grew by one
pub push_get : {X : Type 0} (xs : List X) (x : X) (k : ℕ) (y : X) → slice_get (xs ++ x ∷ []) k ≡ Some y → (slice_get xs k ≡ Some y) ⊎ ((k ≡ length xs) × (x ≡ y))
push_get [] x zero y is = inr (refl, grind arith)
push_get [] x (suc k) y is = grind arith
push_get (z ∷ xs) x zero y is = inl is
push_get (z ∷ xs) x (suc k) y is = elim (push_get xs x k y is) [ inl before ↦ inl before | inr last ↦ let at = last.0 in inr (omega arith, last.1) ]

-- one more new seat
pub seats-push : {R : Type 0} (directory : Identity) (mark : MarkName) (seats : List (Seated R)) (seat : Seated R) → AreNewSeats directory mark seats
    → IsNewSeat directory mark (length seats) seat → AreNewSeats directory mark (seats ++ seat ∷ [])
seats-push {R} directory mark seats seat all new k s is =
    elim (push_get seats seat k s is) [
      | inl before ↦ all k s before
      | inr last ↦ subst (λ (x : ℕ × Seated R). IsNewSeat directory mark x.0 x.1) (λ i. (sym last.0 i, last.1 i)) new
    ]

pub length-list : {R : Type 0} (opening : List R) (es : List (Growth R)) → length (opening ++ grown_records es) ≡ length opening + total es
length-list opening es = length-append opening (grown_records es) ∙ ap (λ (n : ℕ). length opening + n) (length-flat_map (λ (e : Growth _). e.records) es)

get-push : {X : Type 0} (xs : List X) (x : X) (k : ℕ) (y : X) → slice_get xs k ≡ Some y → slice_get (xs ++ x ∷ []) k ≡ Some y
get-push [] x k y is = grind arith
get-push (z ∷ xs) x zero y is = is
get-push (z ∷ xs) x (suc k) y is = get-push xs x k y is

get-last : {X : Type 0} (xs : List X) (x : X) → slice_get (xs ++ x ∷ []) (length xs) ≡ Some x
get-last [] x = refl
get-last (z ∷ xs) x = get-last xs x

-- the last of new seats is new, and so are the others
pub seats-pop : {R : Type 0} (directory : Identity) (mark : MarkName) (seats rest : List (Seated R)) (last : Option (Seated R))
    → AreNewSeats directory mark seats → seats ≡ rest ++ option_to_list last
    → AreNewSeats directory mark rest × IfSome last (λ seat. IsNewSeat directory mark (length rest) seat)
seats-pop directory mark seats rest None all is = (λ k s at. all k s (ap (λ (xs : List _). slice_get xs k) (is ∙ append-nil rest) ∙ at), tt)
seats-pop directory mark seats rest (Some seat) all is = (
  λ k s at. all k s (ap (λ (xs : List _). slice_get xs k) is ∙ get-push rest seat k s at),
  all (length rest) seat (ap (λ (xs : List _). slice_get xs (length rest)) is ∙ get-last rest seat),
)

-- a new seat is of its book
pub new-is_of : {R : Type 0} (live : Phase R) (id : ℕ) (last : Option (Seated R)) → IfSome last (λ seat. IsNewSeat live.directory live.mark id seat) → IfSome last (λ seat. IsSeatOf live seat)
new-is_of live id None new = tt
new-is_of live id (Some seat) new = record { directory = new.of; mark = ap (λ (m : MarkEnd). m.of) new.marked }

-- a last one there is but of an empty row
pub last_or_none : {X : Type 0} (last : Option X) (len left many : ℕ) (P Q : X → Type 0) → MatchOption last ((len ≡ 0) × (left ≡ 0)) Q → IfSome last P
    → many ≡ len → MatchOption last (many ≡ 0) P
last_or_none None len left many P Q none is same = same ∙ none.0
last_or_none (Some x) len left many P Q left_is is same = is
