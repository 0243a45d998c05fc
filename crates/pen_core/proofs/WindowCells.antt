-- Cells of a window over part of which others are written.
use Rattle.std.proofs.Common.{◌≡◌, ℕ, ◌+◌, ◌-◌, ◌*◌, ◌≤◌, ◌<◌, inl, inr, List, [], ◌∷◌, ◌++◌, length, take, drop, get_or, Option, Some, None, refl, sym, ap, subst, ◌∙◌, arith}
use Rattle.std.specs.Prelude.{min, max, slice_range, MatchOption}
use Rattle.std.specs.Option.{option_or, option_and_then}
use Rattle.std.proofs.lemmas.Bool.{cases_lt}
use Rattle.std.proofs.lemmas.List.{drop-take, drop-drop, drop_at, take-take, take_more, length-take-le, length-drop}
use Rattle.std.proofs.lemmas.Nat.{mul-le}
use Rattle.std.proofs.lemmas.Slice.{take-put_mid_below, drop-put_mid}
use borrow.Rule.Slice.PartMut.{put_mid, post_of}
use Rattle.record_core.specs.Cells.{cell}
use Rattle.segment_core.specs.declared.found.Home.{Home}
use Rattle.segment_core.specs.declared.format.Shape.{Shape}
use Rattle.segment_core.specs.Frame.{Frame}
use Rattle.segment_core.specs.Tally.{tally_of}
use Rattle.segment_core.specs.Raw.{raw}
use Rattle.segment_core.specs.Vector.{place_among, place_of, record_in, HasVector}
use Rattle.segment_core.specs.Found.{home_among}
use Rattle.segment_core.proofs.FoundKept.{take_inside}
use Rattle.segment_core.proofs.PlacesInside.{home_among-append}
use Rattle.segment_core.proofs.RawVector.{has_place}
use Rattle.segment_core.proofs.FoundHomes.{home_among_push}
use Rattle.segment_core.proofs.PlaceAmong.{place_among_inside, place_among_below, place_among_past}
use Rattle.pen_core.specs.Window.{AreLaidOver, AreCellsFrom}

-- ---- bytes of a list of which a part was written

module _ (a k w : ℕ) (xs ys : List ℕ) (inside : a ≤ length xs) (long : length ys ≡ k) where
  before_part : (q : ℕ) → q + w ≤ a → take w (drop q (put_mid a k xs ys)) ≡ take w (drop q xs)
  before_part q le = sym (drop-take q w (put_mid a k xs ys)) ∙ ap (drop q) (take-put_mid_below a k xs ys (q + w) le inside) ∙ drop-take q w xs

  behind_part : (q : ℕ) → a + k ≤ q → take w (drop q (put_mid a k xs ys)) ≡ take w (drop q xs)
  behind_part q le = ap (take w) (drop-put_mid a k xs ys q le inside long)

  in_part : (j : ℕ) → j + w ≤ length ys → take w (drop (a + j) (put_mid a k xs ys)) ≡ take w (drop j ys)
  in_part j le =
      ap (take w) (sym (drop-drop j a (put_mid a k xs ys)) ∙ ap (drop j) (drop_at (take a xs) (ys ++ post_of a k xs) a (length-take-le a xs inside)))
      ∙ take_inside w j ys (post_of a k xs) le

-- bytes of what was read
in_read : (w at m j : ℕ) (bytes : List ℕ) → j + w ≤ m → take w (drop j (take m (drop at bytes))) ≡ take w (drop (at + j) bytes)
in_read w at m j bytes le =
    sym (drop-take j w (take m (drop at bytes)))
    ∙ ap (drop j) (take-take (j + w) m (drop at bytes) le)
    ∙ drop-take j w (drop at bytes) ∙ ap (take w) (drop-drop j at bytes)

-- ---- one home

-- which part of the window a home has
pub record IsClipped (home : Home) (from count first last : ℕ) : Type 0 where
  pub first_is : first ≡ max home.position from
  pub last_is : last ≡ min (home.position + home.count) (from + count)
  pub some : first < last

module _ (w from count first last : ℕ) (home : Home) (bytes old mid : List ℕ) (clipped : IsClipped home from count first last)
    (filled : length old ≡ count * w) where
  abbrev a : ℕ
  a = (first - from) * w

  abbrev k : ℕ
  k = (last - from) * w - (first - from) * w

  abbrev at : ℕ
  at = home.place + (first - home.position) * w

  -- its bytes
  size : k ≡ (last - first) * w
  size =
      let some = clipped.some in
      let low = clipped.first_is in
      let parts : last - from ≡ (first - from) + (last - first) = omega arith in
      let split : ((first - from) + (last - first)) * w ≡ (first - from) * w + (last - first) * w = omega arith in
      let all = ap (λ n. n * w) parts ∙ split in
      omega arith

  fits : a + k ≤ length old
  fits =
      let some = clipped.some in
      let high = clipped.last_is in
      let low = clipped.first_is in
      let most : (last - from) * w ≤ count * w = mul-le (last - from) w count w (omega arith) (omega arith) in
      let first_most : (first - from) * w ≤ (last - from) * w = mul-le (first - from) w (last - from) w (omega arith) (omega arith) in
      omega arith

  pub part_size : length (take k (drop a old)) ≡ k
  part_size = let f = fits in length-take-le k (drop a old) (omega (arith, length-drop a old))

  -- inside what the home has
  pub part_ends : home.place + home.count * w ≤ length bytes → at + k ≤ length bytes
  part_ends ends =
      let some = clipped.some in
      let high = clipped.last_is in
      let low = clipped.first_is in
      let s = size in
      let split : ((first - home.position) + (last - first)) * w ≡ (first - home.position) * w + (last - first) * w = omega arith in
      let parts : (first - home.position) + (last - first) ≡ last - home.position = omega arith in
      let sum = ap (λ n. n * w) parts in
      let most : (last - home.position) * w ≤ home.count * w = mul-le (last - home.position) w home.count w (omega arith) (omega arith) in
      omega arith

  pub laid_part : length mid ≡ k → mid ≡ slice_range bytes at (at + k) → AreLaidOver w from count bytes (place_among w home.place home.position home.count) old (put_mid a k old mid)
  laid_part long read i lt =
      let f = fits in
      let some = clipped.some in
      let high = clipped.last_is in
      let low = clipped.first_is in
      let next : i * w + w ≡ (i + 1) * w = omega arith in
      elim (cases_lt (from + i) first) [
        | inl below ↦ (
            let le : (i + 1) * w ≤ (first - from) * w = mul-le (i + 1) w (first - from) w (omega arith) (omega arith) in
            none (from + i) i (place_among_below w home.place home.position home.count (from + i) (omega arith)) (before_part a k w old mid (omega arith) long (i * w) (omega arith)))
        | inr from_first ↦ elim (cases_lt (from + i) last) [
          | inr above ↦ (
              let le : (last - from) * w ≤ i * w = mul-le (last - from) w i w (omega arith) (omega arith) in
              let order : (first - from) * w ≤ (last - from) * w = mul-le (first - from) w (last - from) w (omega arith) (omega arith) in
              none (from + i) i (place_among_past w home.place home.position home.count (from + i) (omega arith)) (behind_part a k w old mid (omega arith) long (i * w) (omega arith)))
          | inl inside ↦ (
              let j : ℕ = from + i - first in
              let parts : i ≡ (first - from) + j = omega arith in
              let split : ((first - from) + j) * w ≡ (first - from) * w + j * w = omega arith in
              let q : i * w ≡ a + j * w = ap (λ n. n * w) parts ∙ split in
              let room : (j + 1) * w ≤ (last - first) * w = mul-le (j + 1) w (last - first) w (omega arith) (omega arith) in
              let one : j * w + w ≡ (j + 1) * w = omega arith in
              let s = size in
              let exact : at + k - at ≡ k = omega arith in
              let mid_is : mid ≡ take k (drop at bytes) = read ∙ ap (λ n. take n (drop at bytes)) exact in
              let here : from + i - home.position ≡ (first - home.position) + j = omega arith in
              let split_here : ((first - home.position) + j) * w ≡ (first - home.position) * w + j * w = omega arith in
              let place : home.place + (from + i - home.position) * w ≡ at + j * w = ap (λ n. home.place + n * w) here ∙ omega arith in
              some_place (from + i) i (home.place + (from + i - home.position) * w) (place_among_inside w home.place home.position home.count (from + i) (omega arith) (omega arith))
              (ap (λ n. take w (drop n (put_mid a k old mid))) q
              ∙ in_part a k w old mid (omega arith) long (j * w) (omega arith)
              ∙ ap (λ (bs : List ℕ). take w (drop (j * w) bs)) mid_is
              ∙ in_read w at k (j * w) bytes (omega arith)
              ∙ ap (λ n. take w (drop n bytes)) (sym place)))
        ]
      ]
    where
      says : ℕ → Option ℕ
      says = place_among w home.place home.position home.count

      Held : ℕ → Option ℕ → Type 0
      Held i place = MatchOption place (cell w (put_mid a k old mid) i ≡ cell w old i) (λ q. cell w (put_mid a k old mid) i ≡ take w (drop q bytes))

      none : (p i : ℕ) → says p ≡ None → cell w (put_mid a k old mid) i ≡ cell w old i → Held i (says p)
      none p i is same = subst (Held i) (sym is) same

      some_place : (p i q : ℕ) → says p ≡ Some q → cell w (put_mid a k old mid) i ≡ take w (drop q bytes) → Held i (says p)
      some_place p i q is same = subst (Held i) (sym is) same

-- ---- homes, one after the other

-- what is said later is laid over what was
pub laid_both : (w from count : ℕ) (bytes : List ℕ) (first later says : ℕ → Option ℕ) (old mid new : List ℕ) → ((p : ℕ) → says p ≡ option_or (later p) (first p))
    → AreLaidOver w from count bytes first old mid → AreLaidOver w from count bytes later mid new → AreLaidOver w from count bytes says old new
laid_both w from count bytes first later says old mid new is was then i lt =
    subst (λ place. MatchOption place (cell w new i ≡ cell w old i) (λ q. cell w new i ≡ take w (drop q bytes))) (sym (is (from + i)))
    (by_place (later (from + i)) (first (from + i)) (was i lt) (then i lt))
  where
    by_place : (later first : Option ℕ) → MatchOption first (cell w mid i ≡ cell w old i) (λ q. cell w mid i ≡ take w (drop q bytes))
        → MatchOption later (cell w new i ≡ cell w mid i) (λ q. cell w new i ≡ take w (drop q bytes))
        → MatchOption (option_or later first) (cell w new i ≡ cell w old i) (λ q. cell w new i ≡ take w (drop q bytes))
    by_place (Some q) first was then = then
    by_place None None was then = then ∙ was
    by_place None (Some q) was then = then ∙ was

pub laid_none : (w from count : ℕ) (bytes old : List ℕ) → AreLaidOver w from count bytes (home_among w []) old old
laid_none w from count bytes old i lt = refl

-- one home more
pub laid_more : (w from count : ℕ) (bytes : List ℕ) (homes : List Home) (k : ℕ) (home : Home) (old mid new : List ℕ) → k < length homes → home ≡ get_or homes k home
    → AreLaidOver w from count bytes (home_among w (take k homes)) old mid
    → AreLaidOver w from count bytes (place_among w home.place home.position home.count) mid new
    → AreLaidOver w from count bytes (home_among w (take (k + 1) homes)) old new
laid_more w from count bytes homes k home old mid new lt is was then =
    laid_both w from count bytes (home_among w (take k homes)) (place_among w home.place home.position home.count) (home_among w (take (k + 1) homes)) old mid new
    (λ p. ap (λ (hs : List Home). home_among w hs p) (take_more homes k home lt ∙ ap (λ h. take k homes ++ h ∷ []) (sym is)) ∙ home_among_push w p (take k homes) home)
    was then

-- ---- the cells of the vector

pub cells_read : (shape : Shape) (bytes : List ℕ) (frames : List Frame) (cells : List (List ℕ)) (from count : ℕ) (homes live : List Home) (old mid new : List ℕ)
    → HasVector shape.format (raw shape.width) bytes frames cells → from + count ≤ (tally_of frames).size
    → ((i : ℕ) → i < (tally_of frames).size → home_among shape.width (homes ++ live) i ≡ place_of shape frames i)
    → AreLaidOver shape.width from count bytes (home_among shape.width homes) old mid → AreLaidOver shape.width from count bytes (home_among shape.width live) mid new
    → AreCellsFrom shape.width from count cells new
cells_read shape bytes frames cells from count homes live old mid new has inside are was then i lt =
    let w : ℕ = shape.width in
    let p : ℕ = from + i in
    let laid = laid_both w from count bytes (home_among w homes) (home_among w live) (λ p. option_or (home_among w live p) (home_among w homes p)) old mid new (λ p. refl) was then i lt in
    let told : option_or (home_among w live p) (home_among w homes p) ≡ place_of shape frames p = sym (home_among-append w p homes live) ∙ are p (omega arith) in
    let at = has_place shape frames p has.framed.legal (omega arith) in
    let size = has.read.size in
    let read : cell w new i ≡ take w (drop at.0 bytes)
    = subst (λ place. MatchOption place (cell w new i ≡ cell w old i) (λ q. cell w new i ≡ take w (drop q bytes))) (told ∙ at.1) laid in
    sym (has.read.each p (omega arith)) ∙ ap (option_and_then (record_in (raw w) bytes)) at.1 ∙ ap (λ (bs : List ℕ). Some bs) (sym read)
