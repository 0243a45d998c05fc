-- Rows of records of one width, runs that are at home, and writes that are laid one behind another.
use Rattle.std.proofs.Common.{◌≡◌, ℕ, zero, suc, ◌+◌, ◌-◌, ◌*◌, ◌≤◌, ◌<◌, List, [], ◌∷◌, ◌++◌, length, take, drop, get_or, Some, All, refl, sym, ap, ◌∙◌, arith, inl, inr}
use Rattle.std.specs.Prelude.{◌⊎◌}
use Rattle.std.specs.List.{flat_map, AllByRecursion}
use Rattle.std.proofs.lemmas.Bool.{cases_lt}
use Rattle.std.proofs.lemmas.List.{length-append, length-drop, length-take-le, get_or-take, get_or-drop, get_or_append_left, get_or-append-add}
use Rattle.std.proofs.lemmas.List.Elements.{All-nil, All-cons, All-head, All-tail, All-take, All-drop}
use Rattle.disk_core.specs.State.{overlay}
use Rattle.disk_core.proofs.ImageLemmas.{length-overlay, get_or-overlay}
use Rattle.segment_core.specs.declared.format.Shape.{Shape}
use Rattle.segment_core.specs.declared.found.Home.{Home}
use Rattle.segment_core.specs.Frame.{Frame}
use Rattle.segment_core.specs.Tally.{tally_of}
use Rattle.segment_core.specs.Vector.{home_of}
use Rattle.segment_core.specs.Found.{home_among}
use Rattle.segment_core.specs.Raw.{raw}
use Rattle.pen_core.specs.Folds.{laid}
use Rattle.pen_core.specs.HomeRuns.{IsHomeRun, AreAscending}
use Rattle.pen_core.specs.PenOf.{HomeWrite}
use Rattle.pen_core.specs.Values.{bytes_at}
use Rattle.pen_core.proofs.WritesFor.{ascending-inside}

-- ---- records of one width behind one another

abbrev pub HasWidth : ℕ → List ℕ → Type 0
HasWidth width cell = length cell ≡ width

abbrev pub joined_cells : List (List ℕ) → List ℕ
joined_cells cells = flat_map (λ cell. cell) cells

pub length-joined_cells : (width : ℕ) (cells : List (List ℕ)) → All (HasWidth width) cells → length (joined_cells cells) ≡ length cells * width
length-joined_cells width [] wide = omega arith
length-joined_cells width (cell ∷ cells) wide =
    let first = All-head (HasWidth width) cell cells wide in
    let rest = length-joined_cells width cells (All-tail (HasWidth width) cell cells wide) in
    let more : width + length cells * width ≡ suc (length cells) * width = omega arith in
    omega (arith, length-append cell (joined_cells cells))

pub get_or-joined_cells : (width : ℕ) (cells : List (List ℕ)) (k m : ℕ) → All (HasWidth width) cells → k < length cells
    → m < width → get_or (joined_cells cells) (k * width + m) 0 ≡ get_or (get_or cells k []) m 0
get_or-joined_cells width [] k m wide lt inside = absurd (omega arith)
get_or-joined_cells width (cell ∷ cells) zero m wide lt inside =
    let first = All-head (HasWidth width) cell cells wide in
    let here : 0 * width + m ≡ m = omega arith in
    ap (λ n. get_or (cell ++ joined_cells cells) n 0) here ∙ get_or_append_left cell (joined_cells cells) 0 m (omega arith)
get_or-joined_cells width (cell ∷ cells) (suc k) m wide lt inside =
    let first = All-head (HasWidth width) cell cells wide in
    let more : width + k * width ≡ suc k * width = omega arith in
    let here : suc k * width + m ≡ length cell + (k * width + m) = omega arith in
    ap (λ n. get_or (cell ++ joined_cells cells) n 0) here ∙ get_or-append-add cell (joined_cells cells) (k * width + m) 0
    ∙ get_or-joined_cells width cells k m (All-tail (HasWidth width) cell cells wide) (omega arith) inside

pub length-bytes_at : (width : ℕ) (cells : List (List ℕ)) (from count : ℕ) → All (HasWidth width) cells
    → from + count ≤ length cells → length (bytes_at (raw width) cells from count) ≡ count * width
length-bytes_at width cells from count wide inside =
    length-joined_cells width (take count (drop from cells)) (All-take (HasWidth width) count (drop from cells) (All-drop (HasWidth width) from cells wide))
    ∙ ap (λ n. n * width) (length-take-le count (drop from cells) (omega (arith, length-drop from cells)))

pub get_or-bytes_at : (width : ℕ) (cells : List (List ℕ)) (from count i m : ℕ) → All (HasWidth width) cells
    → from + count ≤ length cells → from ≤ i → i < from + count → m < width
    → get_or (bytes_at (raw width) cells from count) ((i - from) * width + m) 0 ≡ get_or (get_or cells i []) m 0
get_or-bytes_at width cells from count i m wide inside le lt small =
    let part : List (List ℕ) = take count (drop from cells) in
    let here : from + (i - from) ≡ i = omega arith in
    get_or-joined_cells width part (i - from) m
    (All-take (HasWidth width) count (drop from cells) (All-drop (HasWidth width) from cells wide))
    (omega (arith, length-take-le count (drop from cells) (omega (arith, length-drop from cells)))) small
    ∙ ap (λ cell. get_or cell m 0)
    (get_or-take count (drop from cells) (i - from) [] (omega arith) ∙ get_or-drop from cells (i - from) []
    ∙ ap (λ n. get_or cells n []) here)

-- ---- rows of one width

pub record IsInRow (place width count j : ℕ) : Type 0 where
  pub row : ℕ
  pub inside : row < count
  pub from : place + row * width ≤ j
  pub before : j < place + row * width + width

pub row_of : (place width count j : ℕ) → place ≤ j → j < place + count * width → IsInRow place width count j
row_of place width zero j from before = absurd (omega arith)
row_of place width (suc count) j from before = elim (cases_lt j (place + count * width)) [
  | inl first ↦ (let r = row_of place width count j from first in record { row = r.row; inside = omega (arith, r.inside); from = r.from; before = r.before })
  | inr
      last ↦ (let more : width + count * width ≡ suc count * width = omega arith in
      record { row = count; inside = omega arith; from = last; before = omega arith })
]

-- ---- runs that are at home

-- the homes say where each position's home bytes begin
abbrev pub SaysHomes : Shape → List Frame → List Home → Type 0
SaysHomes shape frames homes = (i : ℕ) → i < (tally_of frames).size → home_among shape.width homes i ≡ home_of shape frames i

pub record IsAtHome (shape : Shape) (frames : List Frame) (run : Home) : Type 0 where
  pub some : 0 < run.count
  pub inside : run.position + run.count ≤ (tally_of frames).size
  pub adjacent : (i : ℕ) → run.position ≤ i → i < run.position + run.count
      → home_of shape frames i ≡ Some (run.place + (i - run.position) * shape.width)

pub all_at_home : (shape : Shape) (frames : List Frame) (homes : List Home) (from : ℕ) (runs : List Home)
    → SaysHomes shape frames homes → AreAscending from (tally_of frames).size runs
    → All (IsHomeRun shape.width (home_among shape.width homes)) runs → AllByRecursion (IsAtHome shape frames) runs
all_at_home shape frames homes from [] are ascend each = tt
all_at_home shape frames homes from (run ∷ runs) are ascend each =
    let first = All-head (IsHomeRun shape.width (home_among shape.width homes)) run runs each in
    let end = ascending-inside (run.position + run.count) (tally_of frames).size runs ascend.1 in (
      record { some = first.some; inside = end; adjacent = λ i le lt. sym (are i (omega arith)) ∙ first.adjacent i le lt },
      all_at_home shape frames homes (run.position + run.count) runs are ascend.1
          (All-tail (IsHomeRun shape.width (home_among shape.width homes)) run runs each),
    )

pub home_runs_of : (shape : Shape) (frames : List Frame) (homes : List Home) (from : ℕ) (runs : List Home)
    → SaysHomes shape frames homes → AreAscending from (tally_of frames).size runs
    → All (IsHomeRun shape.width (home_among shape.width homes)) runs
    → All (IsHomeRun shape.width (home_of shape frames)) runs
home_runs_of shape frames homes from [] says ascend each = All-nil (IsHomeRun shape.width (home_of shape frames))
home_runs_of shape frames homes from (run ∷ runs) says ascend each =
    let first = All-head (IsHomeRun shape.width (home_among shape.width homes)) run runs each in
    let end = ascending-inside (run.position + run.count) (tally_of frames).size runs ascend.1 in
    All-cons (IsHomeRun shape.width (home_of shape frames)) run runs
    (record { some = first.some; few = first.few; adjacent = λ i le lt. sym (says i (omega arith)) ∙ first.adjacent i le lt })
    (home_runs_of shape frames homes (run.position + run.count) runs says ascend.1
    (All-tail (IsHomeRun shape.width (home_among shape.width homes)) run runs each))

-- ---- writes laid

abbrev pub EndsAt : ℕ → HomeWrite → Type 0
EndsAt n write = write.place + length write.bytes ≤ n

-- a write of some bytes, below the gate
pub record HasPlace (gate : ℕ) (write : HomeWrite) : Type 0 where
  pub some : 0 < length write.bytes
  pub below : write.place + length write.bytes ≤ gate

abbrev pub Misses : ℕ → HomeWrite → Type 0
Misses j write = (j < write.place) ⊎ (write.place + length write.bytes ≤ j)

pub laid_kept : (n j : ℕ) (writes : List HomeWrite) (bytes : List ℕ) → AllByRecursion (EndsAt n) writes
    → AllByRecursion (Misses j) writes → n ≤ length bytes → j < n → get_or (laid writes bytes) j 0 ≡ get_or bytes j 0
laid_kept n j [] bytes ends misses long lt = refl
laid_kept n j (write ∷ writes) bytes ends misses long lt =
    let fits = ends.0 in
    laid_kept n j writes (overlay bytes write.place write.bytes) ends.1 misses.1 (omega (arith, length-overlay bytes write.place write.bytes (omega arith))) lt
    ∙ get_or-overlay bytes write.place write.bytes j (omega arith) (omega arith) misses.0

pub laid_long : (n : ℕ) (writes : List HomeWrite) (bytes : List ℕ) → AllByRecursion (EndsAt n) writes → n ≤ length bytes
    → n ≤ length (laid writes bytes)
laid_long n [] bytes ends long = long
laid_long n (write ∷ writes) bytes ends long =
    let fits = ends.0 in
    laid_long n writes (overlay bytes write.place write.bytes) ends.1 (omega (arith, length-overlay bytes write.place write.bytes (omega arith)))
