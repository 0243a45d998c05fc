-- What a mark tells, and what its ends were told.
use Rattle.std.specs.Prelude.{◌≡◌, ℕ, ◌+◌, ◌*◌, ◌≤◌, ◌⊎◌, List, [], ◌∷◌, true, false}
use mathlib.Core.Option.{some}
use lib.ListN.{get_elem?}
use Rattle.atomic_table.specs.Table.{State, Me}
use Rattle.atomic_table.specs.Seated.{TableId}
use Rattle.book_core.specs.declared.mark.MarkState.{MarkState}
use Rattle.book_core.specs.declared.mark.MarkState.TheVariants.{Running, Ended, Broken}
use Rattle.book_core.specs.declared.mark.Raise.{Raise}
use Rattle.book_core.specs.declared.mark.Reading.{Reading}
use Rattle.book_core.specs.declared.mark.View.{View}

-- ---- what a mark tells

-- no growth is settled, and more may be
abbrev pub nothing_told : Reading
nothing_told = record { count = 0; state = Running }

-- the mark doesn't run any more
abbrev pub IsOver : MarkState → Type 0
IsOver Running = ⊥
IsOver Ended = Unit {0}
IsOver Broken = Unit {0}

-- the count doesn't fall, and what is over doesn't run again
pub record Rises (before after : Reading) : Type 0 where
  pub count : before.count ≤ after.count
  pub state : IsOver before.state → IsOver after.state

-- the number of a state
abbrev pub code : MarkState → ℕ
code Running = 0
code Ended = 1
code Broken = 2

-- the one word that tells both
abbrev pub word_of : Reading → ℕ
word_of told = 4 * told.count + code told.state

-- ---- its raises, the newest first

-- this is one of them
abbrev pub IsRaiseOf : List Raise → Raise → Type 0
IsRaiseOf [] raise = ⊥
IsRaiseOf (newest ∷ earlier) raise = (newest ≡ raise) ⊎ IsRaiseOf earlier raise

-- each of the others is one of these
abbrev pub HasAllRaises : List Raise → List Raise → Type 0
HasAllRaises raises others = (raise : Raise) → IsRaiseOf others raise → IsRaiseOf raises raise

-- how many growths the newest of them told as settled, none without one
abbrev pub raised_to : List Raise → ℕ
raised_to [] = 0
raised_to (newest ∷ earlier) = newest.count

-- ---- what contracts see of its ends

-- a name that no two marks share. No clause that another crate can use looks inside
pub record MarkName : Type 0 where
  pub table : TableId

-- which mark it is an end of, what it was told last, and the raises that it has seen
pub record MarkEnd : Type 0 where
  pub of : MarkName
  pub told : Reading
  pub raises : List Raise

-- ---- the rule of the word and of the views of all ends

abbrev pub writer : Reading → List Raise → View
writer told raises = record { writes = true; told = told; raises = raises; claim = nothing_told; claimed = [] }

abbrev pub reader : Reading → List Raise → View
reader told raises = record { writes = false; told = told; raises = raises; claim = nothing_told; claimed = [] }

-- what is left of a view that was taken in
abbrev pub nobody : View
nobody = reader nothing_told []

-- the first view, with the claim that the second was told this and has seen these raises
abbrev pub shown : View → View → View
shown v w = record { writes = v.writes; told = v.told; raises = v.raises; claim = w.told; claimed = w.raises }

-- one seat writes, was told what the mark tells, and has seen its raises; nobody was told more, or has seen others
pub record Fits (seat : ℕ) (mark : Reading) (raises : List Raise) (by : ℕ) (v : View) : Type 0 where
  pub one_writes : v.writes ≡ true → (by ≡ seat) × (v.told ≡ mark) × (v.raises ≡ raises)
  pub no_more : Rises v.told mark
  pub no_claim : Rises v.claim mark
  pub seen : HasAllRaises raises v.raises
  pub claimed : HasAllRaises raises v.claimed

-- the word tells what the newest raise told, and each view fits
pub record Kept {S : Type 0} (s : State S View) : Type 0 where
  pub seat : ℕ
  pub mark : Reading
  pub raises : List Raise
  pub raised : raised_to raises ≡ mark.count
  pub word : s.words ≡ word_of mark ∷ []
  pub views : (by : ℕ) (v : View) → get_elem? s.views by ≡ some v → Fits seat mark raises by v

-- ---- what each step tells

-- the writer tells this from now on, behind these raises
abbrev pub Stored : {S : Type 0} → Reading → List Raise → Me S View → Type 0
Stored told raises after = (after.0 ≡ writer told raises) × (after.1 ≡ [])

-- what was found is what the end was told now, and it rose; it has seen all raises, and the newest was to that
pub record Loaded {S : Type 0} (before : Me S View) (found : ℕ) (after : Me S View) : Type 0 where
  pub found_is : found ≡ word_of after.0.told
  pub rises : Rises before.0.told after.0.told
  pub raised : raised_to after.0.raises ≡ after.0.told.count
  pub seen : HasAllRaises after.0.raises before.0.raises
  pub nothing_held : after.1 ≡ before.1

-- the writer finds that what was claimed rises to what it tells, and that the raises claimed are its own
pub record Checked {S : Type 0} (before after : Me S View) : Type 0 where
  pub same : (after.0 ≡ writer before.0.told before.0.raises) × (after.1 ≡ before.1)
  pub rises : Rises before.0.claim before.0.told
  pub seen : HasAllRaises before.0.raises before.0.claimed
