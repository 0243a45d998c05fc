-- What a put that is refused leaves, and what is left of a file that a making finds.
use Rattle.std.proofs.Common.{◌≡◌, ℕ, inl, inr, List, [], ◌∷◌, length, Some, None, refl, ap, arith}
use Rattle.std.specs.Prelude.{replicate, slice_index}
use Rattle.disk_core.specs.State.{State, IsImage, settled}
use Rattle.disk_core.specs.Moments.{LeftSince}
use Rattle.disk_core.specs.declared.fault.DiskFault.TheVariants.{Write}
use Rattle.segment_core.specs.declared.format.Shape.{Shape}
use Rattle.pen_core.specs.declared.fault.PenFault.TheVariants as pen
use Rattle.pen_core.specs.Births.{IsExisting, WritesNothing}
use Rattle.book_core.specs.declared.fault.GrowFault.TheVariants as grow
use Rattle.book_core.specs.declared.seat.Receipt.{Receipt}
use Rattle.drive_core.specs.declared.fault.StepFault.TheVariants.{Grow}
use Rattle.drive_core.specs.Line.{Allows}
use Rattle.drive_core.specs.Outcome.{struck}
use Rattle.drive_core.specs.Step as step
use Rattle.drive_core.specs.World.{World}
use Rattle.drive_core.specs.OpeningRows.{AreCallsOfMaking, IsMaking}
use Rattle.drive_core.specs.GrowthRows.{IsPut, put_lines, put_answer, within, knowing, with_growth}
use Rattle.drive_core.proofs.WorkedSteps.{one, two, phase_of}

-- ---- a put of no record, where two growths were put and the seat knows one

-- the seat may know so many then
abbrev left_knowing : ℕ → World ℕ
left_knowing n = struck (within two (knowing (phase_of two.phase) (Some 0) n)) (Grow grow.Empty)

abbrev IsRefused : World ℕ → Type 0
IsRefused w = IsPut 8 two (phase_of two.phase) 0 [] (step.Refused (Grow grow.Empty)) w

learns_none : IsRefused (left_knowing 1)
learns_none = inr (Grow grow.Empty, refl, refl, (1, (omega arith, omega arith), refl))

learns_one : IsRefused (left_knowing 2)
learns_one = inr (Grow grow.Empty, refl, refl, (2, (omega arith, omega arith), refl))

abbrev knows : World ℕ → ℕ
knows w = slice_index (phase_of w.phase).known 0

-- none that was known is forgotten, and none is known that wasn't put
forgets : IsRefused (left_knowing 0) → ⊥
forgets refused = elim refused [
  | inl put ↦ (let is = put.0 in absurd cc)
  | inr why ↦ (let may = why.3.1 in let same = ap knows why.3.2 in omega arith)
]

foresees : IsRefused (left_knowing 3) → ⊥
foresees refused = elim refused [
  | inl put ↦ (let is = put.0 in absurd cc)
  | inr why ↦ (let may = why.3.1 in let same = ap knows why.3.2 in omega arith)
]

-- and nothing is put
puts : IsRefused (with_growth two (phase_of two.phase) 0 []) → ⊥
puts refused = elim refused [
  | inl put ↦ (let is = put.0 in absurd cc)
  | inr why ↦ (let same = ap (λ (w : World ℕ). length w.history) why.3.2 in omega arith)
]

-- ---- a put that is made: of one record, behind a growth of two

one_more : (receipt : Receipt) (w : World ℕ) → IsPut 8 one (phase_of one.phase) 1 (3 ∷ []) (step.Grown receipt) w → (w ≡ two) × (step.Grown receipt ≡ put_answer one (phase_of one.phase) 1 (3 ∷ []))
one_more receipt w put = elim put [
  | inl made ↦ (made.1.1, made.1.0)
  | inr why ↦ (let is = why.2 in absurd cc)
]

-- the seat's second growth has the serial 1
second_serial : put_answer two (phase_of two.phase) 0 (4 ∷ []) ≡ step.Grown (record { number = 2; start = 3; len = 1; seat = 0; serial = 1 })
second_serial = refl

-- one that no frame holds is refused
past_a_frame : (records : List ℕ) → length records ≡ 131072 → Allows (put_lines 8 two (phase_of two.phase) records) (Some (Grow grow.TooLarge))
past_a_frame records many = rw many refl

-- ---- a making makes each of its calls: eight on an empty disk

eight_calls : (n : ℕ) → AreCallsOfMaking [] None n → n ≡ 8
eight_calls n calls = calls

-- ---- a making over a file that exists

abbrev there : List ℕ
there = replicate 13 7

abbrev old : List State
old = settled there ∷ []

-- after a sync and a look at the length, and written over
abbrev looked : List State
looked = settled there ∷ settled there ∷ old

abbrev wiped : List State
wiped = settled [] ∷ old

is_there : IsExisting there
is_there = inl (omega arith)

looks : WritesNothing old looked
looks = record { bytes_same = refl; left_before = record { past = (settled there ∷ settled there ∷ [], refl); each = left; newest = λ image is. is } }
  where
    left : (image : List ℕ) → LeftSince looked 1 image → IsImage (settled there) image
    left image since = elim since.1 [
      | inl is ↦ is
      | inr second ↦ elim second.1 [
        | inl is ↦ is
        | inr first ↦ elim first.1 [ inl is ↦ is | inr none ↦ absurd none ]
      ]
    ]

module _ (shape : Shape) where
  found : IsMaking shape (Some pen.Exists) old looked
  found = record { existed = λ _. looks; born = λ none. absurd (none is_there); calls = inl (omega arith, (omega arith, refl)) }

  not_over : IsMaking shape (Some (pen.Disk Write)) old wiped → ⊥
  not_over made = omega (arith, ap length (made.existed is_there).bytes_same)
