-- The frames that are begun, from the tests of a begin.
use Rattle.std.proofs.Common.{◌≡◌, ℕ, ◌+◌, ◌^◌, ◌≤◌, ◌<◌, Bool, false, List, Option, Some, None, refl, sym, subst, ◌∙◌, arith}
use Rattle.std.specs.Prelude.{nat_le, MatchOption}
use Rattle.std.specs.Option.{is_some}
use Rattle.std.proofs.lemmas.Bool.{le-ltb, leb-false}
use Rattle.segment_core.specs.declared.format.Format.{Format}
use Rattle.segment_core.specs.declared.format.Format.TheVariants.{One, Two}
use Rattle.segment_core.specs.declared.format.Shape.{Shape}
use Rattle.segment_core.specs.declared.tally.Tally.{Tally}
use Rattle.segment_core.specs.Shape.{limit_of}
use Rattle.segment_core.specs.Frame.{Shrink}
use Rattle.segment_core.specs.Layout.{IsFrame}
use Rattle.segment_core.specs.Tally.{MayFollow}
use Rattle.disk_core.specs.State.{State}
use Rattle.pen_core.specs.declared.pen.Pen.TheInside.{Inside}
use Rattle.pen_core.specs.Fields.{seen_as}
use Rattle.pen_core.specs.PenOf.{PenOf}
use Rattle.pen_core.specs.Refusals.{first_refusal, IsRefusal}
use Rattle.pen_core.specs.declared.fault.PenFault.{PenFault}
use Rattle.pen_core.specs.declared.fault.PenFault.TheVariants.{Memory}
use Rattle.pen_core.specs.declared.step.PenStep.{PenStep}
use Rattle.pen_core.specs.Inside.{job_of}

pub no_step : (shape : Shape) (bytes : List ℕ) (o : Option PenStep) → is_some (job_of shape bytes o) ≡ false → o ≡ None
no_step shape bytes None is = refl
no_step shape bytes (Some step) is = absurd cc

-- the first test that holds refuses
pub first_refuses : (lines : List (Bool × PenFault)) (fault : PenFault) → first_refusal lines ≡ Some fault → IsRefusal lines fault
first_refuses lines fault is = subst (λ first. MatchOption first (fault ≡ Memory) (λ told. fault ≡ told)) (sym is) refl

-- memory is refused where none of them holds
pub memory_refuses : (lines : List (Bool × PenFault)) → first_refusal lines ≡ None → IsRefusal lines Memory
memory_refuses lines none = subst (λ first. MatchOption first (Memory ≡ Memory) (λ told. Memory ≡ told)) (sym none) refl

-- no job is in hand, as it is seen
pub idle_seen : {D : Type 0} (states : D → List State) (pen : Inside D) {value : PenOf D}
    → seen_as states pen ≡ value → is_some value.job ≡ false → pen.step ≡ None
idle_seen states pen is none = no_step pen.shape pen.bytes.items pen.step (subst (λ v. is_some v.job ≡ false) (sym is) none)

-- the bytes tell nothing then
pub no_job_same : (shape : Shape) (bytes bytes' : List ℕ) (o : Option PenStep) → o ≡ None → job_of shape bytes' o ≡ job_of shape bytes o
no_job_same shape bytes bytes' o idle = subst (λ s. job_of shape bytes' s ≡ job_of shape bytes s) (sym idle) refl

-- a frame that doesn't fill the file, nor does a fold's behind it
pub all_fits : (full : Bool) (gate payload fold : ℕ) → full ≡ nat_le (2 ^ 48) (gate + (6 + payload) + fold) → full ≡ false
    → gate + (6 + payload) + fold < 2 ^ 48
all_fits full gate payload fold is no_room = leb-false (2 ^ 48) (gate + (6 + payload) + fold) (sym is ∙ no_room)

-- a frame that doesn't fill the file
pub not_full : (full : Bool) (gate payload fold : ℕ) → full ≡ nat_le (2 ^ 48) (gate + (6 + payload) + fold) → full ≡ false
    → gate + (6 + payload) < 2 ^ 48
not_full full gate payload fold is no_room = let below = leb-false (2 ^ 48) (gate + (6 + payload) + fold) (sym is ∙ no_room) in omega arith

some_limit : (format : Format) → 8 ≤ limit_of format
some_limit One = omega arith
some_limit Two = omega arith

-- ---- a shrink

pub shrink_framed : (shape : Shape) (n : ℕ) → 1 ≤ shape.width → n < 2 ^ 64 → IsFrame shape (Shrink n)
shrink_framed shape n wide fits = record { wide = omega arith; small = some_limit shape.format; layout = fits }

pub shrink_follows : (tally : Tally) (n : ℕ) → n ≤ tally.size → tally.changes ≤ tally.folded → MayFollow tally (Shrink n)
shrink_follows tally n inside folded =
    record {
      ordered = refl;
      inside = le-ltb tally.size n inside;
      folded = le-ltb tally.folded tally.changes folded;
      counted = refl;
      short = refl;
    }
