-- A file that is made, by the pen that goes on with it.
use Rattle.std.proofs.Common.{◌≡◌, List, sym, subst}
use Rattle.disk_core.specs.State.{State}
use Rattle.segment_core.specs.declared.format.Shape.{Shape}
use Rattle.pen_core.specs.PenOf.{PenOf}
use Rattle.pen_core.specs.Births.{StaysUnbornOrEmpty}

pub born_over : {D : Type 0} (keeps : D → Type 0) (states : D → List State) (shape : Shape) (before first : List State) (made pen : PenOf D) → before ≡ first → made.shape ≡ shape
    → pen ≡ made → (keeps made.disk → StaysUnbornOrEmpty shape before (states made.disk)) → keeps pen.disk → StaysUnbornOrEmpty pen.shape first (states pen.disk)
born_over keeps states shape before first made pen host shaped same born =
    subst (λ p. keeps p.disk → StaysUnbornOrEmpty p.shape first (states p.disk)) (sym same)
    (λ model. subst (λ s. StaysUnbornOrEmpty s first (states made.disk)) (sym shaped) (subst (λ old. StaysUnbornOrEmpty shape old (states made.disk)) host (born model)))
