-- Any calls leave moments that may have been: nothing is said of moments that there can't be.
use Rattle.std.proofs.Common.{◌≡◌, ℕ, zero, suc, ◌-◌, ◌≤◌, ◌<◌, cond, List, [], ◌∷◌, length, get_or, refl, ap, ◌∙◌, arith}
use Rattle.std.specs.Prelude.{nat_le}
use Rattle.std.proofs.lemmas.Bool.{le-leb, lt-leb}
use Rattle.disk_core.specs.State.{State}
use Rattle.disk_core.specs.Calls.{bytes_of}
use Rattle.disk_core.specs.Moments.{clock}
use Rattle.witness_core.specs.FileMoments.{HeldThrough, IsHeldSince}

-- each call lasts one moment
held_by : ℕ → List State → ℕ → List ℕ
held_by zero states t = bytes_of states
held_by (suc n) [] t = []
held_by (suc n) (s ∷ earlier) t = cond (nat_le t n) (held_by n earlier t) s.seen

held_early : (n : ℕ) (s : State) (earlier : List State) (t : ℕ) → t ≤ n → held_by (suc n) (s ∷ earlier) t ≡ held_by n earlier t
unfolding held_by
held_early n s earlier t le = ap (λ b. cond b (held_by n earlier t) s.seen) (le-leb t n le)

held_late : (n : ℕ) (s : State) (earlier : List State) (t : ℕ) → n < t → held_by (suc n) (s ∷ earlier) t ≡ s.seen
unfolding held_by
held_late n s earlier t lt = ap (λ b. cond b (held_by n earlier t) s.seen) (lt-leb t n lt)

held_first : (states : List State) (t : ℕ) → held_by 0 states t ≡ bytes_of states
unfolding held_by
held_first states t = refl

through_by : (n : ℕ) (states : List State) (held : ℕ → List ℕ) → n ≤ length states → ((t : ℕ) → t ≤ n → held t ≡ held_by n states t) → HeldThrough n states held n
through_by zero states held le same = λ t upto j. ap (λ (bytes : List ℕ). get_or bytes j 0) (same t upto ∙ held_first states t)
through_by (suc n) [] held le same = absurd (omega (arith, le))
through_by (suc n) (s ∷ earlier) held le same = (
  n,
  omega arith,
  through_by n earlier held (omega (arith, le)) (λ t upto. same t (omega arith) ∙ held_early n s earlier t upto),
  record {
    turn = λ j. suc n;
    in_time = λ j. omega arith;
    before = λ t j after upto early. absurd (omega arith);
    behind = λ t j after upto late. ap (λ (bytes : List ℕ). get_or bytes j 0) (same t upto ∙ held_late n s earlier t after);
  },
)

held_on : (n : ℕ) (states : List State) (t : ℕ) → n ≤ length states → n ≤ t → held_by n states t ≡ bytes_of states
held_on zero states t le late = held_first states t
held_on (suc n) [] t le late = absurd (omega (arith, le))
held_on (suc n) (s ∷ earlier) t le late = held_late n s earlier t (omega (arith, late))

pub some_held : (since : ℕ) (states : List State) → (held : ℕ → List ℕ) × IsHeldSince since states held
some_held since states = (
  held_by (clock states - since) states,
  record {
    end = clock states - since;
    through = through_by (clock states - since) states (held_by (clock states - since) states) (omega arith) (λ t le. refl);
    from_then = λ t late j. ap (λ (bytes : List ℕ). get_or bytes j 0) (held_on (clock states - since) states t (omega arith) late);
  },
)
