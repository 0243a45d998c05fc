-- A text is one of a key with something behind a colon where its halves are the texts of the two.
use Rattle.std.proofs.Common.{◌≡◌, ◌≢◌, ℕ, ◌<◌, ◌^◌, List, sym, ap, ◌∙◌, subst}
use Rattle.std.specs.Prelude.{decimal}
use Rattle.text_core.specs.Halves.{halves_text, HasNoColon, first_half, second_half, some_colon}
use Rattle.text_core.specs.Keyed.{keyed_text, HasNoColon-key}

pub no_colon : (text : List ℕ) → HasNoColon text → (key : ℕ) (behind : List ℕ) → keyed_text key behind ≢ text
no_colon text plain key behind is = some_colon (decimal key) behind (subst HasNoColon (sym is) plain)

pub no_key : (text first second : List ℕ) → text ≡ halves_text first second → HasNoColon first → ((n : ℕ) → n < 2 ^ 64 → decimal n ≢ first)
    → (key : ℕ) (behind : List ℕ) → key < 2 ^ 64 → keyed_text key behind ≢ text
no_key text first second cut plain none key behind small is = none key small (first_half (decimal key) behind first second (HasNoColon-key key small) plain (is ∙ cut))

pub not_behind : (text first second : List ℕ) → text ≡ halves_text first second → HasNoColon first → (key : ℕ) (behind : List ℕ) → key < 2 ^ 64 → behind ≢ second → keyed_text key behind ≢ text
not_behind text first second cut plain key behind small other is = other (second_half (decimal key) behind first second (HasNoColon-key key small) plain (is ∙ cut))

pub keyed_is : (text first second : List ℕ) → text ≡ halves_text first second → (key : ℕ) (behind : List ℕ) → decimal key ≡ first → behind ≡ second → keyed_text key behind ≡ text
keyed_is text first second cut key behind is so = ap (λ (t : List ℕ). halves_text t behind) is ∙ ap (halves_text first) so ∙ sym cut
