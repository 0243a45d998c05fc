-- How what calls in a row may leave is joined.
use Rattle.std.proofs.Common.{◌≡◌, ℕ, ◌≤◌, suc, ◌⊎◌, inl, inr, List, [], ◌∷◌, ◌++◌, length, ◌-◌, take, drop, length-append, append_assoc, refl, arith, ap, ◌∙◌, subst, sym}
use Rattle.std.proofs.lemmas.List.{drop_at, length-drop, take-append-drop}
use Rattle.disk_core.specs.State.{State, IsImage, now}
use Rattle.disk_core.specs.Calls.{AddsMoment}
use Rattle.disk_core.specs.Moments.{clock, LeftSince, Follows, states_at, LeftBetween, LeavesOnly}

-- nothing was left since a moment that is still to come
pub LeftSince-later : (states : List State) (t : ℕ) (image : List ℕ) → LeftSince states t image → t ≤ clock states
LeftSince-later [] t image left = absurd left
LeftSince-later (s ∷ earlier) t image left = left.0

-- The rule on moments: what was left since t was left between t and the moment of the old states, or since that one.
pub LeftSince-split : (fresh old : List State) (t : ℕ) (image : List ℕ) → t ≤ clock old → LeftSince (fresh ++ old) t image
    → LeftSince old t image ⊎ LeftSince (fresh ++ old) (clock old) image
LeftSince-split [] old t image le left = inl left
LeftSince-split (s ∷ fresh) old t image le left =
    let passed : clock old ≤ suc (clock (fresh ++ old)) = omega (arith, length-append fresh old) in
    elim left.1 [
      | inl newest ↦ inr (passed, inl newest)
      | inr before ↦ elim (LeftSince-split fresh old t image le before) [ inl earlier ↦ inl earlier | inr since ↦ inr (passed, inr since) ]
    ]

-- the same of any moment in between
pub LeftSince-between : (states : List State) (t m : ℕ) (image : List ℕ) → t ≤ m → m ≤ clock states → LeftSince states t image
    → LeftBetween states t m image ⊎ LeftSince states m image
LeftSince-between states t m image le inside left =
    let k : ℕ = clock states - m in
    let old : List State = drop k states in
    let whole : take k states ++ old ≡ states = take-append-drop k states in
    let long : clock old ≡ m = omega (arith, inside, length-drop k states) in
    elim (LeftSince-split (take k states) old t image (omega (arith, le, long)) (subst (λ all. LeftSince all t image) (sym whole) left)) [
      | inl earlier ↦ inl earlier
      | inr since ↦ inr (subst (λ n. LeftSince states n image) long (subst (λ all. LeftSince all (clock old) image) whole since))
    ]

-- since the newest moment there is the newest state alone
pub LeftSince-clock : (states : List State) (image : List ℕ) → LeftSince states (clock states) image → IsImage (now states) image
LeftSince-clock [] image left = absurd left
LeftSince-clock (s ∷ earlier) image left = elim left.1 [ inl here ↦ here | inr before ↦ absurd (past before) ]
  where
    past : LeftSince earlier (suc (length earlier)) image → ⊥
    past before = let le = LeftSince-later earlier (suc (length earlier)) image before in omega arith

pub Follows-refl : (states : List State) → Follows states states
Follows-refl states = ([], refl)

pub Follows-call : (old new : List State) → AddsMoment old new → Follows old new
Follows-call old new adds = (now new ∷ [], adds)

-- two calls, or two runs of calls, in a row
pub Follows-join : (old mid new : List State) → Follows old mid → Follows mid new → Follows old new
Follows-join old mid new first then = (then.0 ++ first.0, then.1 ∙ ap (λ (states : List State). then.0 ++ states) first.1 ∙ sym (append_assoc then.0 first.0 old))

pub Follows-later : (old new : List State) → Follows old new → clock old ≤ clock new
Follows-later old new follows = omega (arith, ap length follows.1, length-append follows.0 old)

-- at their moment the states were the old ones
pub states_at-Follows : (old new : List State) → Follows old new → states_at (clock old) new ≡ old
states_at-Follows old new follows =
    let long : length follows.0 ≡ clock new - clock old = omega (arith, ap length follows.1, length-append follows.0 old) in
    ap (λ (states : List State). drop (clock new - clock old) states) follows.1 ∙ drop_at follows.0 old (clock new - clock old) long

-- before the first call
pub LeavesOnly-start : (states : List State) (P : List ℕ → Type 0) → ((image : List ℕ) → IsImage (now states) image → P image) → LeavesOnly states states P
LeavesOnly-start states P here = record {
  past = Follows-refl states;
  each = λ image left. here image (LeftSince-clock states image left);
  newest = here;
}

-- one call more, which made this state
pub LeavesOnly-more : (old mid new : List State) (s : State) (P : List ℕ → Type 0) → LeavesOnly old mid P → new ≡ s ∷ mid
    → ((image : List ℕ) → IsImage s image → P image) → LeavesOnly old new P
LeavesOnly-more old mid new s P so_far is here = subst (λ states. LeavesOnly old states P) (sym is) (record {
  past = Follows-join old mid (s ∷ mid) so_far.past (s ∷ [], refl);
  each = λ image left. elim left.1 [ inl newest ↦ here image newest | inr before ↦ so_far.each image before ];
  newest = here;
})

-- what was left since an earlier moment was left between it and the old states' moment, or has P
pub LeavesOnly-before : (old new : List State) (P : List ℕ → Type 0) → LeavesOnly old new P → (t : ℕ) (image : List ℕ) → t ≤ clock old
    → LeftSince new t image → LeftSince old t image ⊎ P image
LeavesOnly-before old new P leaves t image le left =
    let whole = sym leaves.past.1 in
    elim (LeftSince-split leaves.past.0 old t image le (subst (λ states. LeftSince states t image) leaves.past.1 left)) [
      | inl earlier ↦ inl earlier
      | inr since ↦ inr (leaves.each image (subst (λ states. LeftSince states (clock old) image) whole since))
    ]

-- two calls, or two runs of calls, in a row
pub LeavesOnly-join : (old mid new : List State) (P : List ℕ → Type 0) → LeavesOnly old mid P → LeavesOnly mid new P → LeavesOnly old new P
LeavesOnly-join old mid new P first then = record {
  past = Follows-join old mid new first.past then.past;
  each = λ image left. elim (LeavesOnly-before mid new P then (clock old) image (Follows-later old mid first.past) left) [ inl earlier ↦ first.each image earlier | inr has ↦ has ];
  newest = then.newest;
}

pub LeavesOnly-weaker : (old new : List State) (P Q : List ℕ → Type 0) → ((image : List ℕ) → P image → Q image) → LeavesOnly old new P → LeavesOnly old new Q
LeavesOnly-weaker old new P Q weaker leaves = record {
  past = leaves.past;
  each = λ image left. weaker image (leaves.each image left);
  newest = λ image is. weaker image (leaves.newest image is);
}

-- what the disk may leave now
pub LeavesOnly-now : (old new : List State) (P : List ℕ → Type 0) → LeavesOnly old new P → (image : List ℕ) → IsImage (now new) image → P image
LeavesOnly-now old new P leaves = leaves.newest

-- What is known up to one moment stays known, whatever the calls after it did: also where the disk has not kept the model since.
pub LeavesOnly-stays_known : (old mid new : List State) (P : List ℕ → Type 0) → LeavesOnly old mid P → Follows mid new → (image : List ℕ)
    → LeftBetween new (clock old) (clock mid) image → P image
LeavesOnly-stays_known old mid new P leaves follows image left = leaves.each image (subst (λ states. LeftSince states (clock old) image) (states_at-Follows mid new follows) left)

-- one call more, of which nothing is known: what is known of the moments before it stays known
pub LeavesOnly-but_newest : (old mid new : List State) (P : List ℕ → Type 0) → LeavesOnly old mid P → AddsMoment mid new → LeavesOnly old (drop 1 new) P
LeavesOnly-but_newest old mid new P leaves adds = subst (λ states. LeavesOnly old (drop 1 states) P) (sym adds) leaves
