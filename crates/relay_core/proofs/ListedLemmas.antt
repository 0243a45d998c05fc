-- What a call of the disk below makes of a list.
use Rattle.std.proofs.Common.{◌≡◌, ℕ, zero, ◌-◌, suc, ◌<◌, ◌≤◌, List, [], ◌∷◌, ◌++◌, length, take, drop, Bool, true, false, ◌==◌, if◌then◌else◌, refl, ap, ◌∙◌, sym, subst, arith}
use Rattle.std.specs.Bool.{Decides}
use Rattle.std.specs.Str.{bytes_eq}
use Rattle.std.specs.Cmp.{unsigned_Decides}
use Rattle.std.specs.Cmp.Lexicographic.{pointwise}
use Rattle.std.proofs.lemmas.Bool.Decides.{Decides-and, Decides-like}
use Rattle.std.proofs.lemmas.Slice.Eq.{bytes_eq-Decides, slice_eq-Decides}
use Rattle.disk_core.specs.declared.extent.Extent.{Extent}
use Rattle.disk_core.specs.State.{State, now, made_of}
use Rattle.disk_core.specs.Moments.{clock, states_at}
use Rattle.relay_core.specs.declared.call.Call.{Call}
use Rattle.relay_core.specs.Listed.{after_call, after_calls, states_after, states_since, same_extent, same_state, in_front, changes, LeadThrough}

-- ---- states that repeat

abbrev extent : ℕ → ℕ → Extent
extent at len = record { at = at; len = len }

same_extent-Decides : (e f : Extent) → Decides (same_extent e f) (e ≡ f)
same_extent-Decides e f =
    Decides-like (same_extent e f) (λ is. ap (λ (n : ℕ). extent n e.len) is.0 ∙ ap (λ (n : ℕ). extent f.at n) is.1) (λ is. (ap (λ (x : Extent). x.at) is, ap (λ (x : Extent). x.len) is))
    (Decides-and (e.at == f.at) (e.len == f.len) (unsigned_Decides e.at f.at) (unsigned_Decides e.len f.len))

same_extents-Decides : (es fs : List Extent) → Decides (pointwise same_extent es fs) (es ≡ fs)
same_extents-Decides es fs = slice_eq-Decides same_extent-Decides es fs (pointwise same_extent es fs) refl

pub same_state-Decides : (s t : State) → Decides (same_state s t) (s ≡ t)
same_state-Decides s t =
    Decides-like (same_state s t)
    (λ is.
    ap (λ (bytes : List ℕ). made_of bytes s.synced s.pending s.greatest) is.0
    ∙ ap (λ (bytes : List ℕ). made_of t.seen bytes s.pending s.greatest) is.1.0
    ∙ ap (λ (es : List Extent). made_of t.seen t.synced es s.greatest) is.1.1.0
    ∙ ap (λ (n : ℕ). made_of t.seen t.synced t.pending n) is.1.1.1)
    (λ is. (ap (λ (x : State). x.seen) is, (ap (λ (x : State). x.synced) is, (ap (λ (x : State). x.pending) is, ap (λ (x : State). x.greatest) is))))
    (Decides-and (bytes_eq s.seen t.seen) _ (bytes_eq-Decides s.seen t.seen)
    (Decides-and (bytes_eq s.synced t.synced) _ (bytes_eq-Decides s.synced t.synced)
    (Decides-and (pointwise same_extent s.pending t.pending) (s.greatest == t.greatest) (same_extents-Decides s.pending t.pending) (unsigned_Decides s.greatest t.greatest))))

-- where it is the first of them, nothing more stands in front
in_front-same : (s t : State) (earlier : List State) → same_state s t ≡ true → in_front s (t ∷ earlier) ≡ t ∷ earlier
in_front-same s t earlier is = ap (λ (b : Bool). if b then t ∷ earlier else s ∷ t ∷ earlier) is

pub in_front-twice : (s : State) (states : List State) → in_front s (in_front s states) ≡ in_front s states
in_front-twice s [] = in_front-same s s [] ((same_state-Decides s s).1 refl)
in_front-twice s (t ∷ earlier) = by (same_state s t) refl
  where
    by : (b : Bool) → same_state s t ≡ b → in_front s (if b then t ∷ earlier else s ∷ t ∷ earlier) ≡ (if b then t ∷ earlier else s ∷ t ∷ earlier)
    by true is = in_front-same s t earlier is
    by false is = in_front-same s s (t ∷ earlier) ((same_state-Decides s s).1 refl)

now-in_front : (s : State) (states : List State) → now (in_front s states) ≡ s
now-in_front s [] = refl
now-in_front s (t ∷ earlier) = by (same_state s t) refl
  where
    by : (b : Bool) → same_state s t ≡ b → now (if b then t ∷ earlier else s ∷ t ∷ earlier) ≡ s
    by true is = sym ((same_state-Decides s t).0 is)
    by false is = refl

now-changes : (states : List State) → now (changes states) ≡ now states
now-changes [] = refl
now-changes (s ∷ earlier) = now-in_front s (changes earlier)

-- a state that repeats the one before is no change
changes-again : (states : List State) → 0 < length states → changes (now states ∷ states) ≡ changes states
changes-again [] some = absurd (omega (arith, some))
changes-again (s ∷ earlier) some = in_front-twice s (changes earlier)

-- ---- the states since a moment

-- the past of a list of states stands as it stood
states_at-more : (old : List State) (s : State) (from : ℕ) → from ≤ clock old → states_at from (s ∷ old) ≡ states_at from old
states_at-more old s from le =
    let e : suc (clock old) - from ≡ suc (clock old - from) = omega arith in
    ap (λ (k : ℕ). drop k (s ∷ old)) e

pub states_since-more : (old : List State) (s : State) (from : ℕ) → from ≤ clock old → states_since from (s ∷ old) ≡ s ∷ states_since from old
states_since-more old s from le =
    let e : suc (clock old) - from ≡ suc (clock old - from) = omega arith in
    ap (λ (k : ℕ). take k (s ∷ old) ++ now (drop k (s ∷ old)) ∷ []) e

now-front : (k : ℕ) (states : List State) → now (take k states ++ now (drop k states) ∷ []) ≡ now states
now-front zero states = refl
now-front (suc k) [] = refl
now-front (suc k) (s ∷ earlier) = refl

some-front : (first : List State) (s : State) → 0 < length (first ++ s ∷ [])
some-front [] s = omega arith
some-front (t ∷ first) s = omega arith

pub states_since-now : (states : List State) → states_since (clock states) states ≡ now states ∷ []
states_since-now states =
    let e : clock states - clock states ≡ 0 = omega arith in
    ap (λ (k : ℕ). take k states ++ now (drop k states) ∷ []) e

-- ---- the states after calls

after_snoc : (s : State) (calls : List Call) (call : Call) → after_calls s (calls ++ call ∷ []) ≡ after_call (after_calls s calls) call
after_snoc s [] call = refl
after_snoc s (first ∷ calls) call = after_snoc (after_call s first) calls call

states_after-snoc : (s : State) (calls : List Call) (call : Call) → states_after s (calls ++ call ∷ []) ≡ after_call (after_calls s calls) call ∷ states_after s calls
states_after-snoc s [] call = refl
states_after-snoc s (first ∷ calls) call = ap (λ (states : List State). states ++ s ∷ []) (states_after-snoc (after_call s first) calls call)

first_of-states_after : (s : State) (calls : List Call) → (rest : List State) × (states_after s calls ≡ after_calls s calls ∷ rest)
first_of-states_after s [] = ([], refl)
first_of-states_after s (call ∷ calls) =
    let first = first_of-states_after (after_call s call) calls in
    (first.0 ++ s ∷ [], ap (λ (states : List State). states ++ s ∷ []) first.1)

-- ---- lists of calls

-- the calls make of the disk as it stood what it is now
pub lead_to : (states : List State) (from : ℕ) (calls : List Call) → LeadThrough states from calls → now states ≡ after_calls (now (states_at from states)) calls
lead_to states from calls lead =
    let base = now (states_at from states) in
    sym (now-front (clock states - from) states)
    ∙ sym (now-changes (states_since from states))
    ∙ ap now lead.each
    ∙ now-changes (states_after base calls)
    ∙ ap now ((first_of-states_after base calls).1)

-- a list that begins now
pub lead_from_now : (states : List State) → 0 < clock states → LeadThrough states (clock states) []
lead_from_now states some =
    let e : 0 ≡ clock states - clock states = omega arith in
    record {
      begun = (some, omega arith);
      each = ap changes (states_since-now states) ∙ ap (λ (k : ℕ). changes (now (drop k states) ∷ [])) e;
    }

-- a call that leaves the bytes as they are
pub lead_stays : (old new : List State) (from : ℕ) (calls : List Call) → from ≤ clock old → new ≡ now old ∷ old → LeadThrough old from calls → LeadThrough new from calls
lead_stays old new from calls le is lead =
    let base = now (states_at from old) in
    let k = clock old - from in
    let since = states_since from old in
    let repeats : changes (now old ∷ since) ≡ changes since =
    ap (λ (s : State). changes (s ∷ since)) (sym (now-front k old)) ∙ changes-again since (some-front (take k old) base) in
    subst (λ (states : List State). LeadThrough states from calls) (sym is) (record {
      begun = (lead.begun.0, omega arith);
      each =
          ap changes (states_since-more old (now old) from le)
          ∙ repeats
          ∙ lead.each
          ∙ ap (λ (states : List State). changes (states_after (now states) calls)) (sym (states_at-more old (now old) from le));
    })

-- a call that is listed
pub lead_more : (old new : List State) (from : ℕ) (calls : List Call) (call : Call) → from ≤ clock old → new ≡ after_call (now old) call ∷ old
    → LeadThrough old from calls → LeadThrough new from (calls ++ call ∷ [])
lead_more old new from calls call le is lead =
    let base = now (states_at from old) in
    let s = after_call (now old) call in
    let same : s ≡ after_call (after_calls base calls) call = ap (λ (t : State). after_call t call) (lead_to old from calls lead) in
    subst (λ (states : List State). LeadThrough states from (calls ++ call ∷ [])) (sym is) (record {
      begun = (lead.begun.0, omega arith);
      each =
          ap changes (states_since-more old s from le)
          ∙ ap (λ (states : List State). in_front s states) lead.each
          ∙ ap (λ (t : State). in_front t (changes (states_after base calls))) same
          ∙ ap changes (sym (states_after-snoc base calls call))
          ∙ ap (λ (states : List State). changes (states_after (now states) (calls ++ call ∷ []))) (sym (states_at-more old s from le));
    })
