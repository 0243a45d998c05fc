-- Bytes that are appended in parts, and how many records they hold.
use Rattle.std.proofs.Common.{◌≡◌, ℕ, ◌*◌, ◌^◌, ◌<◌, ◌≤◌, List, ◌++◌, Result, Ok, Err, OnOk, ap, ◌∙◌, append_assoc, arith, le_refl}
use Rattle.std.proofs.lemmas.Nat.{mul-le}
use Rattle.record_core.specs.Limits.{payload_limit}

pub on_ok : {X E : Type 0} (P Q : Type 0) (result : Result X E) → (P → Q) → OnOk result P → OnOk result Q
on_ok P Q (Ok x) then holds = then holds
on_ok P Q (Err e) then holds = tt

-- one part more
pub more : {X : Type 0} (old before part mid new : List X) → mid ≡ old ++ before → new ≡ mid ++ part → new ≡ old ++ (before ++ part)
more old before part mid new was is = is ∙ ap (λ bytes. bytes ++ part) was ∙ append_assoc old before part

-- five parts, one behind the other
pub in_parts : {X : Type 0} (old a b c d e first second third fourth new : List X)
    → first ≡ old ++ a → second ≡ first ++ b → third ≡ second ++ c → fourth ≡ third ++ d → new ≡ fourth ++ e
    → new ≡ old ++ (a ++ b ++ c ++ d ++ e)
in_parts old a b c d e first second third fourth new is_first is_second is_third is_fourth is_new =
    let two = more old a b first second is_first is_second in
    let three = more old (a ++ b) c second third two is_third in
    let four = more old (a ++ b ++ c) d third fourth three is_fourth in
    more old (a ++ b ++ c ++ d) e fourth new four is_new

-- records of one payload are few
pub few_records : (n width : ℕ) → 1 ≤ width → n * width ≤ payload_limit → n < 2 ^ 32
few_records n width wide few = let least = mul-le n 1 n width (le_refl n) wide in omega (arith, few, least)
