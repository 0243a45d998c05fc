-- A resize and a clear, as the command that they are.
use Rattle.std.proofs.Common.{if◌then◌else◌, ◌≡◌, ◌⊎◌, inl, inr, ℕ, ◌+◌, ◌-◌, ◌*◌, ◌<◌, ◌≤◌, Bool, true, false, nat_lt, List, [], ◌∷◌, ◌++◌, length, take, Option, Some, None, refl, sym, ap, subst, ◌∙◌, arith, lt-ltb, ltb-true, ltb-false}
use Rattle.std.specs.Prelude.{replicate, Ok, Err}
use Rattle.std.proofs.lemmas.List.{append-nil, take_all, length-replicate}
use Rattle.std.specs.declared.result.Result.{Result}
use Rattle.segment_core.specs.Command.{Command, Grow, Shrink}
use Rattle.segment_core.specs.Frame as frames
use Rattle.segment_core.specs.Frame.{Frame}
use Rattle.pen_core.specs.declared.fault.PenFault.{PenFault}
use Rattle.segment_core.specs.Written.{group_frame, payload_len}
use Rattle.pen_core.specs.Refusals.{group_lines, shrink_lines}
use Rattle.vault_core.specs.declared.fault.VaultFault.{VaultFault}
use Rattle.vault_core.specs.Vault.{VaultOf, list_of}
use Rattle.vault_core.specs.Commands as commands
use Rattle.vault_core.specs.Commands.{StandsCommanded}
use Rattle.drive_core.specs.declared.fault.StepFault.TheVariants.{Vault}
use Rattle.drive_core.specs.Medium.{Medium}
use Rattle.drive_core.specs.Step.{Step, Answer}
use Rattle.drive_core.specs.Step as step
use Rattle.drive_core.specs.World.{World, resize_command, cleared}
use Rattle.drive_core.specs.VaultTies.{IsExclusive, VaultStep}
use Rattle.drive_core.proofs.PenFolds.{not_lt}
use Rattle.drive_core.proofs.PenTests.{pen_tests}
use Rattle.drive_core.proofs.VaultEvents.{Holds, Asks, nothing_steps, nothing_refused}
use Rattle.drive_core.proofs.VaultCommands.{IsWritten, committed_steps, failed_steps}

-- the length asked for is more, less, or the one that is there
pub compared : (n size : ℕ) → (size < n) ⊎ ((n < size) ⊎ (n ≡ size))
compared n size = at (nat_lt size n) (nat_lt n size) refl refl
  where
    at : (b c : Bool) → nat_lt size n ≡ b → nat_lt n size ≡ c → (size < n) ⊎ ((n < size) ⊎ (n ≡ size))
    at true c more less = inl (ltb-true size n more)
    at false true more less = inr (inl (ltb-true n size less))
    at false false more less = let a = ltb-false size n more in let b = ltb-false n size less in inr (inr (omega (arith, a, b)))

module _ {R : Type 0} (r : R) where
  abbrev shrunk : ℕ → ℕ → Option (Command R)
  shrunk size n = if nat_lt n size then Some (Shrink n) else None

  resized_up : (size n : ℕ) → size < n → resize_command size n r ≡ Some (Grow (replicate (n - size) r))
  resized_up size n more = ap (λ (b : Bool). if b then Some (Grow (replicate (n - size) r)) else shrunk size n) (lt-ltb size n more)

  not_up : (size n : ℕ) → n ≤ size → resize_command size n r ≡ shrunk size n
  not_up size n le = ap (λ (b : Bool). if b then Some (Grow (replicate (n - size) r)) else shrunk size n) (not_lt size n le)

  resized_down : (size n : ℕ) → n < size → resize_command size n r ≡ Some (Shrink n)
  resized_down size n less = not_up size n (omega (arith, less)) ∙ ap (λ (b : Bool). if b then Some (Shrink n) else None) (lt-ltb n size less)

  resized_same : (size n : ℕ) → n ≡ size → resize_command size n r ≡ None
  resized_same size n same = not_up size n (omega (arith, same)) ∙ ap (λ (b : Bool). if b then Some (Shrink n) else None) (not_lt n size (omega (arith, same)))

cleared_some : {R : Type 0} (size : ℕ) → 0 < size → cleared {R = R} size ≡ Some (Shrink 0)
cleared_some {R} size some = let none_left : Command R = Shrink 0 in ap (λ (b : Bool). if b then Some none_left else None) (lt-ltb 0 size some)

module _ {R D : Type 0} {m : Medium R D} {w : World R} {v : VaultOf R D} (tie : IsExclusive m w v) (new : VaultOf R D)
    (size : v.pen.broken ≡ false → v.pen.tally.size ≡ length (list_of v)) (rests : Holds m new new.pen.disk) where
  -- what the vault promises of a frame and its tests
  abbrev Says : Frame → List (Bool × PenFault) → Result (Unit {0}) VaultFault → Type 0
  Says frame lines result = commands.IsCommand m.form m.keeps m.states m.faults frame lines v new result

  -- ---- a resize

  module _ (n : ℕ) (r : R) where
    abbrev len : ℕ
    len = length (list_of v)

    abbrev IsResized : Type 0
    IsResized = list_of new ≡ commands.resized n r (list_of v)

    abbrev copies : List R
    copies = replicate (n - len) r

    abbrev up_lines : List (Bool × PenFault)
    up_lines = group_lines v.pen (n - len) (8 + (n - len) * m.form.width)

    asks : (command : Option (Command R)) → resize_command len n r ≡ command → Asks m w new (step.Resize n r) command
    asks command is = subst (Asks m w new (step.Resize n r)) (ap (λ l. resize_command (length l) n r) tie.list_is ∙ is) (λ answer w' k row calls. (row, calls))

    up_lines_are : up_lines ≡ pen_tests m.form v.pen (Grow copies)
    up_lines_are =
        let long : length copies ≡ n - len = length-replicate (n - len) r in
        let all : payload_len m.form.width (copies ∷ []) ≡ 8 + (n - len) * m.form.width = ap (λ k. 8 + k * m.form.width) (ap length (append-nil copies) ∙ long) in
        ap (λ k. group_lines v.pen k (8 + (n - len) * m.form.width)) (sym long) ∙ ap (λ p. group_lines v.pen (length copies) p) (sym all)

    -- the pen tests a growth of so many copies so
    by_pen : {result : Result (Unit {0}) VaultFault} → Says (group_frame m.form (copies ∷ [])) up_lines result
        → Says (group_frame m.form (copies ∷ [])) (pen_tests m.form v.pen (Grow copies)) result
    by_pen {result} says = subst (λ lines. Says (group_frame m.form (copies ∷ [])) lines result) up_lines_are says

    up : len < n → IsWritten m w v new (step.Resize n r) (Grow copies) (group_frame m.form (copies ∷ [])) IsResized
    up more = record {
      asks = asks (Some (Grow copies)) (resized_up r len n more);
      size = size;
      rests = rests;
      made_is = λ allowed is. (is ∙ ap (λ l. l ++ copies) (take_all n (list_of v) (omega (arith, more))), refl);
    }

    down : n < len → IsWritten m w v new (step.Resize n r) (Shrink n) (frames.Shrink n) IsResized
    down less = record {
      asks = asks (Some (Shrink n)) (resized_down r len n less);
      size = size;
      rests = rests;
      made_is = λ allowed is. (is ∙ ap (λ k. take n (list_of v) ++ replicate k r) (let none : n - len ≡ 0 = omega (arith, less) in none) ∙ append-nil (take n (list_of v)), refl);
    }

    pub resize_answers : {answer : Answer R} → answer ≡ step.Fine → IsResized
        → (len < n → Says (group_frame m.form (copies ∷ [])) up_lines (Ok tt)) → (n < len → Says (frames.Shrink n) (shrink_lines v.pen n) (Ok tt))
        → (n ≡ len → (new ≡ v) × (v.pen.broken ≡ false)) → VaultStep m w v new (step.Resize n r) answer
    resize_answers is list says_up says_down nothing = elim (compared n len) [
      | inl more ↦ committed_steps tie (up more) (by_pen (says_up more)) list is
      | inr other ↦ elim other [
        | inl less ↦ committed_steps tie (down less) (says_down less) list is
        | inr same ↦ nothing_steps tie (nothing same).0 (asks None (resized_same r len n same)) (nothing same).1 is
      ]
    ]

    pub resize_refuses : {answer : Answer R} (fault : VaultFault) → answer ≡ step.Refused (Vault fault) → StandsCommanded IsResized (new.blocks ≡ v.blocks) fault
        → (len < n → Says (group_frame m.form (copies ∷ [])) up_lines (Err fault)) → (n < len → Says (frames.Shrink n) (shrink_lines v.pen n) (Err fault))
        → (n ≡ len → (new ≡ v) × commands.IsNothingFault v.pen fault) → VaultStep m w v new (step.Resize n r) answer
    resize_refuses fault is list says_up says_down nothing = elim (compared n len) [
      | inl more ↦ failed_steps tie (up more) fault (by_pen (says_up more)) list is
      | inr other ↦ elim other [
        | inl less ↦ failed_steps tie (down less) fault (says_down less) list is
        | inr same ↦ nothing_refused tie (nothing same).0 (asks None (resized_same r len n same)) (nothing same).1 is
      ]
    ]

  -- ---- a clear

  clears : (command : Option (Command R)) → cleared {R = R} (length (list_of v)) ≡ command → Asks m w new step.Clear command
  clears command is = subst (Asks m w new step.Clear) (ap (λ l. cleared {R = R} (length l)) tie.list_is ∙ is) (λ answer w' k row calls. (row, calls))

  to_none : 0 < length (list_of v) → IsWritten m w v new step.Clear (Shrink 0) (frames.Shrink 0) (list_of new ≡ [])
  to_none some = record {
    asks = clears (Some (Shrink 0)) (cleared_some (length (list_of v)) some);
    size = size;
    rests = rests;
    made_is = λ allowed made. (made, refl);
  }

  asks_none : list_of v ≡ [] → Asks m w new step.Clear None
  asks_none none = clears None (ap (λ l. cleared {R = R} (length l)) none)

  some_or_none : (l : List R) → (0 < length l) ⊎ (l ≡ [])
  some_or_none [] = inr refl
  some_or_none (x ∷ l) = inl (omega arith)

  pub clear_answers : {answer : Answer R} → answer ≡ step.Fine → list_of new ≡ [] → (0 < length (list_of v) → Says (frames.Shrink 0) (shrink_lines v.pen 0) (Ok tt))
      → (list_of v ≡ [] → (new ≡ v) × (v.pen.broken ≡ false)) → VaultStep m w v new step.Clear answer
  clear_answers is list says nothing = elim (some_or_none (list_of v)) [
    | inl some ↦ committed_steps tie (to_none some) (says some) list is
    | inr none ↦ nothing_steps tie (nothing none).0 (asks_none none) (nothing none).1 is
  ]

  pub clear_refuses : {answer : Answer R} (fault : VaultFault) → answer ≡ step.Refused (Vault fault) → StandsCommanded (list_of new ≡ []) (new.blocks ≡ v.blocks) fault
      → (0 < length (list_of v) → Says (frames.Shrink 0) (shrink_lines v.pen 0) (Err fault))
      → (list_of v ≡ [] → (new ≡ v) × commands.IsNothingFault v.pen fault) → VaultStep m w v new step.Clear answer
  clear_refuses fault is list says nothing = elim (some_or_none (list_of v)) [
    | inl some ↦ failed_steps tie (to_none some) fault (says some) list is
    | inr none ↦ nothing_refused tie (nothing none).0 (asks_none none) (nothing none).1 is
  ]
