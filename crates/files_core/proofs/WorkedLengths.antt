-- What the definitions of lengths that are reached in parts allow, and the nearest that they don't, on lists of few records.
use Rattle.std.proofs.Common.{◌≡◌, ◌⊎◌, inl, inr, ℕ, ◌+◌, ◌^◌, ◌<◌, ◌≤◌, List, [], ◌∷◌, ◌++◌, length, replicate, sym, ap, subst, ◌∙◌, arith}
use Rattle.std.proofs.lemmas.List.{length-append, length-replicate}
use Rattle.record_core.specs.Bytes.{Encoding}
use Rattle.disk_core.specs.State.{State, settled}
use Rattle.disk_core.proofs.ImageLemmas.{settled_image}
use Rattle.pen_core.specs.Typed.{OpensTo}
use Rattle.pen_core.proofs.Typed.{OpensTo_same}
use Rattle.vault_core.specs.declared.fault.VaultFault.{VaultFault}
use Rattle.vault_core.specs.Commands.{resized}
use Rattle.vault_core.specs.Vault.{VaultOf, list_of}
use Rattle.files_core.specs.declared.fault.FileFault.TheVariants as told
use Rattle.files_core.specs.declared.fault.Word.{Word}
use Rattle.files_core.specs.Lengthened.{HasComeNear, HasGrownBy, IsLengthened, IsLengthenFault, IsLengthenRefusal, OpensToPart, StandsInPart, StandsWhole}
use Rattle.files_core.proofs.WorkedDisks.{itself}

abbrev five_six : List ℕ
five_six = 5 ∷ 6 ∷ []

-- so many copies behind them
longer : (k : ℕ) → length (five_six ++ replicate k 9) ≡ 2 + k
longer k = omega (arith, length-append five_six (replicate {A = ℕ} k 9), length-replicate {A = ℕ} k 9)

-- ---- a list of two that is to have four records, or one

module _ (form : Encoding ℕ) (small : form.width < 2 ^ 16) (image : List ℕ) where
  abbrev PartOfFour : Type 0
  PartOfFour = OpensToPart form five_six 4 9 image

  still_two : OpensTo form image (5 ∷ 6 ∷ []) → PartOfFour
  still_two opens = inl (0, omega arith, opens)

  three_of_four : OpensTo form image (5 ∷ 6 ∷ 9 ∷ []) → PartOfFour
  three_of_four opens = inl (1, omega arith, opens)

  all_four : OpensTo form image (5 ∷ 6 ∷ 9 ∷ 9 ∷ []) → PartOfFour
  all_four opens = inr opens

  many : (one two : List ℕ) → OpensTo form image one → OpensTo form image two → length one ≡ length two
  many one two to_one to_two = ap length (OpensTo_same form image one two small to_one to_two)

  not_five : OpensTo form image (5 ∷ 6 ∷ 9 ∷ 9 ∷ 9 ∷ []) → PartOfFour → ⊥
  not_five opens (inl some) = omega (arith, many _ _ opens some.2, longer some.0, some.1)
  not_five opens (inr four) = absurd (omega (arith, many _ _ opens four))

  not_the_first_alone : OpensTo form image (5 ∷ []) → PartOfFour → ⊥
  not_the_first_alone opens (inl some) = omega (arith, many _ _ opens some.2, longer some.0)
  not_the_first_alone opens (inr four) = absurd (omega (arith, many _ _ opens four))

  -- a list that becomes shorter is the old one or the new one
  one_or_two : (one : List ℕ) → OpensTo form image one → OpensToPart form five_six 1 9 image → (one ≡ five_six) ⊎ (one ≡ 5 ∷ [])
  one_or_two one opens (inl some) =
      let none : some.0 ≡ 0 = omega (arith, some.1) in
      inl (OpensTo_same form image one _ small opens some.2 ∙ ap (λ (k : ℕ). five_six ++ replicate k 9) none)
  one_or_two one opens (inr shorter) = inr (OpensTo_same form image one _ small opens shorter)

-- ---- of files, by what a crash may leave of them

module _ (form : Encoding ℕ) (small : form.width < 2 ^ 16) (two three : List ℕ) (opens_two : OpensTo form two (5 ∷ 6 ∷ [])) (opens_three : OpensTo form three (5 ∷ 6 ∷ 9 ∷ [])) where
  was_two : (left : List State) (so : StandsInPart form itself 4 9 (settled two ∷ []) left) → so.was ≡ 5 ∷ 6 ∷ []
  was_two left so = OpensTo_same form two so.was (5 ∷ 6 ∷ []) small so.file opens_two

  not_whole_with_three : StandsWhole form itself 4 9 (settled two ∷ []) (settled three ∷ settled two ∷ []) → ⊥
  not_whole_with_three so =
      let opens = so.settled three (settled_image three) in
      let four = ap (λ (was : List ℕ). length (resized 4 9 was)) (was_two (settled three ∷ settled two ∷ []) so.meanwhile) in
      omega (arith, ap length (OpensTo_same form three _ (5 ∷ 6 ∷ 9 ∷ []) small opens opens_three), four)

  not_a_part_of_two : StandsInPart form itself 2 9 (settled two ∷ []) (settled three ∷ settled two ∷ []) → ⊥
  not_a_part_of_two so = no (so.stands three (settled_image three))
    where
      was : so.was ≡ 5 ∷ 6 ∷ []
      was = OpensTo_same form two so.was (5 ∷ 6 ∷ []) small so.file opens_two

      no : OpensToPart form so.was 2 9 three → ⊥
      no part = of (subst (λ (rs : List ℕ). OpensToPart form rs 2 9 three) was part)
        where
          of : OpensToPart form five_six 2 9 three → ⊥
          of (inl some) =
              omega (arith, some.1, ap length (OpensTo_same form three _ _ small opens_three some.2), longer some.0)
          of (inr both) = absurd (omega (arith, ap length (OpensTo_same form three _ _ small opens_three both)))

module _ {D : Type 0} (form : Encoding ℕ) (keeps : D → Type 0) (states : D → List State) (counted : D → ℕ) (v w : VaultOf ℕ D) where
  -- ---- growths of two copies

  no_growth : HasGrownBy form keeps states counted 0 2 9 v w → w ≡ v
  no_growth so = so

  module _ (was : list_of v ≡ 5 ∷ 6 ∷ []) where
    one_growth : HasGrownBy form keeps states counted 1 2 9 v w → list_of w ≡ 5 ∷ 6 ∷ 9 ∷ 9 ∷ []
    one_growth so =
        let before : list_of so.0 ≡ 5 ∷ 6 ∷ [] = ap (λ (x : VaultOf ℕ D). list_of x) so.1 ∙ was in
        so.2.list ∙ ap (λ rs. resized (length rs + 2) 9 rs) before

    two_growths : HasGrownBy form keeps states counted 2 1 9 v w → list_of w ≡ 5 ∷ 6 ∷ 9 ∷ 9 ∷ []
    two_growths so =
        let first : list_of so.1.0 ≡ 5 ∷ 6 ∷ [] = ap (λ (x : VaultOf ℕ D). list_of x) so.1.1 ∙ was in
        let before : list_of so.0 ≡ 5 ∷ 6 ∷ 9 ∷ [] = so.1.2.list ∙ ap (λ rs. resized (length rs + 1) 9 rs) first in
        so.2.list ∙ ap (λ rs. resized (length rs + 1) 9 rs) before

    -- none where the length is reached by it
    not_past_it : (so : HasComeNear form keeps states counted 4 9 v w) → so.growths ≡ 1 → so.piece ≡ 2 → ⊥
    not_past_it so one two =
        let grown = subst (λ (n : ℕ). HasGrownBy form keeps states counted n 2 9 v w) one (subst (λ (n : ℕ). HasGrownBy form keeps states counted so.growths n 9 v w) two so.grown) in
        omega (arith, one, so.short (omega (arith, one)), ap length (one_growth grown))

    -- the whole length, and no copy more
    four_of_four : IsLengthened form keeps states counted 4 9 v w → list_of w ≡ 5 ∷ 6 ∷ 9 ∷ 9 ∷ []
    four_of_four so = so.list ∙ ap (λ (rs : List ℕ). resized 4 9 rs) was

    not_one_more : list_of w ≡ 5 ∷ 6 ∷ 9 ∷ 9 ∷ 9 ∷ [] → IsLengthened form keeps states counted 4 9 v w → ⊥
    not_one_more is so = absurd (omega (arith, ap length (sym is ∙ four_of_four so)))

    not_one_less : list_of w ≡ 5 ∷ 6 ∷ 9 ∷ [] → IsLengthened form keeps states counted 4 9 v w → ⊥
    not_one_less is so = absurd (omega (arith, ap length (sym is ∙ four_of_four so)))

  -- a last resize takes no more than a frame does
  no_more_at_last : (n : ℕ) (so : IsLengthened form keeps states counted n 9 v w) → n ≤ 2 ^ 32 → n ≤ length (list_of so.near) + so.came.piece
  no_more_at_last n so within = so.enough within

  -- what no vector has is refused at once
  refused_at_once : (n : ℕ) (fault : VaultFault) (so : IsLengthenFault form keeps states counted n 9 v w fault) → 2 ^ 32 < n → so.near ≡ v
  refused_at_once n fault so past = subst (λ (growths : ℕ). HasGrownBy form keeps states counted growths so.came.piece 9 v so.near) (so.came.at_once past) so.came.grown

  never_for_a_word : (n : ℕ) (disk left : D) (word : Word) → IsLengthenRefusal form keeps states counted n 9 disk left (told.Word word) → ⊥
  never_for_a_word n disk left word so = so
