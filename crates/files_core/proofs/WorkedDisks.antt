-- Disks of one or two states, on which definitions are tried.
use Rattle.std.proofs.Common.{◌≡◌, ◌⊎◌, inl, inr, ℕ, ◌^◌, ◌<◌, List, [], ◌∷◌, length, refl, sym, ap, subst, arith}
use Rattle.record_core.specs.Bytes.{Encoding}
use Rattle.disk_core.specs.State.{State, now, settled, IsImage}
use Rattle.disk_core.specs.Moments.{LeftSince}
use Rattle.disk_core.proofs.ImageLemmas.{IsImage-settled, settled_image}
use Rattle.pen_core.specs.Typed.{OpensTo}
use Rattle.pen_core.proofs.Typed.{OpensTo_same}
use Rattle.files_core.specs.Opened.{LeavesBeforeOr}

-- a disk that is its states, all of them known
abbrev pub Disk : Type 0
Disk = List State

abbrev pub itself : Disk → List State
itself states = states

abbrev pub known : Disk → Type 0
known states = Unit {0}

-- three files: of no record, of one, and of two
pub record ThreeFiles {R : Type 0} (form : Encoding R) (r : R) : Type 0 where
  pub small : form.width < 2 ^ 16
  pub none : List ℕ
  pub one : List ℕ
  pub two : List ℕ
  pub opens_none : OpensTo form none []
  pub opens_one : OpensTo form one (r ∷ [])
  pub opens_two : OpensTo form two (r ∷ r ∷ [])

module _ {R : Type 0} {form : Encoding R} {r : R} (files : ThreeFiles form r) where
  pub as_long : (image : List ℕ) (a b : List R) → OpensTo form image a → OpensTo form image b → length a ≡ length b
  as_long image a b to_a to_b = ap length (OpensTo_same form image a b files.small to_a to_b)

  -- a disk of the first, and what it is later
  abbrev pub old : Disk
  old = settled files.none ∷ []

  abbrev pub later : Disk
  later = settled files.one ∷ old

  abbrev pub still : Disk
  still = settled files.none ∷ old

  -- meanwhile it was the third
  abbrev pub past_two : Disk
  past_two = settled files.one ∷ settled files.two ∷ old

  pub leaves_one : (P : List ℕ → Type 0) → P files.one → LeavesBeforeOr old later P
  leaves_one P holds = record {
    past = (settled files.one ∷ [], refl);
    each = each;
    newest = λ image is. inr (subst P (sym (IsImage-settled files.one image is)) holds);
  }
    where
      each : (image : List ℕ) → LeftSince later 1 image → IsImage (now old) image ⊎ P image
      each image left = elim left.1 [
        | inl is ↦ inr (subst P (sym (IsImage-settled files.one image is)) holds)
        | inr earlier ↦ elim earlier.1 [ inl is ↦ inl is | inr never ↦ absurd never ]
      ]

  pub never_two : (P : List ℕ → Type 0) → (P files.two → ⊥) → LeavesBeforeOr old past_two P → ⊥
  never_two P other leaves = elim (leaves.each files.two (omega arith, inr (omega arith, inl (settled_image files.two)))) [
    | inl is ↦ (
        let none : OpensTo form files.two [] = subst (λ image. OpensTo form image []) (sym (IsImage-settled files.none files.two is)) files.opens_none in
        absurd (omega (arith, as_long files.two [] (r ∷ r ∷ []) none files.opens_two)))
    | inr holds ↦ absurd (other holds)
  ]

  pub opens_then : (image : List ℕ) → IsImage (settled files.one) image → OpensTo form image (r ∷ [])
  opens_then image is = subst (λ bytes. OpensTo form bytes (r ∷ [])) (sym (IsImage-settled files.one image is)) files.opens_one

  pub none_before : (was : List R) → OpensTo form files.none was → length was ≡ 0
  none_before was opens = as_long files.none was [] opens files.opens_none
