-- What the definitions of the files that commands leave allow and rule out, on disks of one or two states.
use Rattle.std.proofs.Common.{◌≡◌, inl, inr, ℕ, ◌≤◌, List, [], ◌∷◌, ◌++◌, length, take, refl, sym, ap, subst, ◌∙◌, arith}
use Rattle.std.proofs.lemmas.List.{length-append}
use Rattle.record_core.specs.Bytes.{Encoding}
use Rattle.disk_core.specs.State.{State, now, IsImage}
use Rattle.disk_core.proofs.ImageLemmas.{settled_image}
use Rattle.segment_core.specs.Fault.{damaged, IsFirstFault}
use Rattle.segment_core.specs.Tally.{tally_of}
use Rattle.segment_core.specs.declared.fault.Cause.TheVariants.{NoGate, ShortFrame}
use Rattle.segment_core.specs.declared.fault.ScanFault.{ScanFault}
use Rattle.segment_core.proofs.Decided.{one_fault}
use Rattle.pen_core.specs.Held.{Opens}
use Rattle.pen_core.specs.Typed.{OpensTo}
use Rattle.pen_core.specs.Pen.{OpensWith}
use Rattle.vault_core.specs.Vault.{OpensToEither}
use Rattle.files_core.specs.Changing.{Replaces}
use Rattle.files_core.specs.Folding.{KeepsList, NoneLive}
use Rattle.files_core.specs.SoundFront.{IsSoundFront, closed_at}
use Rattle.files_core.proofs.WorkedDisks.{Disk, ThreeFiles, itself, as_long, old, later, still, past_two, leaves_one, never_two, none_before, opens_then}

module _ {R : Type 0} {form : Encoding R} {r : R} (files : ThreeFiles form r) where
  -- ---- a list in the place of another

  abbrev IsOneMore : List R → List R → Type 0
  IsOneMore was behind = behind ≡ was ++ (r ∷ [])

  abbrev Replaced : Disk → Type 0
  Replaced left = Replaces form itself IsOneMore (old files) left

  one_replaces : Replaced (later files)
  one_replaces = record {
    was = [];
    behind = r ∷ [];
    file = files.opens_none;
    made = refl;
    images = leaves_one files (OpensToEither form [] (r ∷ [])) (inr files.opens_one);
    settled = opens_then files;
  }

  not_replaced : Replaced (still files) → ⊥
  not_replaced so =
      omega (arith, as_long files files.none so.behind [] (so.settled files.none (settled_image files.none)) files.opens_none, ap length so.made, length-append so.was (r ∷ []))

  not_replaced_by_two : Replaced (past_two files) → ⊥
  not_replaced_by_two so =
      let was = none_before files so.was so.file in
      never_two files (OpensToEither form so.was so.behind) (λ either. elim either [
        | inl before ↦ omega (arith, as_long files files.two so.was (r ∷ r ∷ []) before files.opens_two, was)
        | inr then ↦ omega (arith, as_long files files.two so.behind (r ∷ r ∷ []) then files.opens_two, ap length so.made, length-append so.was (r ∷ []), was)
      ]) so.images

  -- ---- a list that stays

  not_kept : KeepsList form itself (old files) (later files) → ⊥
  not_kept so = omega (arith, as_long files files.one so.records (r ∷ []) (so.settled files.one (settled_image files.one)) files.opens_one, none_before files so.records so.file)

  -- ---- what is sound of a damaged file: the whole frames, as one vector

  module _ (bytes : List ℕ) (at : ℕ) where
    -- the front is a file
    front_sound : take at bytes ≡ files.one → IsSoundFront form bytes at 1
    front_sound front = record { records = r ∷ []; count = refl; file = inl (subst (λ b. OpensTo form b (r ∷ [])) (sym front) files.opens_one) }

    front_alone : take at bytes ≡ files.one → ((fault : ScanFault) → IsFirstFault form files.one fault → ⊥) → (n : ℕ) → IsSoundFront form bytes at n → n ≡ 1
    front_alone front whole n sound = elim sound.file [
      | inl opens ↦ sound.count ∙ as_long files files.one sound.records (r ∷ []) (subst (λ b. OpensTo form b sound.records) front opens) files.opens_one
      | inr (end, cut, opens) ↦ elim cut [
        | inl gate ↦ absurd (whole (damaged end NoGate) (subst (λ b. IsFirstFault form b (damaged end NoGate)) front gate))
        | inr frame ↦ absurd (whole (damaged end ShortFrame) (subst (λ b. IsFirstFault form b (damaged end ShortFrame)) front frame))
      ]
    ]

    -- it is cut short, and its whole frames are a file
    module _ (end : ℕ) (cut : IsFirstFault form (take at bytes) (damaged end ShortFrame)) (front : closed_at end bytes ≡ files.one)
        (never : (records : List R) → OpensTo form (take at bytes) records → ⊥) where
      cut_sound : IsSoundFront form bytes at 1
      cut_sound = record { records = r ∷ []; count = refl; file = inr (end, inr cut, subst (λ b. OpensTo form b (r ∷ [])) (sym front) files.opens_one) }

      same_end : (at other : ℕ) → damaged at ShortFrame ≡ damaged other ShortFrame → at ≡ other
      same_end at other is = cc

      cut_alone : (n : ℕ) → IsSoundFront form bytes at n → n ≡ 1
      cut_alone n sound = elim sound.file [
        | inl opens ↦ absurd (never sound.records opens)
        | inr (other, fault, opens) ↦ elim fault [
          | inl gate ↦ absurd (let clash = one_fault form (take at bytes) (damaged other NoGate) (damaged end ShortFrame) gate cut in cc)
          | inr frame ↦ (
              let same : other ≡ end = same_end other end (one_fault form (take at bytes) (damaged other ShortFrame) (damaged end ShortFrame) frame cut) in
              let here : OpensTo form files.one sound.records = subst (λ b. OpensTo form b sound.records) (ap (λ e. closed_at e bytes) same ∙ front) opens in
              sound.count ∙ as_long files files.one sound.records (r ∷ []) here files.opens_one)
        ]
      ]

-- ---- a file of which no change is live

-- whatever a crash leaves opens to frames of which a fold has all changes
module _ {D : Type 0} (keeps : D → Type 0) (states : D → List State) (left : D) (so : NoneLive keeps states left) (model : keeps left) where
  frames_folded : (image : List ℕ) → IsImage (now (states left)) image
      → Opens so.pen.shape so.pen.frames so.pen.vector image × ((tally_of so.pen.frames).changes ≤ (tally_of so.pen.frames).folded)
  frames_folded image is =
      let kept = so.kept model in (
        subst (λ job. OpensWith so.pen.shape so.pen.frames so.pen.vector job image) so.folded.0.0 (kept.images_open image is),
        subst (λ tally. tally.changes ≤ tally.folded) kept.tally_is so.folded.1,
      )

  its_disk : so.pen.disk ≡ left
  its_disk = so.disk_is
