-- Which images the states after a call have.
use Rattle.std.proofs.Common.{◌≡◌, ℕ, ◌+◌, ◌≤◌, ◌<◌, ◌-◌, ◌⊎◌, max, List, [], ◌∷◌, ◌++◌, length, get_or, take, drop, true, false, ◌||◌, Bool, refl, sym, subst, ◌∙◌, ap, inl, inr, Result, Ok, Err}
use Rattle.std.proofs.Common.{OnOk, OnErr, arith, length-append}
use Rattle.std.proofs.lemmas.List.{length-take, length-drop, length-take-le, get_or_append_left, get_or-take, get_or-append_right, get_or-drop}
use Rattle.std.proofs.lemmas.Grind.{same_number_lists}
use Rattle.std.proofs.lemmas.Bool.Decides.{nat_tests}
use Rattle.disk_core.specs.State.{State, now, has_place, is_within, overlay, settled, touched, written, IsTorn, IsTornWrite, IsImage}
use Rattle.disk_core.specs.Calls.{TearsWrite}
use Rattle.disk_core.specs.declared.fault.DiskFault.{DiskFault}
use Rattle.disk_core.specs.declared.extent.Extent.{Extent}

-- all bytes are on the disk: the only image is what a read gives
pub IsImage-settled : (bytes image : List ℕ) → IsImage (settled bytes) image → image ≡ bytes
IsImage-settled bytes image is = same_number_lists image bytes (omega (arith, is.no_shorter, is.no_longer)) (λ i lt. is.each i (omega (arith, is.no_longer)) refl)

pub settled_image : (bytes : List ℕ) → IsImage (settled bytes) bytes
settled_image bytes = record { no_shorter = omega arith; no_longer = omega arith; each = λ i lt out. refl }

-- what a read gives is no part of the question
pub IsImage-touched : (s : State) (at len : ℕ) (seen other image : List ℕ) → IsImage (touched s at len seen) image → IsImage (touched s at len other) image
IsImage-touched s at len seen other image is = record { no_shorter = is.no_shorter; no_longer = is.no_longer; each = is.each }

pub neither : (a b : Bool) → (a || b) ≡ false → (a ≡ false) × (b ≡ false)
neither true b is = cc
neither false b is = (refl, is)

pub both : (a b : Bool) → a ≡ false → b ≡ false → (a || b) ≡ false
both true b first is = cc
both false b first is = is

-- outside of these extents and of one more
is_within-push : (es : List Extent) (e : Extent) (i : ℕ) → is_within (es ++ e ∷ []) i ≡ false → (is_within es i ≡ false) × (has_place e i ≡ false)
is_within-push [] e i out = (refl, (neither _ _ out).0)
is_within-push (x ∷ es) e i out =
    let parts = neither _ _ out in
    let rest = is_within-push es e i parts.1 in
    (both _ _ parts.0 rest.0, rest.1)

push-is_within : (es : List Extent) (e : Extent) (i : ℕ) → is_within es i ≡ false → has_place e i ≡ false → is_within (es ++ e ∷ []) i ≡ false
push-is_within [] e i out past = both _ _ past refl
push-is_within (x ∷ es) e i out past =
    let parts = neither _ _ out in
    both _ _ parts.0 (push-is_within es e i parts.1 past)

-- a write adds images and takes none away
pub touched_more : (s : State) (at len : ℕ) (seen image : List ℕ) → IsImage s image → IsImage (touched s at len seen) image
touched_more s at len seen image is = record {
  no_shorter = is.no_shorter;
  no_longer = omega (arith, is.no_longer);
  each = λ i lt out. is.each i lt ((is_within-push s.pending (record { at = at; len = len }) i out).0);
}

-- a write that failed leaves no image that the same write, pending, does not
pub torn_images : (at len : ℕ) (before after : State) (seen image : List ℕ) → IsTornWrite at len before after → IsImage after image → IsImage (touched before at len seen) image
torn_images at len before after seen image torn is = record {
  no_shorter = omega (arith, is.no_shorter, ap length torn.synced);
  no_longer = omega (arith, is.no_longer, torn.greatest);
  each = λ i lt out.
      let parts = is_within-push before.pending (record { at = at; len = len }) i out in
      is.each i (omega (arith, ap length torn.synced)) (torn.pending i parts.0 parts.1) ∙ ap (λ (bytes : List ℕ). get_or bytes i 0) torn.synced;
}

-- a write that is pending, and has left a read these bytes, is one that may have failed
pub touched_torn : (s : State) (at len : ℕ) (seen : List ℕ) → IsTorn at len s.seen seen → IsTornWrite at len s (touched s at len seen)
touched_torn s at len seen torn = record {
  seen = torn;
  synced = refl;
  pending = λ i out past. push-is_within s.pending (record { at = at; len = len }) i out past;
  still_pending = λ i out. (is_within-push s.pending (record { at = at; len = len }) i out).0;
  greatest = omega arith;
  no_less = omega arith;
}

-- a write that failed may have done nothing
pub torn_nothing : (at len : ℕ) (s : State) → IsTornWrite at len s s
torn_nothing at len s = record {
  seen = record { no_shorter = omega arith; no_longer = omega arith; each = λ i lt out. refl };
  synced = refl;
  pending = λ i out past. out;
  still_pending = λ i out. out;
  greatest = omega arith;
  no_less = omega arith;
}

torn_same : (at len : ℕ) (seen : List ℕ) → IsTorn at len seen seen
torn_same at len seen = record { no_shorter = omega arith; no_longer = omega arith; each = λ i lt out. refl }

-- a disk in memory that fails to write has done nothing, or has only noted the extent
pub half_done_torn : (at len : ℕ) (before after : State) → (after ≡ before) ⊎ (after ≡ touched before at len before.seen) → IsTornWrite at len before after
half_done_torn at len before after (inl is) = subst (IsTornWrite at len before) (sym is) (torn_nothing at len before)
half_done_torn at len before after (inr is) = subst (IsTornWrite at len before) (sym is) (touched_torn before at len before.seen (torn_same at len before.seen))

-- what a write has left a read is one of its images
pub torn_image : (s : State) (at len : ℕ) (seen : List ℕ) → IsImage s s.seen → IsTorn at len s.seen seen → IsImage (touched s at len seen) seen
torn_image s at len seen is torn = record {
  no_shorter = omega (arith, is.no_shorter, torn.no_shorter);
  no_longer = omega (arith, is.no_longer, torn.no_longer);
  each = λ i lt out.
      let parts = is_within-push s.pending (record { at = at; len = len }) i out in
      torn.each i (omega (arith, is.no_shorter)) parts.1 ∙ is.each i lt parts.0;
}

pub length-overlay : (old : List ℕ) (at : ℕ) (bytes : List ℕ) → at ≤ length old → length (overlay old at bytes) ≡ max (length old) (at + length bytes)
length-overlay old at bytes le =
    omega (
      arith,
      length-append (take at old ++ bytes) (drop (at + length bytes) old),
      length-append (take at old) bytes,
      length-take at old,
      length-drop (at + length bytes) old,
    )

outside : (at len i : ℕ) → has_place (record { at = at; len = len }) i ≡ false → (i < at) ⊎ (at + len ≤ i)
outside at len i out = grind (arith, nat_tests)

-- outside its extent a write changes nothing
pub get_or-overlay : (old : List ℕ) (at : ℕ) (bytes : List ℕ) (i : ℕ) → at ≤ length old → i < length old → (i < at) ⊎ (at + length bytes ≤ i)
    → get_or (overlay old at bytes) i 0 ≡ get_or old i 0
get_or-overlay old at bytes i le lt (inl before) =
    let long : length (take at old) ≡ at = length-take-le at old le in
    get_or_append_left (take at old ++ bytes) (drop (at + length bytes) old) 0 i (omega (arith, length-append (take at old) bytes))
    ∙ get_or_append_left (take at old) bytes 0 i (omega arith)
    ∙ get_or-take at old i 0 before
get_or-overlay old at bytes i le lt (inr after) =
    let long : length (take at old) ≡ at = length-take-le at old le in
    let all : length (take at old ++ bytes) ≡ at + length bytes = omega (arith, length-append (take at old) bytes) in
    let same : at + length bytes + (i - (at + length bytes)) ≡ i = omega arith in
    get_or-append_right (take at old ++ bytes) (drop (at + length bytes) old) (at + length bytes) i 0 all after
    ∙ get_or-drop (at + length bytes) old (i - (at + length bytes)) 0
    ∙ ap (λ k. get_or old k 0) same

-- a write that succeeded did what one that failed may do
pub overlay_torn : (old : List ℕ) (at : ℕ) (bytes : List ℕ) → at ≤ length old → IsTorn at (length bytes) old (overlay old at bytes)
overlay_torn old at bytes le = record {
  no_shorter = omega (arith, length-overlay old at bytes le);
  no_longer = omega (arith, length-overlay old at bytes le);
  each = λ i lt out. get_or-overlay old at bytes i le lt (outside at (length bytes) i out);
}

pub written_image : (s : State) (at : ℕ) (bytes : List ℕ) → at ≤ length s.seen → IsImage s s.seen → IsImage (written s at bytes) (overlay s.seen at bytes)
written_image s at bytes le is = torn_image s at (length bytes) (overlay s.seen at bytes) is (overlay_torn s.seen at bytes le)

pub half_done_image : (at len : ℕ) (before after : State) → IsImage before before.seen → (after ≡ before) ⊎ (after ≡ touched before at len before.seen) → IsImage after after.seen
half_done_image at len before after readable (inl is) = subst (λ s. IsImage s s.seen) (sym is) readable
half_done_image at len before after readable (inr is) = subst (λ s. IsImage s s.seen) (sym is) (torn_image before at len before.seen readable (torn_same at len before.seen))

part_outside : (at part len i : ℕ) → part ≤ len → has_place (record { at = at; len = len }) i ≡ false → has_place (record { at = at; len = part }) i ≡ false
part_outside at part len i le out = grind (arith, nat_tests)

-- of a write that failed a part may have been tried alone
pub torn_longer : (at part len : ℕ) (before after : State) → part ≤ len → IsTornWrite at part before after → IsTornWrite at len before after
torn_longer at part len before after le torn = record {
  seen = record {
    no_shorter = torn.seen.no_shorter;
    no_longer = omega (arith, le, torn.seen.no_longer);
    each = λ i lt out. torn.seen.each i lt (part_outside at part len i le out);
  };
  synced = torn.synced;
  pending = λ i out past. torn.pending i out (part_outside at part len i le past);
  still_pending = torn.still_pending;
  greatest = omega (arith, le, torn.greatest);
  no_less = torn.no_less;
}

-- a write of a part, whether it failed or not, did no more than a failed write of the whole may do
pub torn_by_part : {T : Type 0} (r : Result T DiskFault) (at len : ℕ) (part : List ℕ) (old new : List State) → at ≤ length (now old).seen → length part ≤ len
    → OnOk r (new ≡ written (now old) at part ∷ old) → OnErr r (TearsWrite at (length part) old new) → IsTornWrite at len (now old) (now new)
torn_by_part (Ok value) at len part old new inside le done torn =
    let s = now old in
    let after = written s at part in
    subst (λ states. IsTornWrite at len s (now states)) (sym done)
    (torn_longer at (length part) len s after le (touched_torn s at (length part) (overlay s.seen at part) (overlay_torn s.seen at part inside)))
torn_by_part (Err fault) at len part old new inside le done torn =
    subst (λ states. IsTornWrite at len (now old) (now states)) (sym torn.1) (torn_longer at (length part) len (now old) torn.0 le torn.2)
