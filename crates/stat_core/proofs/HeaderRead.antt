-- A header that was read is that of the whole file.
use Rattle.std.proofs.Common.{◌≡◌, ◌≤◌, ◌+◌, ◌-◌, ◌++◌, [], ◌∷◌, zero-add, Some, ℕ, Bool, true, false, List, length, take, drop, min, sym, ap, subst, ◌∙◌, arith, refl}
use Rattle.std.specs.Prelude.{nat_lt}
use Rattle.std.specs.List.{slice_range}
use Rattle.std.proofs.lemmas.Bool.{ltb-true, ltb-false}
use Rattle.std.proofs.lemmas.List.{take_all, take-append-le, take-append-drop, length-take, length-take-le}
use Rattle.segment_core.specs.declared.fault.ScanFault.{ScanFault}
use Rattle.segment_core.specs.declared.format.Format.{Format}
use Rattle.segment_core.specs.Fault.{header_fault, IsSound, IsHeaderFault}
use Rattle.segment_core.proofs.Header.{header_of_none, header_fault-append, format_in-append}

-- a sound header has eleven bytes
pub sound_long : (width : ℕ) (format : Format) (front : List ℕ) → IsSound width format front → 11 ≤ length front
sound_long width format front sound = let has = header_of_none width front sound.no_fault in has.long

sound_more : (width : ℕ) (format : Format) (image : List ℕ) → 11 ≤ length (take 11 image) → IsSound width format (take 11 image) → IsSound width format image
sound_more width format image long sound = subst (IsSound width format) (take-append-drop 11 image) (record {
  no_fault = header_fault-append width (take 11 image) (drop 11 image) long ∙ sound.no_fault;
  names = format_in-append (take 11 image) (drop 11 image) (omega arith) ∙ sound.names;
})

pub sound_here : (width : ℕ) (format : Format) (image front : List ℕ) (n : ℕ)
    → n ≡ min 11 (length image) → front ≡ take n image → IsSound width format front
    → IsSound width format image
sound_here width format image front n size is sound =
    let long = sound_long width format front sound in
    let len : length front ≡ min n (length image) = ap length is ∙ length-take n image in
    let eleven : n ≡ 11 = omega arith in
    let front_is : front ≡ take 11 image = is ∙ ap (λ k. take k image) eleven in
    sound_more width format image (subst (λ (bs : List ℕ). 11 ≤ length bs) front_is long) (subst (IsSound width format) front_is sound)

pub fault_here : (image front : List ℕ) (n : ℕ) (fault : ScanFault) → n ≡ min 11 (length image) → front ≡ take n image → IsHeaderFault front fault → IsHeaderFault image fault
fault_here image front n fault size is faulty width wide = by_length (nat_lt (length image) 11) refl
  where
    by_length : (b : Bool) → nat_lt (length image) 11 ≡ b → header_fault width image ≡ Some fault
    by_length true short =
        let less = ltb-true _ _ short in
        ap (header_fault width) (sym (is ∙ take_all n image (omega arith))) ∙ faulty width wide
    by_length false long =
        let more = ltb-false _ _ long in
        let eleven : n ≡ 11 = omega arith in
        let front_is : front ≡ take 11 image = is ∙ ap (λ k. take k image) eleven in
        let len = length-take 11 image in
        ap (header_fault width) (sym (take-append-drop 11 image))
        ∙ header_fault-append width (take 11 image) (drop 11 image) (omega arith)
        ∙ ap (header_fault width) (sym front_is)
        ∙ faulty width wide

-- ---- the bytes as they are read into a buffer

-- what the buffer held before
abbrev pub zeros : List ℕ
zeros = 0 ∷ 0 ∷ 0 ∷ 0 ∷ 0 ∷ 0 ∷ 0 ∷ 0 ∷ 0 ∷ 0 ∷ 0 ∷ []

pub header_bytes : (image out : List ℕ) (n bytes : ℕ)
    → n ≡ min 11 bytes → bytes ≡ length image → out ≡ slice_range image 0 (0 + length (take n zeros))
    → take n (out ++ drop n zeros) ≡ take n image
header_bytes image out n bytes small size is =
    let zeros_long : length (take n zeros) ≡ n = length-take-le n zeros (omega arith) in
    let all : n - 0 ≡ n = omega arith in
    let out_is : out ≡ take n image = is ∙ ap (λ k. slice_range image 0 k) (ap (λ k. 0 + k) zeros_long ∙ zero-add n) ∙ ap (λ k. take k image) all in
    let long : n ≤ length out = subst (λ (bs : List ℕ). n ≤ length bs) (sym out_is) (let l = length-take-le n image (omega arith) in omega arith) in
    let len : length out ≡ n = ap length out_is ∙ length-take-le n image (omega arith) in
    take-append-le n out (drop n zeros) long ∙ take_all n out (omega arith) ∙ out_is

pub long_enough : (xs : List ℕ) (n bytes : ℕ) → 11 ≤ length (take n xs) → n ≡ min 11 bytes → 11 ≤ bytes
long_enough xs n bytes long is = let l = length-take n xs in omega arith
