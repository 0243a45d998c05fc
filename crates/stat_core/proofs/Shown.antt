-- The front of a frame, as a window shows it.
use Rattle.std.proofs.Common.{◌≡◌, ◌≤◌, ℕ, ◌+◌, ◌-◌, min, List, ◌++◌, length, take, drop, sym, ap, ◌∙◌, arith}
use Rattle.std.proofs.lemmas.List.{drop-take, take-take, drop-drop, take-append-drop, length-drop, length-take-le}
use Rattle.stat_core.specs.declared.window.ByteWindow.{ByteWindow}
use Rattle.segment_core.specs.FrameHead.{IsFrontOf}
use Rattle.stat_core.specs.Window.{HoldsWindow, IsWithin}

-- the same place in the buffer and in the file
same_bytes : (image buffer : List ℕ) (window : ByteWindow) (at n : ℕ)
    → HoldsWindow image buffer window → window.start ≤ at → at + n ≤ window.start + window.len
    → take n (drop (at - window.start) buffer) ≡ take n (drop at image)
same_bytes image buffer window at n holds starts reaches =
    let k : ℕ = at - window.start in
    let inside : k + n ≤ window.len = omega arith in
    let there : window.start + k ≡ at = omega arith in
    sym (drop-take k n buffer)
    ∙ ap (drop k) (sym (take-take (k + n) window.len buffer inside) ∙ ap (take (k + n)) holds ∙ take-take (k + n) window.len (drop window.start image) inside)
    ∙ drop-take k n (drop window.start image)
    ∙ ap (take n) (drop-drop k window.start image ∙ ap (λ i. drop i image) there)

pub shown_front : (image buffer : List ℕ) (window : ByteWindow) (at bytes n : ℕ)
    → length image ≡ bytes → at ≤ bytes → n ≡ min 14 (bytes - at) → IsWithin (length buffer) at bytes window
    → HoldsWindow image buffer window
    → IsFrontOf (drop at image) (take n (drop (at - window.start) buffer)) (bytes - at)
shown_front image buffer window at bytes n size inside is within holds =
    let starts = within.starts in
    let reaches = within.reaches in
    let same = same_bytes image buffer window at n holds starts (omega arith) in
    let left = length-drop at image in
    record {
      size = omega arith;
      enough = ap length same ∙ length-take-le n (drop at image) (omega arith) ∙ is;
      rest = drop n (drop at image);
      is = sym (take-append-drop n (drop at image)) ∙ ap (λ (bs : List ℕ). bs ++ drop n (drop at image)) (sym same);
    }
