use Rattle.std.proofs.Common.{◌≡◌, ℕ, ◌+◌, ◌-◌, ◌<◌, ◌≤◌, inl, inr, List, [], ◌++◌, rules, arith, length, take, slice_range, Option, Result, Ok, sym, ap, ◌∙◌, subst, le_refl, drop_at, length-take-le, eq-zero-or-pos}
use Rattle.std.proofs.lemmas.Grind.{common_steps}
use Rattle.std.proofs.lemmas.Slice.{take-put_mid_below}
use Rattle.std.proofs.lemmas.List.{append-nil}
use Rattle.std.specs.Io.KnownBytes.{Consumes, IsAtEnd, ReadConsumes}
use Rattle.std.proofs.KnownBytes.{Consumes-trans, Consumes-kept}
use borrow.Rule.Slice.PartMut.{put_mid, post_of}
use lib.Seq.{take-add, take-append-le}
use Rattle.serve_core.proofs.reading.fill.Goals as goal

take_split : (a b : ℕ) (old new : List ℕ) → a ≤ b → take a new ≡ take a old → take a old ++ slice_range new a b ≡ take b new
take_split a b old new h front =
    let same : a + (b - a) ≡ b = omega arith in
    ap (λ l. l ++ slice_range new a b) (sym front) ∙ sym (take-add a (b - a) new) ∙ ap (λ n. take n new) same

slice_range-put_mid : (a k n : ℕ) (xs ys : List ℕ) → a ≤ length xs → n ≤ length ys → slice_range (put_mid a k xs ys) a (a + n) ≡ take n ys
slice_range-put_mid a k n xs ys within fits =
    let same : (a + n) - a ≡ n = omega arith in
    let after = post_of a k xs in
    ap (take ((a + n) - a)) (drop_at (take a xs) (ys ++ after) a (length-take-le a xs within)) ∙ ap (λ m. take m (ys ++ after)) same ∙ take-append-le n ys after fits

-- nothing was read, so the bytes have ended
read_none : {E : Type 0} (old new : Option (List ℕ)) (result : Result ℕ E) (n : ℕ) (buf : List ℕ) → result ≡ Ok n → n ≡ 0 → ReadConsumes old new result buf → 0 < length buf
    → Consumes old new [] × IsAtEnd new
read_none {E} old new result n buf is none reads some =
    let at = subst (λ (r : Result ℕ E). ReadConsumes old new r buf) is reads in
    (subst (λ (k : ℕ). Consumes old new (take k buf)) none at.0, at.1 none some)

pub loop-preserved-in-Ok : goal.loop-preserved-in-Ok
loop-preserved-in-Ok g c =
    let from = c.loop.at in
    let room = length c.loop.buffer - from in
    let within = c.loop.invariant.inside in
    let part = slice_range-put_mid from room c.in-Ok.n c.loop.buffer c.read.new.buf within c.in-Ok.ensures.bound.0 in
    let joined = take_split from (from + c.in-Ok.n) c.loop.buffer (put_mid from room c.loop.buffer c.read.new.buf) (omega arith) (take-put_mid_below _ _ _ _ _ (le_refl _) within) in
    record {
      len = search rules;
      inside = search rules;
      read = subst (Consumes _ _) (ap (λ l. take from c.loop.buffer ++ l) (sym part) ∙ joined) (Consumes-trans _ _ _ _ _ c.loop.invariant.read c.in-Ok.ensures.bytes.0);
    }

pub returns-in-Ok-eq0-2 : goal.returns-in-Ok-eq0-2
returns-in-Ok-eq0-2 g c =
    let remaining = g.I.Read.remaining in
    let from = c.loop.at in
    let whole : length (put_mid from (length c.loop.buffer - from) c.loop.buffer c.read.new.buf) ≡ length c.loop.buffer = search rules in
    let long = length-take-le from c.loop.buffer c.loop.invariant.inside in
    let room : 0 < length c.read.new.buf = omega arith in
    let zero : c.in-Ok-eq0-2.field-0 ≡ 0 = first_of (omega arith, search rules, grind (arith, common_steps)) in
    let none = read_none (remaining c.loop.requests) (remaining c.read.new.self) c.read.result c.in-Ok-eq0-2.field-0 c.read.new.buf c.in-Ok-eq0-2.is zero c.read.ensures.bytes room in
    let some : 0 < from = elim (eq-zero-or-pos from) [ inl zero ↦ absurd (c.if-at-eq0.false zero) | inr more ↦ more ] in
    record {
      part = take from c.loop.buffer;
      short = omega arith;
      read = subst (Consumes _ _) (append-nil (take from c.loop.buffer)) (Consumes-trans _ _ _ _ _ c.loop.invariant.read none.0);
      ended = (omega arith, none.1);
    }

pub returns-in-Err-2 : goal.returns-in-Err-2
returns-in-Err-2 g c =
    let from = c.loop.at in
    let whole : length (put_mid from (length c.loop.buffer - from) c.loop.buffer c.read.new.buf) ≡ length c.loop.buffer = search rules in
    let long = length-take-le from c.loop.buffer c.loop.invariant.inside in
    record {
      part = take from c.loop.buffer;
      short = omega arith;
      read = Consumes-kept _ _ _ _ c.loop.invariant.read c.in-Err-2.ensures.bytes;
      ended = tt;
    }
