use Rattle.std.proofs.Common.{◌≡◌, ◌+◌, ◌<◌, [], ◌∷◌, ◌++◌, length, take, get_or, sym, ap, ◌∙◌, arith}
use Rattle.std.proofs.lemmas.Grind.{common_steps}
use Rattle.std.proofs.lemmas.List.{append_assoc, take_more}
use Rattle.lines_core.specs.Strict.{after_byte, after_bytes, strict_byte, strict_bytes}
use Rattle.lines_core.proofs.StrictBytes.{after_push, strict_push}
use Rattle.lines_core.proofs.strict.Held.append_strict.Goals as goal

pub loop-at-preserved : goal.loop-at-preserved
loop-at-preserved c =
    let at = c.loop-at.at in
    let bytes = c.args.bytes.now in
    let held = c.args.self.now in
    let before = c.args.out.now.items in
    let b = get_or bytes at 0 in
    let so_far = c.loop-at.invariant in
    let inside : at < length bytes = grind (arith, common_steps) in
    let more : take (at + 1) bytes ≡ take at bytes ++ b ∷ [] = take_more bytes at 0 inside in (
      c.in_ok-append_byte.ensures ∙ ap (λ s. c.loop-at.out.items ++ strict_byte s b) so_far.1
          ∙ ap (λ l. l ++ strict_byte (after_bytes held (take at bytes)) b) so_far.0
          ∙ append_assoc before (strict_bytes held (take at bytes)) (strict_byte (after_bytes held (take at bytes)) b)
          ∙ sym (ap (λ l. before ++ l) (ap (strict_bytes held) more ∙ strict_push held (take at bytes) b)),
      c.after.ensures ∙ ap (λ s. after_byte s b) so_far.1 ∙ sym (ap (after_bytes held) more ∙ after_push held (take at bytes) b),
    )
