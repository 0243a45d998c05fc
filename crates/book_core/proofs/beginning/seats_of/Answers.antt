use Rattle.std.proofs.Common.{◌≡◌, ◌∙◌, ap, length, arith}
use Rattle.book_core.proofs.Owns.{seats-push}
use Rattle.book_core.proofs.beginning.seats_of.Goals as goal

pub loop-id-preserved : goal.loop-id-preserved
loop-id-preserved g c =
    let i = c.loop-id.invariant in
    let i₁ = i.1 in
    let i₂ = i.2 in
    let ok = c.loop-id.seats.ok in
    let long : c.loop-id.id ≡ length c.loop-id.seats.items = omega arith in (
      c.split.ensures.same ∙ i.0,
      omega (arith, c.push_reserved.ensures.len),
      omega (arith, c.push_reserved.ensures.capacity),
      rw c.push_reserved.ensures.items (seats-push c.args.directory.now c.args.mark.now c.loop-id.seats.items c.of.result i.3 (record {
        id_is = ap (λ s. s.id) c.of.ensures ∙ long;
        made = ap (λ s. s.made) c.of.ensures;
        of = ap (λ s. s.pass.of) c.of.ensures ∙ c.in-Ok-pass.ensures.0;
        knows = ap (λ s. s.pass.entries) c.of.ensures ∙ c.in-Ok-pass.ensures.1;
        marked =
            let writer = i.0 ∙ c.requires.mark in
            let reader = c.split.ensures.reader in
            ap (λ s. s.mark) c.of.ensures ∙ (λ k. record {
              of = reader.0 k;
              told = (reader.1 ∙ ap (λ w. w.told) writer) k;
              raises = (reader.2 ∙ ap (λ w. w.raises) writer) k;
            });
      })),
    )
