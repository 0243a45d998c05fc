use Rattle.std.proofs.Common.{◌<◌, length, get_or, sym, ap, subst, ◌∙◌}
use Rattle.segment_core.specs.Reading.{Seen, lengths_of}
use Rattle.segment_core.proofs.Reader.{length_read}
use Rattle.segment_core.proofs.frame.FrameReader.length.Goals as goal

pub returns : goal.returns
returns c =
    let r = c.self.inside in
    let below = subst (λ (s : Seen). c.args.k < length (lengths_of s.frame)) (sym c.self.view_is) c.requires in
    c.u32_at.ensures ∙ length_read r.shape r.payload.now r.kind c.args.k below ∙ ap (λ (s : Seen). get_or (lengths_of s.frame) c.args.k 0) c.self.view_is
