use Rattle.std.proofs.Common.{◌≡◌, ℕ, ◌+◌, ◌-◌, ◌*◌, ap, ◌∙◌}
use Rattle.segment_core.specs.Reading.{record_count}
use Rattle.cvec_c.specs.declared.frame.CvecFrame.{CvecFrame}
use Rattle.cvec_c.proofs.FrameTold.{frame_told}
use Rattle.cvec_c.proofs.frame.cvec_image_frame.Goals as goal

pub returns-clause-done : goal.returns-clause-done
returns-clause-done c = λ _. (
    let found = c.in-Some.ensures.found in
    let seen = c.in-Some.frame in
    let next : ℕ = c.args.at + 6 + c.from.result in
    let fields : CvecFrame = record {
      first_record = next - c.from-2.result * c.from-3.result;
      next = next;
      payload_len = c.payload_len-2.result;
      growths = c.growths_of.result;
      records = c.records-2.result;
      kind = c.kind_code.result;
    } in
    let product : c.from-2.result * c.from-3.result ≡ record_count seen.frame * c.args.width
    = ap (λ n. n * c.from-3.result) (c.from-2.ensures ∙ c.records.ensures)
    ∙ ap (λ n. record_count seen.frame * n) c.from-3.ensures in
    frame_told c.args.image.now c.args.at c.args.version c.args.width seen.shape seen.frame fields found.0 found.2 found.3
    (c.kind_code.ensures ∙ c.kind.ensures) c.payload_len-2.ensures c.growths_of.ensures c.records-2.ensures
    (ap (λ n. c.args.at + 6 + n) (c.from.ensures ∙ c.payload_len.ensures)) (ap (λ n. next - n) product))
