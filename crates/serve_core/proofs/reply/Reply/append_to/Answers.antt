use Rattle.std.proofs.Common.{◌≡◌, ◌++◌, ◌∙◌, length, ap}
use Rattle.std.specs.List.{flat_map}
use Rattle.std.specs.Int.{w32, w64, to_le_bytes}
use Rattle.serve_core.specs.declared.reply.Numbers.{Numbers}
use Rattle.serve_core.specs.Answers.{numbers_of, answer_bytes}
use Rattle.serve_core.proofs.Bytes.{on_ok, in_parts}
use Rattle.serve_core.proofs.reply.Reply.append_to.Goals as goal

pub returns : goal.returns
returns g c =
    let numbers = numbers_of c.args.self in
    let old = c.args.out.now.items in
    let form = g.R.Record.form in
    let records = c.args.records.now in
    on_ok (c.append_records.new.out.items ≡ c.extend_from_slice-4.new.self.items ++ flat_map form.bytes_of records)
    (c.append_records.new.out.items ≡ old ++ answer_bytes form c.args.self records) c.append_records.result
    (in_parts old (to_le_bytes w32 numbers.status) (to_le_bytes w32 (length records)) (to_le_bytes w64 numbers.first) (to_le_bytes w64 numbers.second) (flat_map form.bytes_of records)
    c.extend_from_slice.new.self.items c.extend_from_slice-2.new.self.items c.extend_from_slice-3.new.self.items c.extend_from_slice-4.new.self.items c.append_records.new.out.items
    (c.in_ok-extend_from_slice.ensures.items ∙ ap (λ bytes. old ++ bytes) (c.to_le_bytes.ensures ∙ ap (λ (n : Numbers). to_le_bytes w32 n.status) c.numbers-numbers.ensures))
    (c.in_ok-extend_from_slice-2.ensures.items ∙ ap (λ bytes. c.extend_from_slice.new.self.items ++ bytes) c.to_le_bytes-2.ensures)
    (c.in_ok-extend_from_slice-3.ensures.items ∙ ap (λ bytes. c.extend_from_slice-2.new.self.items ++ bytes)
    (c.to_le_bytes-3.ensures ∙ ap (λ (n : Numbers). to_le_bytes w64 n.first) c.numbers-numbers.ensures))
    (c.in_ok-extend_from_slice-4.ensures.items ∙ ap (λ bytes. c.extend_from_slice-3.new.self.items ++ bytes)
    (c.to_le_bytes-4.ensures ∙ ap (λ (n : Numbers). to_le_bytes w64 n.second) c.numbers-numbers.ensures)))
    c.append_records.ensures.bytes
