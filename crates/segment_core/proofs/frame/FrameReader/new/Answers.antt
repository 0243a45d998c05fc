use Rattle.std.proofs.Common.{◌<◌, ℕ, List, Ok, Err, length, drop, sym, subst, ◌∙◌, arith}
use Rattle.std.proofs.lemmas.List.{take_rest, length-drop}
use Rattle.segment_core.specs.declared.format.Shape.{Shape}
use Rattle.segment_core.specs.Reading.{BeginsWith, IsNext}
use Rattle.segment_core.proofs.Reader.{same_format, none_unread, none_without_bytes, seen_next, none_next}
use Rattle.segment_core.proofs.frame.FrameReader.new.Goals as goal
use Rattle.segment_core.proofs.frame.FrameReader.new.Goals.{then-width-eq0-via-then-width-eq0, then-width-eq0-via-else-width-eq0+then-bytes-at}

pub returns-in-Err-clause-none : goal.returns-in-Err-clause-none
returns-in-Err-clause-none c = λ format version frame begins. (
    let shape : Shape = record { format = c.in_ok-format.format; width = c.args.width } in
    let same = same_format format c.in_ok-format.format (version ∙ sym c.in_ok-format.ensures.known) in
    let rest = take_rest c.args.bytes.now c.args.at in
    let next = subst (λ (bs : List ℕ). IsNext shape c.args.at bs (Err c.in-Err.field-0)) rest c.in-Err.ensures in
    let some : 0 < length (drop c.args.at c.args.bytes.now) = let l = length-drop c.args.at c.args.bytes.now in let inside = c.if-bytes-at.false in omega arith in
    none_unread shape c.args.at (drop c.args.at c.args.bytes.now) frame c.in-Err.field-0 some next
    (subst (λ f. BeginsWith (record { format = f; width = c.args.width }) (drop c.args.at c.args.bytes.now) frame) same begins))

pub returns-then-width-eq0-clause-none : goal.returns-then-width-eq0-clause-none
returns-then-width-eq0-clause-none c = λ format version frame begins.
    elim c.then-width-eq0.branch [
      | then-width-eq0-via-then-width-eq0 w ↦ (let wide = begins.whole.wide in let none = w.if-width-eq0.true in absurd (omega arith))
      | then-width-eq0-via-else-width-eq0+then-bytes-at w ↦
          none_without_bytes (record { format = format; width = c.args.width }) (drop c.args.at c.args.bytes.now) frame
          (let l = length-drop c.args.at c.args.bytes.now in let past = w.if-bytes-at.true in omega arith) begins
    ]

pub returns-in-Ok-clause-found : goal.returns-in-Ok-clause-found
returns-in-Ok-clause-found c =
    seen_next c.args.version (record { format = c.in_ok-format.format; width = c.args.width }) c.args.at
    (drop c.args.at c.args.bytes.now) c.in-Ok.frame c.in_ok-format.ensures.known
    (subst
    (λ (bs : List ℕ). IsNext (record { format = c.in_ok-format.format; width = c.args.width }) c.args.at bs (Ok c.in-Ok.frame))
    (take_rest c.args.bytes.now c.args.at) c.in-Ok.ensures)

pub returns-in-Ok-clause-none : goal.returns-in-Ok-clause-none
returns-in-Ok-clause-none c =
    none_next c.args.version (record { format = c.in_ok-format.format; width = c.args.width }) c.args.at
    (drop c.args.at c.args.bytes.now) c.in-Ok.frame c.in_ok-format.ensures.known
    (subst
    (λ (bs : List ℕ). IsNext (record { format = c.in_ok-format.format; width = c.args.width }) c.args.at bs (Ok c.in-Ok.frame))
    (take_rest c.args.bytes.now c.args.at) c.in-Ok.ensures)
