use Rattle.std.proofs.Common.{ℕ, ◌+◌, ◌*◌, ◌≤◌, List, ◌++◌, length, get_or, sym, ap, ◌∙◌, append_assoc, arith}
use Rattle.std.specs.List.{flat_map}
use Rattle.std.proofs.lemmas.Bool.{false≢true}
use Rattle.std.proofs.lemmas.List.{take_all}
use Rattle.std.proofs.lemmas.Nat.{mul-le}
use Rattle.segment_core.specs.Frame.{number_len, number_text, run_text}
use Rattle.segment_core.specs.Runs.{runs_given}
use Rattle.segment_core.proofs.Changes.{count_within, length-runs_given, run_texts_more, length-run_texts_so_far}
use Rattle.segment_core.proofs.change.append_runs.Goals as goal

pub overflow_cast-count : goal.overflow_cast-count
overflow_cast-count c =
    let within = count_within c.args.runs.now c.loop-k.k (0, 0) c.loop-k-test.true in
    let few = c.requires.records in
    omega arith

pub returns-in_err-append_run-clause-room : goal.returns-in_err-append_run-clause-room
returns-in_err-append_run-clause-room c room =
    let n = length c.args.runs.now in
    let size = 8 + number_len c.args.format in
    let so_far = ap length c.loop-k.invariant.text ∙ length-run_texts_so_far c.args.format c.args.file.now.items n c.args.runs.now c.loop-k.k (omega arith) in
    let most : (c.loop-k.k + 1) * size ≤ n * size = mul-le (c.loop-k.k + 1) size n size (omega arith) (omega arith) in
    let grown = c.loop-k.invariant.capacity in
    absurd (false≢true (c.in_err-append_run.ensures.room (omega arith)))

pub loop-k-preserved : goal.loop-k-preserved
loop-k-preserved c =
    let runs = c.args.runs.now in
    let k : ℕ = c.loop-k.k in
    let front : List ℕ = c.args.file.now.items ++ number_text c.args.format (length runs) in
    let so_far = c.loop-k.invariant.capacity in
    let grown = c.append_run.ensures.capacity in
    record {
      text =
          c.in_ok-append_run.ensures.text
          ∙ ap (λ (bs : List ℕ). bs ++ run_text c.args.format (record { start = (get_or runs k (0, 0)).0; count = (get_or runs k (0, 0)).1 })) c.loop-k.invariant.text
          ∙ run_texts_more c.args.format front runs k (0, 0) c.loop-k-test.true;
      capacity = omega arith;
    }

pub returns-clause-text : goal.returns-clause-text
returns-clause-text c =
    let runs = c.args.runs.now in
    let file = c.args.file.now.items in
    let number : List ℕ = number_text c.args.format (length runs) in
    let texts : List ℕ = flat_map (run_text c.args.format) (runs_given runs) in
    c.loop-k.invariant.text
    ∙ ap (λ (rs : List (ℕ × ℕ)). (file ++ number) ++ flat_map (run_text c.args.format) (runs_given rs)) (take_all c.loop-k.k runs c.loop-k-test.false)
    ∙ append_assoc file number texts
    ∙ ap (λ n. file ++ (number_text c.args.format n ++ texts)) (sym (length-runs_given runs))
