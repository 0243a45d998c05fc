use Rattle.std.proofs.Common.{ℕ, ◌+◌, ◌*◌, ◌≤◌, ◌∷◌, length, ap, ◌∙◌, arith}
use Rattle.std.specs.Int.{w32, to_le_bytes}
use Rattle.std.proofs.lemmas.Bool.{false≢true}
use Rattle.std.proofs.lemmas.Result.{on_ok_weaker}
use Rattle.std.proofs.lemmas.List.{length-append}
use Rattle.std.proofs.lemmas.Nat.{mul-le}
use Rattle.segment_core.specs.Frame.{number_len, runs_text, runs_len, records_of_runs}
use Rattle.segment_core.specs.Runs.{runs_given}
use Rattle.segment_core.proofs.RunRows.{length-runs_text}
use Rattle.segment_core.proofs.Changes.{length-runs_given, change_appended}
use Rattle.segment_core.proofs.change.append_change.Goals as goal

pub returns-clause-text : goal.returns-clause-text
returns-clause-text g c =
    let laws = g.met.R.Record g.world.𝓛 g.world.𝓜 g.world.𝓡 ((λ s x. x), (λ x. x), (λ x. x), λ x. x) in
    on_ok_weaker c.append_growths.result
    (λ bytes.
    change_appended c.args.format g.R.Record.form (runs_given c.args.runs.now)
    (g.G.GrowthList.growths c.args.pieces.now) c.args.payload_len c.args.file.now.items
    c.append_head.new.file.items c.append_runs.new.file.items c.append_growths.new.file.items
    laws.width_of_bytes c.requires.filled c.requires.len c.in_ok-append_head.ensures.text c.in_ok-append_runs.ensures.text bytes) c.append_growths.ensures.bytes

pub returns-clause-room : goal.returns-clause-room
returns-clause-room g c room =
    let runs = runs_given c.args.runs.now in
    let headed = ap length c.in_ok-append_head.ensures.text ∙ length-append c.args.file.now.items (1 ∷ 2 ∷ to_le_bytes w32 c.args.payload_len) in
    let written = ap length c.in_ok-append_runs.ensures.text ∙ length-append c.append_head.new.file.items (runs_text c.args.format runs) in
    let head = length-runs_text c.args.format runs in
    let first = c.append_head.ensures.capacity in
    let second = c.append_runs.ensures.capacity in
    let filled = ap (λ n. n * g.R.Record.form.width) c.requires.filled in
    c.append_growths.ensures.room (omega (arith, c.requires.len))

-- what is asked of the runs
pub append_runs-requires-clause-runs : goal.append_runs-requires-clause-runs
append_runs-requires-clause-runs g c =
    let n : ℕ = length (runs_given c.args.runs.now) in
    let same = length-runs_given c.args.runs.now in
    let least : n * 1 ≤ n * (8 + number_len c.args.format) = mul-le n 1 n (8 + number_len c.args.format) (omega arith) (omega arith) in
    let len = c.requires.len in
    let small = c.requires.small in
    omega arith

pub append_runs-requires-clause-records : goal.append_runs-requires-clause-records
append_runs-requires-clause-records g c =
    let laws = g.met.R.Record g.world.𝓛 g.world.𝓜 g.world.𝓡 ((λ s x. x), (λ x. x), (λ x. x), λ x. x) in
    let n : ℕ = records_of_runs (runs_given c.args.runs.now) in
    let least : n * 1 ≤ n * g.R.Record.form.width = mul-le n 1 n g.R.Record.form.width (omega arith) laws.width_in_range.0 in
    let len = c.requires.len in
    let small = c.requires.small in
    omega arith

pub returns-in_err-append_runs-clause-room : goal.returns-in_err-append_runs-clause-room
returns-in_err-append_runs-clause-room g c room =
    let headed = ap length c.in_ok-append_head.ensures.text ∙ length-append c.args.file.now.items (1 ∷ 2 ∷ to_le_bytes w32 c.args.payload_len) in
    let grown = c.append_head.ensures.capacity in
    let heads = ap (runs_len c.args.format) (length-runs_given c.args.runs.now) in
    let len = c.requires.len in
    absurd (false≢true (c.in_err-append_runs.ensures.room (omega arith)))
