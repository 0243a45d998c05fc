use Rattle.std.proofs.Common.{rules, ◌≡◌, List, ℕ, subst, length}
use Rattle.disk_core.specs.Shared.{WasThere, WereThere}
use Rattle.follow_core.proofs.Fronts.{were_there, counted_all, counted_more}
use Rattle.follow_core.proofs.telling.count_frame.Goals as goal

pub returns-in-Ok-clause-counted : goal.returns-in-Ok-clause-counted
returns-in-Ok-clause-counted g c = λ kept frames file first.
    counted_all c.args.shape (g.S.Shared.held c.args.file.now) frames file (g.S.Shared.now c.args.file.now) (g.S.Shared.now c.read_gate.new.file) c.args.summary first c.in-Ok.field-0
    (c.in-Ok.ensures.there kept) c.in-Ok.field-0-test.1

pub returns-in-Ok-with_front-clause-counted : goal.returns-in-Ok-with_front-clause-counted
returns-in-Ok-with_front-clause-counted g c = λ kept frames file first.
    let held = g.S.Shared.held c.args.file.now in
    let r = c.in-Ok-read_at.ensures in
    let gate = c.in-Ok-eq1.ensures in
    let s = g.S.Shared.now c.args.file.now in
    let t = g.S.Shared.now c.read_gate.new.file in
    let u = g.S.Shared.now c.read_at.new.self in
    let front : List ℕ = c.read_at.new.out in
    let long : length front ≡ 14 = search rules in
    let there : WereThere held t u c.args.summary.gate front = subst (λ h. WereThere h t u c.args.summary.gate front) gate.same (were_there (g.S.Shared.held c.read_gate.new.file) t u c.args.summary.gate front (r.each kept)) in
    let was : WasThere held s t c.args.summary.gate c.in-Ok-eq1.field-0 = gate.there (r.model kept) in
    rw c.in-Ok-with_front.is at (counted_more c.args.shape held frames file s t c.args.summary first u c.in-Ok-eq1.field-0 r.time was c.in-Ok-eq1.field-0-test front long there c.with_front.result
    c.with_front.ensures.counted)

pub returns-in-Err-with_front-clause-counted : goal.returns-in-Err-with_front-clause-counted
returns-in-Err-with_front-clause-counted g c = λ kept frames file first.
    let held = g.S.Shared.held c.args.file.now in
    let r = c.in-Ok-read_at.ensures in
    let gate = c.in-Ok-eq1.ensures in
    let s = g.S.Shared.now c.args.file.now in
    let t = g.S.Shared.now c.read_gate.new.file in
    let u = g.S.Shared.now c.read_at.new.self in
    let front : List ℕ = c.read_at.new.out in
    let long : length front ≡ 14 = search rules in
    let there : WereThere held t u c.args.summary.gate front = subst (λ h. WereThere h t u c.args.summary.gate front) gate.same (were_there (g.S.Shared.held c.read_gate.new.file) t u c.args.summary.gate front (r.each kept)) in
    let was : WasThere held s t c.args.summary.gate c.in-Ok-eq1.field-0 = gate.there (r.model kept) in
    rw c.in-Err-with_front.is at (counted_more c.args.shape held frames file s t c.args.summary first u c.in-Ok-eq1.field-0 r.time was c.in-Ok-eq1.field-0-test front long there c.with_front.result
    c.with_front.ensures.counted)
