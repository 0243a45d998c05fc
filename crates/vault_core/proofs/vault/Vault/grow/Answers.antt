use Rattle.std.proofs.Common.{◌≡◌, ◌+◌, ◌*◌, ◌++◌, ◌∷◌, [], List, length, take, ◌-◌, replicate, arith, ap, sym, subst, ◌∙◌, refl}
use Rattle.std.proofs.lemmas.List.{take_at, length-append}
use Rattle.pen_core.specs.declared.fault.PenFault.TheVariants.{Memory}
use Rattle.pen_core.specs.Refusals.{group_lines}
use Rattle.book_core.specs.Lists.{records_of}
use Rattle.vault_core.specs.Vault.{IsVault, vault_of}
use Rattle.vault_core.proofs.Kept.{mid_whole, unchanged_kept}
use Rattle.vault_core.proofs.Commands.{refused_command, first_refused, memory_refused, quiet, stands_was, stands_made, unchanged-refl}
use Rattle.vault_core.proofs.Grows.{grown, grown_refused, grown_some, grown_each}
use Rattle.std.proofs.lemmas.Grind.{common_steps}
use Rattle.vault_core.proofs.vault.Vault.grow.Goals as goal

pub returns-in-Err-begin_growths-clause-command : goal.returns-in-Err-begin_growths-clause-command
returns-in-Err-begin_growths-clause-command g c = rw (← c.self.view_is) (
    let form = g.R.Record.form in
    let s = c.self.inside in
    let copies = replicate c.args.more c.args.v ∷ [] in
    let pushed = c.in-Ok-push.ensures.ok ∙ ap (λ b. s.blocks ++ b ∷ []) c.in-Ok.ensures in
    let fault = c.in-Err-begin_growths.fault in
    let f = c.in-Err-begin_growths.ensures in
    let back : c.pop.new.self ≡ s.blocks =
    c.pop.ensures ∙ ap (λ (bs : List (List g.row.R.Denot)). take (length bs - 1) bs) pushed
    ∙ take_at s.blocks copies _ (omega (arith, length-append s.blocks copies)) in
    let why = grown_refused c.args.more c.args.v s.blocks c.push.new.self (records_of c.last.result.now) pushed c.last.ensures form s.pen fault f.refused in
    rw back (
    refused_command form g.D.Disk.keeps g.D.Disk.states g.D.Disk.faults _ c.self.invariant _ (group_lines s.pen c.args.more (8 + c.args.more * form.width))
    c.begin_growths.new.self fault f.unchanged (refl, (refl, (refl, (refl, (refl, tt))))) why))

pub invariant_of-self-2 : goal.invariant_of-self-2
invariant_of-self-2 g c =
    let s = c.self.inside in
    let begun = grown c.args.more c.args.v s.blocks c.push.new.self (records_of c.last.result.now)
    (c.in-Ok-push.ensures.ok ∙ ap (λ b. s.blocks ++ b ∷ []) c.in-Ok.ensures) c.last.ensures g.R.Record.form g.D.Disk.keeps s.pen c.self.invariant
    c.in_default.ensures.whole c.begin_growths.new.self c.in_default-begin_growths.ensures.begun c.in_default-begin_growths.ensures.next in
    c.commit.ensures.kept _ _ begun

pub returns-clause-blocks : goal.returns-clause-blocks
returns-clause-blocks g c = rw (← c.self.view_is) (
    let s = c.self.inside in
    let begun = grown c.args.more c.args.v s.blocks c.push.new.self (records_of c.last.result.now)
    (c.in-Ok-push.ensures.ok ∙ ap (λ b. s.blocks ++ b ∷ []) c.in-Ok.ensures) c.last.ensures g.R.Record.form g.D.Disk.keeps s.pen c.self.invariant
    c.in_default.ensures.whole c.begin_growths.new.self c.in_default-begin_growths.ensures.begun c.in_default-begin_growths.ensures.next in
    stands_made _ _ c.commit.result (c.commit.ensures.stops (mid_whole begun)) (c.in-Ok-push.ensures.ok ∙ ap (λ b. c.self.inside.blocks ++ b ∷ []) c.in-Ok.ensures))

pub returns-clause-command : goal.returns-clause-command
returns-clause-command g c = rw (← c.self.view_is) (
    let s = c.self.inside in
    let begun = grown c.args.more c.args.v s.blocks c.push.new.self (records_of c.last.result.now)
    (c.in-Ok-push.ensures.ok ∙ ap (λ b. s.blocks ++ b ∷ []) c.in-Ok.ensures) c.last.ensures g.R.Record.form g.D.Disk.keeps s.pen c.self.invariant
    c.in_default.ensures.whole c.begin_growths.new.self c.in_default-begin_growths.ensures.begun c.in_default-begin_growths.ensures.next in
    c.commit.ensures.command _ _ begun _ c.in_default.ensures.allowed)

-- ---- refused

pub returns-in-Err-clause-blocks : goal.returns-in-Err-clause-blocks
returns-in-Err-clause-blocks g c =
    let lines = group_lines c.self.inside.pen c.args.more (8 + c.args.more * g.R.Record.form.width) in
    stands_was _ _ c.in-Err.fault
    (quiet lines c.in-Err.fault (refl, (refl, (refl, (refl, (refl, tt))))) (first_refused lines c.in-Err.fault c.in-Err.ensures.refused)) refl

pub returns-in-Err-clause-command : goal.returns-in-Err-clause-command
returns-in-Err-clause-command g c = rw (← c.self.view_is) (
    let form = g.R.Record.form in
    let pen = c.self.inside.pen in
    let lines = group_lines pen c.args.more (8 + c.args.more * form.width) in
    refused_command form g.D.Disk.keeps g.D.Disk.states g.D.Disk.faults _ c.self.invariant _ lines pen c.in-Err.fault
    (unchanged-refl pen) (refl, (refl, (refl, (refl, (refl, tt))))) (first_refused lines c.in-Err.fault c.in-Err.ensures.refused))

pub returns-in_default-copies-clause-command : goal.returns-in_default-copies-clause-command
returns-in_default-copies-clause-command g c = rw (← c.self.view_is) (
    let form = g.R.Record.form in
    let pen = c.self.inside.pen in
    let lines = group_lines pen c.args.more (8 + c.args.more * form.width) in
    refused_command form g.D.Disk.keeps g.D.Disk.states g.D.Disk.faults _ c.self.invariant _ lines pen Memory
    (unchanged-refl pen) (refl, (refl, (refl, (refl, (refl, tt))))) (memory_refused lines c.in_default.ensures.allowed))

pub invariant_of-self : goal.invariant_of-self
invariant_of-self g c =
    let s = c.self.inside in
    subst (λ blocks. IsVault (g.D.Disk.keeps s.pen.disk) g.R.Record.form (vault_of g.R.Record.form s.pen blocks)) (sym c.in_default-push.ensures.refused) c.self.invariant

pub returns-in_default-push-clause-command : goal.returns-in_default-push-clause-command
returns-in_default-push-clause-command g c = rw (← c.self.view_is) (
    let form = g.R.Record.form in
    let pen = c.self.inside.pen in
    let lines = group_lines pen c.args.more (8 + c.args.more * form.width) in
    rw c.in_default-push.ensures.refused (
    refused_command form g.D.Disk.keeps g.D.Disk.states g.D.Disk.faults _ c.self.invariant _ lines pen Memory
    (unchanged-refl pen) (refl, (refl, (refl, (refl, (refl, tt))))) (memory_refused lines c.in_default.ensures.allowed)))

pub begin_growths-requires-clause-some : goal.begin_growths-requires-clause-some
begin_growths-requires-clause-some g c κs within =
    grown_some c.args.more c.args.v c.self.inside.blocks c.push.new.self (records_of c.last.result.now)
    (c.in-Ok-push.ensures.ok ∙ ap (λ b. c.self.inside.blocks ++ b ∷ []) c.in-Ok.ensures) c.last.ensures

pub begin_growths-requires-clause-each : goal.begin_growths-requires-clause-each
begin_growths-requires-clause-each g c κs within =
    grown_each c.args.more c.args.v c.self.inside.blocks c.push.new.self (records_of c.last.result.now)
    (c.in-Ok-push.ensures.ok ∙ ap (λ b. c.self.inside.blocks ++ b ∷ []) c.in-Ok.ensures) c.last.ensures c.requires

pub invariant_of-self-in-Err-begin_growths : goal.invariant_of-self-in-Err-begin_growths
invariant_of-self-in-Err-begin_growths g c =
    let form = g.R.Record.form in
    let s = c.self.inside in
    let pen = c.begin_growths.new.self in
    let copies = replicate c.args.more c.args.v ∷ [] in
    let pushed = c.in-Ok-push.ensures.ok ∙ ap (λ b. s.blocks ++ b ∷ []) c.in-Ok.ensures in
    let same = c.in-Err-begin_growths.ensures.unchanged in
    let back : c.pop.new.self ≡ s.blocks =
    c.pop.ensures ∙ ap (λ (bs : List (List g.row.R.Denot)). take (length bs - 1) bs) pushed
    ∙ take_at s.blocks copies _ (omega (arith, length-append s.blocks copies)) in
    subst (λ blocks. IsVault (g.D.Disk.keeps pen.disk) form (vault_of form pen blocks)) (sym back)
    (unchanged_kept form (g.D.Disk.keeps s.pen.disk) _ c.self.invariant pen (g.D.Disk.keeps pen.disk) same (subst g.D.Disk.keeps same.disk_same))

pub returns-in-Err-begin_growths-clause-blocks : goal.returns-in-Err-begin_growths-clause-blocks
returns-in-Err-begin_growths-clause-blocks g c = rw (← c.self.view_is) (
    let form = g.R.Record.form in
    let s = c.self.inside in
    let copies = replicate c.args.more c.args.v ∷ [] in
    let pushed = c.in-Ok-push.ensures.ok ∙ ap (λ b. s.blocks ++ b ∷ []) c.in-Ok.ensures in
    let fault = c.in-Err-begin_growths.fault in
    let back : c.pop.new.self ≡ s.blocks =
    c.pop.ensures ∙ ap (λ (bs : List (List g.row.R.Denot)). take (length bs - 1) bs) pushed
    ∙ take_at s.blocks copies _ (omega (arith, length-append s.blocks copies)) in
    let why =
    grown_refused c.args.more c.args.v s.blocks c.push.new.self (records_of c.last.result.now) pushed c.last.ensures form s.pen fault
    c.in-Err-begin_growths.ensures.refused in
    stands_was _ _ fault (quiet (group_lines s.pen c.args.more (8 + c.args.more * form.width)) fault (refl, (refl, (refl, (refl, (refl, tt))))) why) back)

pub last-requires-after_bounds : goal.last-requires-after_bounds
last-requires-after_bounds g c κs within = grind (arith, common_steps)

pub push-requires-after_bounds : goal.push-requires-after_bounds
push-requires-after_bounds g c κs within = grind (arith, common_steps)
