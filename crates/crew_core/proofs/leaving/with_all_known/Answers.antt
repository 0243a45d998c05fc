use Rattle.std.proofs.Common.{◌≡◌, ◌++◌, List, length, take, drop, sym, ap, subst, ◌∙◌, rules, arith}
use Rattle.std.proofs.lemmas.Grind.{common_steps}
use Rattle.book_core.specs.Lists.{Seated}
use Rattle.vault_core.specs.Gathering.{IsGatherFault, most_known}
use Rattle.crew_core.proofs.Left.{refused_still}
use Rattle.crew_core.proofs.leaving.with_all_known.Goals as goal

pub returns-clause-refused : goal.returns-clause-refused
returns-clause-refused g c =
    let gathering = c.args.gathering in
    let seats = gathering.seats.items in
    let learnt = c.learn_all.new.seats in
    let all : take gathering.seats.len (learnt ++ drop (length learnt) seats) ≡ seats = first_of (search rules, grind (arith, common_steps)) in
    let known = c.learn_all.ensures.known ∙ ap (λ (ss : List (Seated _)). most_known ss (length gathering.flusher.pass.entries)) c.as_mut_slice.ensures.value in
    subst (λ (ss : List (Seated _)). IsGatherFault gathering.live ss c.learn_all.new.flusher gathering.fault) (sym all)
    (refused_still gathering.live seats gathering.flusher c.learn_all.new.flusher c.learn_all.ensures.learns known gathering.fault c.requires.refused)

pub returns-clause-same : goal.returns-clause-same
returns-clause-same g c = grind (arith, common_steps)
