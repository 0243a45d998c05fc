use Rattle.std.proofs.Common.{◌≡◌, ◌<◌, List, length, get_or, ap, subst, ◌∙◌, arith}
use Rattle.std.specs.Prelude.{slice_set}
use Rattle.std.proofs.lemmas.List.{set-get_or}
use Rattle.directory_core.specs.Chain.{IsLongerOf}
use Rattle.book_core.specs.Lists.{Seated, StandInList}
use Rattle.vault_core.proofs.Handed.{FlusherLearns-trans}
use Rattle.crew_core.proofs.Left.{get_or_any, known_more, begin_more, stand_more}
use Rattle.std.proofs.lemmas.Grind.{common_steps}
use Rattle.crew_core.proofs.leaving.learn_all.Goals as goal

pub loop-k-preserved : goal.loop-k-preserved
loop-k-preserved g c =
    let i = c.loop-k.invariant in
    let seats = c.args.seats.now in
    let k = c.loop-k.k in
    let old = c.loop-k.flusher.pass.entries in
    let new = c.meet.new.self.pass.entries in
    let most = length c.args.flusher.now.pass.entries in
    let seat = c.index-seats-k-in-loop-k.result in
    let read = c.index-seats-k.result in
    let many = ap length i.same in
    let lt : k < length seats = omega arith in
    let longer : IsLongerOf old (get_or seats k seat).pass.entries new =
    subst (λ (s : Seated _). IsLongerOf old s.pass.entries new)
    (ap (λ (ss : List (Seated _)). get_or ss k seat) i.same) c.meet.ensures.meets in
    let here : StandInList (get_or seats k seat) =
    subst StandInList (ap (λ (ss : List (Seated _)). get_or ss k read) i.same ∙ get_or_any seats k read seat lt)
    c.serial-made.ensures.stand_in_list in
    record {
      same = ap (λ (s : Seated _). slice_set c.loop-k.seats k s) c.meet.ensures.same
          ∙ set-get_or c.loop-k.seats k seat ∙ i.same;
      learns = FlusherLearns-trans c.args.flusher.now c.loop-k.flusher c.meet.new.self i.learns c.meet.ensures.learns;
      known = known_more seats k most lt old new seat longer i.known;
      begin = begin_more seats k most lt old new seat longer i.begin;
      stand = stand_more seats k most lt old new seat longer here i.stand;
    }

pub returns-clause-known : goal.returns-clause-known
returns-clause-known g c = grind (arith, common_steps)

pub loop-k-init : goal.loop-k-init
loop-k-init g c = grind (arith, common_steps)
