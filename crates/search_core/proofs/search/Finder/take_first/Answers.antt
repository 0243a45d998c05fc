use Rattle.std.proofs.Common.{◌+◌, ◌≤◌, ◌^◌, rules, arith}
use Rattle.search_core.proofs.Counts.{found_within}
use Rattle.search_core.proofs.search.Finder.take_first.Goals as goal

pub overflow_add-result : goal.overflow_add-result
overflow_add-result g c =
    let within = found_within (g.P.Pick.picks_of c.args.pick.now) c.args.self.now.batch.1 c.in-Some.place c.in-Some.ensures.found.1 in
    let all : c.args.self.now.before + c.in-Some.place ≤ 2 ^ 32 = omega (arith, c.args.self.now.all, within, c.requires.few) in
    search rules
