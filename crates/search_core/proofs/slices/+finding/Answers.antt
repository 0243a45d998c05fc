use Rattle.std.proofs.Common.{◌≡◌, ◌+◌, ◌≤◌, ◌^◌, ◌++◌, Some, ap, sym, subst, length, rules, arith}
use Rattle.std.proofs.lemmas.List.{length-append}
use Rattle.search_core.specs.Search.{records_in, IsFirst}
use Rattle.search_core.proofs.Counts.{records_cut, found_within}
use Rattle.search_core.proofs.Firsts.{first_before, first_behind}
use Rattle.search_core.proofs.slices.+finding.Goals as goal

pub overflow_add-result : goal.overflow_add-result
overflow_add-result g t c =
    let p = g.P.Pick.picks_of c.args.pick.now in
    let front = c.split_at.result.0.now in
    let back = c.split_at.result.1.now in
    let cut : c.args.slices.now ≡ front ++ back = search rules in
    let later = subst (IsFirst p (records_in back)) c.in-None-Some.is-1 c.join-first.ensures.second in
    let all : c.len_of.result + c.in-None-Some.place ≤ 2 ^ 32 = omega (
      arith,
      c.requires.few,
      c.len_of.ensures,
      ap length (records_cut c.args.slices.now front back cut),
      length-append (records_in front) (records_in back),
      found_within p (records_in back) c.in-None-Some.place later.1,
    ) in
    search rules

pub returns-in-Some-default : goal.returns-in-Some-default
returns-in-Some-default g t c =
    let p = g.P.Pick.picks_of c.args.pick.now in
    let front = c.split_at.result.0.now in
    let back = c.split_at.result.1.now in
    let cut : c.args.slices.now ≡ front ++ back = search rules in
    let place = c.in-Some-default.place in
    let first = subst (IsFirst p (records_in front)) c.in-Some-default.is-0 c.join-first.ensures.first in
    subst (λ rs. IsFirst p rs (Some place)) (sym (records_cut c.args.slices.now front back cut)) (first_before p (records_in front) (records_in back) place first)

pub returns-in-None-Some : goal.returns-in-None-Some
returns-in-None-Some g t c =
    let p = g.P.Pick.picks_of c.args.pick.now in
    let front = c.split_at.result.0.now in
    let back = c.split_at.result.1.now in
    let cut : c.args.slices.now ≡ front ++ back = search rules in
    let place = c.in-None-Some.place in
    let none = subst (IsFirst p (records_in front)) c.in-None-Some.is-0 c.join-first.ensures.first in
    let later = subst (IsFirst p (records_in back)) c.in-None-Some.is-1 c.join-first.ensures.second in
    subst (λ n. IsFirst p (records_in c.args.slices.now) (Some (n + place))) (sym c.len_of.ensures)
    (subst (λ rs. IsFirst p rs (Some (length (records_in front) + place))) (sym (records_cut c.args.slices.now front back cut))
    (first_behind p (records_in front) (records_in back) place none later))
