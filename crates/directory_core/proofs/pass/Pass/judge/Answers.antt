use Rattle.std.proofs.Common.{◌++◌, length, option_to_list, MatchOption, refl, sym, ap, subst, ◌∙◌, arith}
use Rattle.directory_core.specs.declared.fault.DirFault.TheVariants.{Strayed}
use Rattle.directory_core.specs.Judging.{FollowsKnown}
use Rattle.directory_core.specs.Known.{Known}
use Rattle.directory_core.specs.Notes.{IsEnd, IsNextInLimit}
use Rattle.directory_core.proofs.NoteRows.{ends_in}
use Rattle.directory_core.proofs.pass.Pass.judge.Given.{Over}
use Rattle.directory_core.proofs.pass.Pass.judge.Goals.{Else-len-self, then-number-via-then-number, then-number-via-else-number+then-start-size}
use Rattle.directory_core.proofs.pass.Pass.judge.Goals.{then-number-via-else-number+else-start-size+then-len-self}
use Rattle.directory_core.proofs.pass.Pass.judge.Goals as goal

pub overflow_sub-self-inside : goal.overflow_sub-self-inside
overflow_sub-self-inside g c = let limit = ap (λ (p : Known _). p.of.limit) c.self.view_is in omega (arith, c.size-else-start-size.ensures.in_limit)

follows : (g : Over) (c : Else-len-self g) → FollowsKnown g.R.Record.form.width c.args.self.now c.args.entry.now
follows g c =
    let limit = ap (λ (p : Known _). p.of.limit) c.self.view_is in
    let many = ap length c.records.ensures.value in
    record {
      next = record {
        number = sym c.number-2.ensures ∙ (c.if-number.false ∙ c.known-number.ensures.count);
        start = sym c.start.ensures ∙ (c.if-start-size.false ∙ c.size.ensures.sum);
      };
      len_is = refl;
      block = c.records.ensures.in_a_frame;
      fits = omega (arith, c.if-len-self.false, c.size-else-start-size.ensures.sum, c.size-else-start-size.ensures.in_limit);
    }

pub add-requires-clause-follows : goal.add-requires-clause-follows
add-requires-clause-follows g c κs held =
    subst (λ o. MatchOption o ⊥ (IsNextInLimit {R = g.row.R.Denot} g.R.Record.form.width c.args.self.now.of.limit c.args.self.now.entries (length c.records.result.now))) (sym c.requires.found)
    (subst (λ n. IsNextInLimit g.R.Record.form.width c.args.self.now.of.limit c.args.self.now.entries n c.args.entry.now) (sym (ap length c.records.ensures.value))
    (follows g (goal.at.add-requires-clause-follows g c).Else-len-self))

pub returns-clause-judged : goal.returns-clause-judged
returns-clause-judged g c = (
  follows g (goal.at.returns-clause-judged g c).Else-len-self,
  ap (λ (p : Known _). p.entries) c.self-2.view_is ∙ (c.add.ensures.entries ∙ ap (λ o. c.args.self.now.entries ++ option_to_list o) c.requires.found),
  refl,
)

-- it strays

pub returns-then-number-clause-judged : goal.returns-then-number-clause-judged
returns-then-number-clause-judged g c =
    let limit = ap (λ (p : Known _). p.of.limit) c.self.view_is in (
      λ f. let number = f.next.number in let start = f.next.start in let fits = f.fits in elim c.then-number.branch [
        | then-number-via-then-number w ↦ omega (arith, w.if-number.true, c.number-2.ensures, c.known-number.ensures.count)
        | then-number-via-else-number+then-start-size w ↦ omega (arith, w.if-start-size.true, w.start.ensures, w.size.ensures.sum)
        | then-number-via-else-number+else-start-size+then-len-self w ↦
            let many = ap length c.records.ensures.value in omega (arith, w.if-len-self.true, w.size-else-start-size.ensures.sum)
      ],
      ap Strayed c.known-number.ensures.count,
      ap (λ (p : Known _). p.entries) c.self.view_is,
      refl,
    )

-- it is the end

pub end_at-requires-clause-ends : goal.end_at-requires-clause-ends
end_at-requires-clause-ends g c κs held =
    ends_in c.args.bucket_note.known c.args.place c.args.note c.requires.stands.1
    (subst (λ o. MatchOption o ⊥ IsEnd) (sym c.requires.found) (sym c.number.ensures ∙ c.if-number-eq-PLACE_LIMIT.true))
