use Rattle.std.proofs.lemmas.Grind.{common_steps}
use Rattle.std.proofs.Common.{◌+◌, [], ◌∷◌, ◌++◌, length, refl, ap, subst, ◌∙◌, arith}
use Rattle.segment_core.specs.declared.format.Shape.{Shape}
use Rattle.segment_core.specs.Frame.{frame_text}
use Rattle.segment_core.specs.Tally.{MayFollow}
use Rattle.segment_core.specs.Found.{IsFound}
use Rattle.segment_core.proofs.Walked.{few_frames, few_changes, stands_next, behind_more}
use Rattle.segment_core.proofs.walk.Walk.step.Goals as goal

pub after-self-requires-clause-few : goal.after-self-requires-clause-few
after-self-requires-clause-few g c =
    let frames = c.requires.behind.0 in
    let few = few_frames g.R.Record.form frames c.args.self.now c.requires.behind.1 in
    let changes = few_changes g.R.Record.form frames c.args.self.now c.requires.behind.1 in
    let placed = c.requires.placed in
    omega arith

pub overflow_add-self-2 : goal.overflow_add-self-2
overflow_add-self-2 g c =
    let frames = c.requires.behind.0 in
    let few = few_frames g.R.Record.form frames c.args.self.now c.requires.behind.1 in
    let placed = c.requires.placed in
    omega arith

pub returns-clause-ok : goal.returns-clause-ok
returns-clause-ok g c = λ frames behind. (
    let seen = c.args.frame.now in
    let may = c.in_ok-check.ensures in
    let same = c.requires.shaped in
    behind_more g.R.Record.form frames seen.frame c.args.self.now _ behind c.requires.whole (subst (λ t. MayFollow t seen.frame) behind.tally_is may) (record {
      shape_is = refl;
      at_is = ap (λ n. c.args.self.now.at + n) (c.len.ensures.is ∙ ap (λ (s : Shape). length (frame_text s.format seen.frame)) same);
      one_more = refl;
      tally_is = c.after-self.ensures;
      found =
          subst (λ (s : Shape). IsFound g.R.Record.form s.format (frames ++ seen.frame ∷ []) c.take.new.self) same
          (c.in-Ok.ensures frames (stands_next g.R.Record.form frames c.args.self.now seen behind c.requires.at same c.requires.whole may));
    }))

pub take-requires-after_bounds : goal.take-requires-after_bounds
take-requires-after_bounds g c κs within = grind (arith, common_steps)

pub returns-in-Err-clause-err : goal.returns-in-Err-clause-err
returns-in-Err-clause-err g c = grind (arith, common_steps)
