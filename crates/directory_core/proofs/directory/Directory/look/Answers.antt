use Rattle.std.proofs.Common.{◌∙◌, List, sym, ap, subst, rules}
use Rattle.std.proofs.Math.Seq.{take-length}
use Rattle.directory_core.specs.Chain.{IsPrefix}
use Rattle.directory_core.specs.Known.{Known, KnowsAll}
use Rattle.directory_core.proofs.Chains.{begun_still}
use Rattle.directory_core.proofs.directory.Directory.look.Goals.{else-loop-test, then-loop-test+in_ok-learn+then-not-branch}
use Rattle.directory_core.proofs.directory.Directory.look.Goals as goal

pub returns-in_err-learn-clause-all : goal.returns-in_err-learn-clause-all
returns-in_err-learn-clause-all g c all =
    let same = c.loop.invariant.3 all in
    let told = c.learn.ensures.all (subst (λ (v : Known g.row.R.Denot). KnowsAll v) (sym same) all) in
    told.1 ∙ ap (λ (v : Known g.row.R.Denot). v.entries) same

pub returns-in_err-learn-clause-longer : goal.returns-in_err-learn-clause-longer
returns-in_err-learn-clause-longer g c =
    begun_still c.args.pass.now.entries c.loop.pass.entries c.learn.new.pass.entries c.loop.invariant.1 c.learn.ensures.longer

pub loop-init : goal.loop-init
loop-init g c =
    let is = c.find_nothing.ensures in (
      ap (λ (p : Known _). p.of) is ∙ c.requires.of,
      subst (λ (es : List _). IsPrefix c.args.pass.now.entries es) (sym (ap (λ (p : Known _). p.entries) is)) (take-length c.args.pass.now.entries),
      ap (λ (p : Known _). p.strayed) is,
      λ _. is,
    )

pub loop-preserved : goal.loop-preserved
loop-preserved g c = (
  c.learn.ensures.of,
  begun_still c.args.pass.now.entries c.loop.pass.entries c.learn.new.pass.entries c.loop.invariant.1 c.learn.ensures.longer,
  search rules,
  λ all. absurd (
      let told = c.learn.ensures.all (subst (λ (v : Known g.row.R.Denot). KnowsAll v) (sym (c.loop.invariant.3 all)) all) in
      let found = told.0 in
      search rules
      ),
)

pub returns-clause-all : goal.returns-clause-all
returns-clause-all g c = elim c.loop-test.branch [
  | else-loop-test w ↦ λ all. ap (λ (v : Known g.row.R.Denot). v.entries) (c.lay_ratio.ensures ∙ w.pass-is ∙ c.loop.invariant.3 all)
  | then-loop-test+in_ok-learn+then-not-branch w ↦ λ all.
      let same = c.loop.invariant.3 all in
      let told = w.learn.ensures.all (subst (λ (v : Known g.row.R.Denot). KnowsAll v) (sym same) all) in
      ap (λ (v : Known g.row.R.Denot). v.entries) (c.lay_ratio.ensures ∙ w.pass-is) ∙ told.1 ∙ ap (λ (v : Known g.row.R.Denot). v.entries) same
]

pub returns-clause-longer : goal.returns-clause-longer
returns-clause-longer g c = elim c.loop-test.branch [
  | else-loop-test w ↦ subst (λ (p : Known g.row.R.Denot). IsPrefix c.args.pass.now.entries p.entries) (sym (c.lay_ratio.ensures ∙ w.pass-is)) c.loop.invariant.1
  | then-loop-test+in_ok-learn+then-not-branch w ↦ subst (λ (p : Known g.row.R.Denot). IsPrefix c.args.pass.now.entries p.entries) (sym (c.lay_ratio.ensures ∙ w.pass-is))
      (begun_still c.args.pass.now.entries c.loop.pass.entries w.learn.new.pass.entries c.loop.invariant.1 w.learn.ensures.longer)
]
