use Rattle.std.proofs.Common.{refl, ap, subst, inl}
use Rattle.std.specs.Option.{option_copied}
use Rattle.text_core.proofs.Small.{push_all}
use Rattle.files_core.proofs.Commas.{IsLeft, left_len, next_left, next_part, next_shorter}
use Rattle.files_core.proofs.asked.read_records.Goals as goal

pub loop-rest-init : goal.loop-rest-init
loop-rest-init g c = rw c.new-records.ensures.items (tt, refl)

pub loop-rest-smaller : goal.loop-rest-smaller
loop-rest-smaller g c = rw (ap (λ o. left_len (option_copied o)) c.in-Some.is) (next_shorter _ _ c.cut.result.1 c.cut.ensures.whole)

pub loop-rest-preserved : goal.loop-rest-preserved
loop-rest-preserved g c =
    let spelling = g.R.TextRecord.spelling in
    let so = c.loop-rest.invariant in
    let read = c.in-Some-parse.ensures.read in
    let before = subst (λ o. IsLeft spelling.text_of c.args.text.now c.loop-rest.records.items (option_copied o)) c.in-Some.is so.1 in
    rw c.in-Ok.ensures.items (
      push_all spelling.is_value c.loop-rest.records.items c.in-Some-parse.value so.0 read.0,
      next_left spelling.text_of c.args.text.now c.in-Some.words.now c.cut.result.0.now c.loop-rest.records.items c.in-Some-parse.value c.cut.result.1 c.cut.ensures.whole read.1 before,
    )

pub returns-clause-read : goal.returns-clause-read
returns-clause-read g c =
    let so = c.loop-rest.invariant in
    let left = subst (λ o. IsLeft g.R.TextRecord.spelling.text_of c.args.text.now c.loop-rest.records.items (option_copied o)) c.in_default.is so.1 in
    record { some = left.0; values = so.0; text = left.1 }

pub returns-in_default-parse-clause-refused : goal.returns-in_default-parse-clause-refused
returns-in_default-parse-clause-refused g c =
    let spelling = g.R.TextRecord.spelling in
    let before = subst (λ o. IsLeft spelling.text_of c.args.text.now c.loop-rest.records.items (option_copied o)) c.in-Some.is c.loop-rest.invariant.1 in
    inl (
      refl,
      (
        c.cut.result.0.now,
        next_part spelling.text_of c.args.text.now c.in-Some.words.now c.cut.result.0.now c.loop-rest.records.items c.cut.result.1 c.cut.ensures.whole c.cut.ensures.first before,
        λ r is. c.in_default-parse.ensures.refused r is.value is.text,
      ),
    )
