use Rattle.std.proofs.lemmas.Bool.{ltb-false}
use Rattle.segment_core.specs.Frame.{Shrink}
use Rattle.segment_core.specs.Tally.{tally_of, MayFollow}
use Rattle.std.proofs.Common.{◌++◌, ◌∷◌, [], Result, Ok, Err, refl, sym, ap, ◌∙◌, subst}
use Rattle.std.specs.Prelude.{OnOk}
use Rattle.segment_core.specs.Reading.{Seen}
use Rattle.segment_core.proofs.FoundSteps.{found_group, found_change, found_shrink, found_fold}
use Rattle.segment_core.proofs.found.Found.take.Goals as goal

on_ok_map : {X Y : Type 0} (r : Result X Y) (P Q : Type 0) → OnOk r P → (P → Q) → OnOk r Q
on_ok_map (Ok x) P Q p f = f p
on_ok_map (Err y) P Q p f = tt

pub returns-in-Group : goal.returns-in-Group
returns-in-Group g c =
    on_ok_map c.take_group.result _ _ c.take_group.ensures
    (λ grown frames follows. found_group g.R.Record.form frames c.args.frame.now c.args.self.now c.take_group.new.self (sym c.in-Group.ensures) follows grown)

pub returns-in_ok-push_back-in-Change : goal.returns-in_ok-push_back-in-Change
returns-in_ok-push_back-in-Change g c = λ frames follows.
    found_change g.R.Record.form frames c.args.frame.now c.args.self.now _ (sym c.in-Change.ensures) follows (record { records_are = refl; notes_are = λ i. refl; homes_are = refl }) refl
    (c.in_ok-push_back-in-Change.ensures.items ∙ ap (λ (x : Seen). c.args.self.now.live.items ++ x ∷ []) c.in_ok-change-in-Change.ensures)

pub returns-in-Shrink : goal.returns-in-Shrink
returns-in-Shrink g c = λ frames follows. found_shrink g.R.Record.form frames c.args.frame.now c.args.self.now c.shrink.new.self c.new_length.result c.new_length.ensures follows c.shrink.ensures

pub returns-in-Fold : goal.returns-in-Fold
returns-in-Fold g c =
    λ frames follows.
    found_fold g.R.Record.form frames c.args.frame.now c.args.self.now c.fold.new.self c.fold_count.result
    c.fold_count.ensures follows c.fold.ensures.same c.fold.ensures.folded c.fold.ensures.live

pub shrink-requires-after_bounds : goal.shrink-requires-after_bounds
shrink-requires-after_bounds g c κs within =
    let frames = c.requires.0 in
    let follows = c.requires.1 in
    let n = c.new_length.result in
    let may : MayFollow (tally_of frames) (Shrink n) = subst (MayFollow (tally_of frames)) c.new_length.ensures follows.may in
    ((tally_of frames).size, ltb-false (tally_of frames).size n may.inside, follows.behind.homes.in_turn)
