use Rattle.std.proofs.Common.{◌++◌, ◌∷◌, [], map, refl, sym, ap, ◌∙◌}
use Rattle.std.proofs.lemmas.List.{map_push}
use Rattle.segment_core.specs.Found.{first_record_of}
use Rattle.segment_core.proofs.PlacesPush.{placed_group, placed_change, placed_shrink, placed_fold}
use Rattle.segment_core.proofs.places.Places.take.Goals as goal

pub returns-in_ok-push-in-Group : goal.returns-in_ok-push-in-Group
returns-in_ok-push-in-Group c = λ frames bytes comes.
    placed_group frames c.args.self.now _ c.args.tally c.args.frame.now bytes comes (sym c.in-Group.ensures)
    (c.in_ok-push-in-Group.ensures.items
    ∙ ap (λ n. c.args.self.now.homes.items ++ record { position = c.args.tally.size; place = n; count = c.from.result } ∷ []) c.first_record.ensures.is
    ∙ ap (λ n. c.args.self.now.homes.items ++ record { position = c.args.tally.size; place = first_record_of c.args.frame.now; count = n } ∷ []) (c.from.ensures ∙ c.records.ensures))
    refl

pub returns-in_ok-push_back-in-Change : goal.returns-in_ok-push_back-in-Change
returns-in_ok-push_back-in-Change c = λ frames bytes comes.
    placed_change frames c.args.self.now _ c.args.tally c.args.frame.now bytes comes (sym c.in-Change.ensures) refl
    (ap (map (λ runs. runs.items)) c.in_ok-push_back-in-Change.ensures.items
    ∙ map_push (λ runs. runs.items) c.args.self.now.live.items c.in_ok-runs-in-Change.runs
    ∙ ap (λ hs. map (λ runs. runs.items) c.args.self.now.live.items ++ hs ∷ []) c.in_ok-runs-in-Change.ensures)

pub returns-in-Shrink : goal.returns-in-Shrink
returns-in-Shrink c = λ frames bytes comes.
    placed_shrink frames c.args.self.now _ c.args.tally c.args.frame.now bytes comes c.new_length.result c.new_length.ensures c.cut.ensures.in_turn c.cut.ensures.each refl

pub returns-in-Fold : goal.returns-in-Fold
returns-in-Fold c = λ frames bytes comes.
    placed_fold frames c.args.self.now _ c.args.tally c.args.frame.now bytes comes c.fold_count.result c.fold_count.ensures refl c.drop_first.ensures
