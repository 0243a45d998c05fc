-- A file that is made of groups: one group more, and the first that is too large.
use Rattle.std.proofs.Common.{◌≡◌, ℕ, ◌+◌, ◌<◌, ◌≤◌, List, [], ◌∷◌, ◌++◌, length, true, false, Option, Some, None, refl, sym, ap, subst, ◌∙◌, arith}
use Rattle.std.specs.Option.{is_some}
use Rattle.std.proofs.lemmas.List.{take_at, take-append-le}
use Rattle.std.proofs.lemmas.Option.{slice_get_within}
use Rattle.record_core.specs.Bytes.{Encoding}
use Rattle.record_core.specs.Limits.{payload_limit}
use Rattle.record_core.proofs.Cells.{slice_get-append_left, slice_get_push}
use Rattle.segment_core.specs.declared.format.Format.TheVariants.{One}
use Rattle.segment_core.specs.Frame.{frame_text}
use Rattle.segment_core.specs.Written.{group_frame, payload_len, AllFit}
use Rattle.segment_core.proofs.Written.{AllFit_push, text_more}
use Rattle.image_core.specs.Drafts.{IsDraft}

pub IsDraft_push : {R : Type 0} (form : Encoding R) (groups : List (List (List R))) (group : List (List R)) (file new : List ℕ) (too_large : Option ℕ)
    → is_some too_large ≡ false → new ≡ file ++ frame_text One (group_frame form group) → payload_len form.width group ≤ payload_limit
    → IsDraft form groups file too_large → IsDraft form (groups ++ group ∷ []) new too_large
IsDraft_push form groups group file new None none is fits draft =
    (AllFit_push form.width groups group draft.0 fits, is ∙ ap (λ (bs : List ℕ). bs ++ frame_text One (group_frame form group)) draft.1 ∙ sym (text_more One form groups group))
IsDraft_push form groups group file new (Some line) none is fits draft = absurd cc

pub IsDraft_stays : {R : Type 0} (form : Encoding R) (groups : List (List (List R))) (group : List (List R)) (file : List ℕ) (too_large : Option ℕ)
    → is_some too_large ≡ true → IsDraft form groups file too_large → IsDraft form (groups ++ group ∷ []) file too_large
IsDraft_stays form groups group file None some draft = absurd cc
IsDraft_stays {R} form groups group file (Some line) some draft =
    let lt : draft.0 < length groups = slice_get_within groups draft.0 draft.1.1 draft.1.2 in
    let fit = subst (λ (gs : List (List (List R))). AllFit form.width gs) (sym (take-append-le draft.0 groups (group ∷ []) (omega arith))) draft.1.0 in
    (draft.0, (fit, draft.1.1, slice_get-append_left groups (group ∷ []) draft.0 lt ∙ draft.1.2, draft.1.3), draft.2)

pub IsDraft_refused : {R : Type 0} (form : Encoding R) (groups : List (List (List R))) (group : List (List R)) (file new : List ℕ) (line : ℕ)
    (too_large : Option ℕ)
    → is_some too_large ≡ false → line ≡ length groups + 1 → payload_limit < payload_len form.width group
    → IsDraft form groups file too_large → IsDraft form (groups ++ group ∷ []) new (Some line)
IsDraft_refused {R} form groups group file new line None none is past draft =
    (length groups, (subst (λ (gs : List (List (List R))). AllFit form.width gs) (sym (take_at groups (group ∷ []) (length groups) refl)) draft.0, group, slice_get_push groups group, past), is)
IsDraft_refused form groups group file new line (Some other) none is past draft = absurd cc
