-- A change to given records, as the command that it is.
use Rattle.std.proofs.Common.{◌≡◌, ℕ, Bool, true, false, not, List, length, map, Some, None, refl, sym, ap, ◌∙◌}
use Rattle.std.specs.Prelude.{nat_lt}
use Rattle.std.specs.List.{list_all, flat_map}
use Rattle.std.proofs.lemmas.Bool.{and_parts}
use Rattle.std.proofs.lemmas.List.{append-nil}
use Rattle.segment_core.specs.Frame.{Run, Frame}
use Rattle.segment_core.specs.Frame as frames
use Rattle.segment_core.specs.Tally.{are_ascending, are_inside}
use Rattle.segment_core.specs.Command.{Command, Change, after_command}
use Rattle.segment_core.specs.Written.{joined}
use Rattle.pen_core.specs.Refusals.{first_refusal}
use Rattle.vault_core.specs.Touched.{IsTouched}
use Rattle.vault_core.specs.Vault.{VaultOf, list_of}
use Rattle.vault_core.specs.Commands.{changed_frame}
use Rattle.drive_core.specs.Given.{given_by_runs}
use Rattle.drive_core.specs.Medium.{Medium}
use Rattle.drive_core.specs.Step.{Step}
use Rattle.drive_core.specs.World.{World, piece_runs, frame_of}
use Rattle.drive_core.specs.VaultTies.{IsExclusive}
use Rattle.drive_core.proofs.Givens.{given_replaces}
use Rattle.drive_core.proofs.PenTests.{pen_tests, all_false}
use Rattle.drive_core.proofs.VaultEvents.{Holds, Asks}
use Rattle.drive_core.proofs.VaultCommands.{IsWritten}

not_false : (b : Bool) → not b ≡ false → b ≡ true
not_false true is = refl
not_false false is = absurd cc

module _ {R D : Type 0} {m : Medium R D} {w : World R} {v : VaultOf R D} (tie : IsExclusive m w v) (new : VaultOf R D)
    (size : v.pen.broken ≡ false → v.pen.tally.size ≡ length (list_of v)) (rests : Holds m new new.pen.disk)
    (pieces : List (ℕ × List R)) (records : List R) (records_are : records ≡ joined (map (λ piece. piece.1) pieces)) where
  abbrev change : Command R
  change = Change (piece_runs pieces) records

  abbrev pub IsMade : Type 0
  IsMade = IsTouched (given_by_runs pieces) (piece_runs pieces) (list_of v) (list_of new)

  made_is : first_refusal (pen_tests m.form v.pen change) ≡ None → IsMade
      → (list_of new ≡ after_command (list_of v) change) × (changed_frame m.form (piece_runs pieces) (list_of new) ≡ frame_of m.form change)
  made_is allowed touched =
      let all = all_false (pen_tests m.form v.pen change) allowed in
      let ordered = and_parts (list_all (λ (run : Run). nat_lt 0 run.count) (piece_runs pieces)) (are_ascending 0 (piece_runs pieces)) (not_false _ all.1.1.1.0) in
      let inside : are_inside (length (list_of v)) (piece_runs pieces) ≡ true = ap (λ n. are_inside n (piece_runs pieces)) (sym (size all.0)) ∙ not_false _ all.1.1.1.1.0 in
      let both = given_replaces pieces (list_of v) (list_of new) ordered.1 inside touched in (
        both.1 ∙ ap (λ rs. after_command (list_of v) (Change (piece_runs pieces) rs)) (sym records_are),
        ap (λ rs. frames.Change (piece_runs pieces) (flat_map m.form.bytes_of rs)) (both.0 ∙ sym records_are ∙ sym (append-nil records)),
      )

  -- asked for by this step
  pub changes : (asked : Step R) → Asks m w new asked (Some change)
      → IsWritten m w v new asked change (changed_frame m.form (piece_runs pieces) (list_of new)) IsMade
  changes asked asks = record { asks = asks; size = size; rests = rests; made_is = made_is }
