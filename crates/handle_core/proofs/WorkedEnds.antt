-- Worked examples: what calls make of a grower, of who commits, of a vault and of a file, and what isn't so.
use Rattle.std.proofs.Common.{◌≡◌, ℕ, suc, ◌<◌, List, [], ◌∷◌, ◌++◌, inl, inr, length, length-append, refl, ap, sym, ◌∙◌, arith}
use Rattle.std.specs.List.{count_by}
use Rattle.std.specs.Arc.{arc_value}
use Rattle.std.specs.Global.{Vec}
use Rattle.std.specs.declared.cmp.PartialEq as PartialEq
use Rattle.record_core.specs.declared.record.Record as Record
use Rattle.disk_core.specs.FileDisk.{states_of}
use Rattle.disk_core.specs.Moments.{clock}
use Rattle.book_core.specs.Growing.{SeatLearns}
use Rattle.book_core.specs.declared.fault.GrowFault.{GrowFault}
use Rattle.book_core.specs.declared.fault.GrowFault.TheVariants as faults
use Rattle.relay_core.specs.declared.call.Call.{Call}
use Rattle.relay_core.specs.declared.call.Call.TheVariants.{Sync}
use Rattle.phase_core.specs.declared.grower.Grower.{Grower}
use Rattle.phase_core.specs.Grower.{phase_of, list_of, equals}
use Rattle.phase_core.specs.Committer.{calls_of}
use Rattle.phase_core.specs.HostVault as vaults
use Rattle.c_core.specs.declared.refusal.Refusal.TheVariants.{NoRecord, NotSo}
use Rattle.handle_core.specs.declared.end.Role.TheVariants as roles
use Rattle.handle_core.specs.Refusals.{of_growth}
use Rattle.handle_core.specs.Roles.{Sizes, Plans, Settles, Lists, RefusesGrowth, Counts, Finds}
use Rattle.handle_core.specs.Vaults.{Measures, SharesOut}
use Rattle.handle_core.specs.Begins.{Feeds, BeginsEmpty}

differ : (m n : ℕ) → m < n → m ≡ n → ⊥
differ m n less is = absurd (omega (arith, less, is))

-- no growth is refused as if the end were no grower
of_no_grower : (fault : GrowFault) → NotSo ≡ of_growth fault → ⊥
of_no_grower faults.Closed is = cc
of_no_grower faults.Full is = cc
of_no_grower faults.TooLong is = cc
of_no_grower (faults.Strayed n) is = cc
of_no_grower faults.Memory is = cc
of_no_grower faults.Empty is = cc
of_no_grower faults.TooLarge is = cc

module _ {R : Type 0} {record_of : Record.Ghosts R} {eq_of : PartialEq.Ghosts R} where
  -- ---- a grower

  module _ (old new : Grower R record_of eq_of) where
    -- its size is that of its list, and no other one
    sizes : phase_of new ≡ phase_of old → SeatLearns old.seat new.seat → Sizes (length (list_of new)) (roles.Grower old) (roles.Grower new)
    sizes phase learns = (phase, learns, refl)

    another_size : Sizes (suc (length (list_of new))) (roles.Grower old) (roles.Grower new) → ⊥
    another_size is = differ (length (list_of new)) (suc (length (list_of new))) (omega arith) (sym is.2)

    given_up : (size : ℕ) → Sizes size (roles.Grower old) roles.Nothing → ⊥
    given_up size is = is

    refused_so : (bytes : List ℕ) → RefusesGrowth bytes NotSo (roles.Grower old) (roles.Grower new) → ⊥
    refused_so bytes is = elim is.2 [ inl none ↦ (let same : NotSo ≡ NoRecord = none.0 in cc) | inr why ↦ of_no_grower why.0 why.1 ]

  -- the bytes of a record are of the one that is counted, and so many equal it
  counts_more : (bytes : List ℕ) (grower : Grower R record_of eq_of) → Counts bytes 1 (roles.Grower grower) (roles.Grower grower) → list_of grower ≡ [] → ⊥
  counts_more bytes grower is none =
      let x = is.1.0 in
      differ 0 1 (omega arith) (sym (is.1.2 ∙ ap (count_by (equals eq_of.eq x)) none))

  -- a record is found in the list, or nowhere: then the place is its length
  finds_behind : (bytes : List ℕ) (grower : Grower R record_of eq_of) → Finds bytes 0 1 (roles.Grower grower) (roles.Grower grower) → list_of grower ≡ [] → ⊥
  finds_behind bytes grower is none =
      let within = is.1.2.within in
      absurd (omega (arith, within, ap length none))

  -- ---- who commits

  -- it plans neither more nor fewer growths than it takes, and none only where none is left
  plans_more : (old new : _) → Plans {record_of = record_of} {eq_of = eq_of} 1 (roles.Committer old) (roles.Committer new) → new.flusher.taken ≡ old.flusher.taken → ⊥
  plans_more old new plans same = let more = plans.3 in absurd (omega (arith, more, same))

  plans_none : (old new : _) → Plans {record_of = record_of} {eq_of = eq_of} 0 (roles.Committer old) (roles.Committer new) → new.flusher.taken < length new.flusher.pass.entries → ⊥
  plans_none old new plans left = let some = plans.4 left in absurd (omega (arith, some))

  plans_all : (old new : _) → Plans {record_of = record_of} {eq_of = eq_of} 0 (roles.Committer old) (roles.Committer new) → new.flusher.taken ≡ old.flusher.taken
  plans_all old new plans = let none = plans.3 in omega (arith, none)

  -- it tells of no more growths as durable than are in the file, and only up to the moment that the host has made
  settles : (old new : _) → Settles {record_of = record_of} {eq_of = eq_of} 5 (roles.Committer old) (roles.Committer new) → old.flusher.settled ≡ 5
  settles old new is = sym is.2

  settles_more : (old new : _) → Settles {record_of = record_of} {eq_of = eq_of} 5 (roles.Committer old) (roles.Committer new) → old.flusher.settled ≡ 4 → ⊥
  settles_more old new is four = differ 4 5 (omega arith) (sym (is.2 ∙ four))

  settles_early : (old new : _) → Settles {record_of = record_of} {eq_of = eq_of} 5 (roles.Committer old) (roles.Committer new)
      → new.made < clock (states_of new.flusher.pen.disk.inner) → ⊥
  settles_early old new is early = let made = is.1 in absurd (omega (arith, made, early))

  -- all calls are listed that the host hasn't made
  lists : (committer : _) (calls : List Call) → Lists {record_of = record_of} {eq_of = eq_of} calls (roles.Committer committer) → calls ≡ calls_of committer
  lists committer calls is = is.0

  lists_none : (committer : _) → Lists {record_of = record_of} {eq_of = eq_of} [] (roles.Committer committer) → calls_of committer ≡ Sync ∷ [] → ⊥
  lists_none committer is one = differ 0 1 (omega arith) (ap length (is.0 ∙ one))

  -- ---- a vault

  measures_more : (vault : _) → Measures {record_of = record_of} {eq_of = eq_of} (suc (length (vaults.list_of vault))) (roles.Vault vault) (roles.Vault vault) → ⊥
  measures_more vault is = differ (length (vaults.list_of vault)) (suc (length (vaults.list_of vault))) (omega arith) (sym is.1)

  measures : (vault : _) → Measures {record_of = record_of} {eq_of = eq_of} (length (vaults.list_of vault)) (roles.Vault vault) (roles.Vault vault)
  measures vault = (refl, refl)

  -- a vault that is lent is lent by its own host, which has made what it had made
  shares_elsewhere : (phase vault committer : _) → SharesOut {record_of = record_of} {eq_of = eq_of} 9 2 (roles.Phase phase) (roles.Vault vault) (roles.Committer committer)
      → committer.made ≡ vault.made
  shares_elsewhere phase vault committer shares = shares.made_same

  shares_no_phase : (vault committer : _) → SharesOut {record_of = record_of} {eq_of = eq_of} 9 2 roles.Nothing (roles.Vault vault) (roles.Committer committer) → ⊥
  shares_no_phase vault committer shares = shares

  -- ---- a phase that begins

  begins_with_records : (bytes : List ℕ) (phase committer : _) → BeginsEmpty {record_of = record_of} {eq_of = eq_of} bytes 2 9 3 (roles.Phase phase) (roles.Committer committer)
      → length (arc_value phase.live).blocks ≡ 1 → ⊥
  begins_with_records bytes phase committer begins one = differ 0 1 (omega arith) (sym (ap length begins.3) ∙ one)

  begins_without_seats : (bytes : List ℕ) (phase committer : _) → BeginsEmpty {record_of = record_of} {eq_of = eq_of} bytes 2 9 3 (roles.Phase phase) (roles.Committer committer)
      → length phase.seats.items ≡ 0 → ⊥
  begins_without_seats bytes phase committer begins none = differ 0 3 (omega arith) (sym none ∙ begins.1)

  begins_elsewhere : (bytes : List ℕ) (phase committer : _) → BeginsEmpty {record_of = record_of} {eq_of = eq_of} bytes 2 9 3 (roles.Phase phase) (roles.Committer committer)
      → arc_value committer.live ≡ arc_value phase.live
  begins_elsewhere bytes phase committer begins = begins.5

module _ (R : Type 0) (record_of : Record.Ghosts R) (eq_of : PartialEq.Ghosts R) (old new : Vec ℕ) where
  -- a piece stands behind what was read
  feeds : new.items ≡ old.items ++ 7 ∷ [] → Feeds {record_of = record_of} {eq_of = eq_of} (7 ∷ []) (roles.File old) (roles.File new)
  feeds is = is

  feeds_nothing : new.items ≡ old.items → Feeds {record_of = record_of} {eq_of = eq_of} (7 ∷ []) (roles.File old) (roles.File new) → ⊥
  feeds_nothing same fed = let long = length-append old.items (7 ∷ []) in absurd (omega (arith, ap length (sym same ∙ fed), long))
