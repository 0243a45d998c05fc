-- Growths that a crew has made.
use Rattle.std.proofs.Common.{◌≡◌, ℕ, zero, suc, ◌<◌, ◌≤◌, List, [], ◌∷◌, ◌++◌, length, map, Option, Some, Result, Ok, Err, IfOk, IfErr, slice_get, inl, inr, refl, sym, ap, subst, ◌∙◌, arith}
use Rattle.std.specs.Global.{Vec}
use Rattle.std.proofs.lemmas.List.{length-map}
use Rattle.record_core.specs.Bytes.{Encoding}
use Rattle.disk_core.specs.State.{State}
use Rattle.block_core.specs.Growth.{Growth}
use Rattle.directory_core.specs.Chain.{grown_records}
use Rattle.book_core.specs.declared.seat.Receipt.{Receipt}
use Rattle.book_core.specs.declared.fault.GrowFault.{GrowFault}
use Rattle.book_core.specs.Lists.{own_of}
use Rattle.pen_core.specs.Typed.{OpensTo}
use Rattle.disk_core.specs.Moments.{LeavesOnly}
use Rattle.vault_core.specs.Gathering.{AreOfPhase}
use Rattle.vault_core.specs.declared.fault.VaultFault.{VaultFault}
use Rattle.vault_core.specs.Sharing.{IsShareFault, OpensToGrown}
use Rattle.vault_core.specs.Vault.{VaultOf, list_of}
use Rattle.crew_core.specs.Crewing.{HasCrewed, IsCrewFault, IsReason, crew_room, receipt_of}
use Rattle.crew_core.specs.declared.crewing.CrewFault.{CrewFault}
use Rattle.crew_core.specs.declared.crewing.CrewFault.TheVariants as crew_faults
use Rattle.load_core.proofs.Rooms.{any_room, slice_room}
use Rattle.load_core.specs.Dealt.{count_for, dealt}
use Rattle.files_core.specs.declared.fault.FileFault.{FileFault}
use Rattle.files_core.specs.declared.fault.Stopped.{Stopped}
use Rattle.files_core.specs.declared.fault.FileFault.TheVariants.{Grower as by_grower}
use Rattle.load_core.specs.Loading.{AreDealt, AreDealtBy, AllMade, IsSlice, StandBehind, IsFirstStop, IsGivenUp, IsGrowthStop, IsStopOf, line_behind}

some_of : {X Y : Type 0} (f : X → Y) (xs : List X) (k : ℕ) (y : Y) → slice_get (map f xs) k ≡ Some y → (x : X) × (slice_get xs k ≡ Some x) × (f x ≡ y)
some_of f [] k y there = cc there
some_of f (x ∷ xs) zero y there = (x, refl, same there)
  where
    same : Some (f x) ≡ Some y → f x ≡ y
    same is = cc
some_of f (x ∷ xs) (suc k) y there = some_of f xs k y there

one_some : {X : Type 0} {x y : X} → Some x ≡ Some y → x ≡ y
one_some is = cc

-- a source's room is that of what it deals
pub same_room : (count other_count : ℕ → ℕ) (n other_n : ℕ) → count ≡ other_count → n ≡ other_n → crew_room count n ≡ crew_room other_count other_n
same_room count other_count n other_n same_count same_n = ap (λ (c : ℕ → ℕ). crew_room c n) same_count ∙ ap (λ m. crew_room other_count m) same_n

pub share_as : {R D : Type 0} (v : VaultOf R D) (count other_count : ℕ → ℕ) (n other_n : ℕ) (fault : VaultFault) → count ≡ other_count → n ≡ other_n
    → IsShareFault v (crew_room count n) n fault → IsShareFault v (crew_room other_count other_n) other_n fault
share_as v count other_count n other_n fault same_count same_n refused =
    subst (λ m. IsShareFault v (crew_room other_count m) m fault) same_n (subst (λ (c : ℕ → ℕ). IsShareFault v (crew_room c n) n fault) same_count refused)

module _ {R D : Type 0} (form : Encoding R) (keeps : D → Type 0) (states : D → List State) where
  -- what a source deals is what is said of it
  pub crewed_as : (count other_count : ℕ → ℕ) (block other_block : ℕ → ℕ → List R) (may_stop : ℕ → ℕ → Type 0) (n other_n : ℕ) (old new : VaultOf R D)
      (receipts : List (List Receipt)) (faults : List (Option GrowFault)) → count ≡ other_count → block ≡ other_block → n ≡ other_n
      → HasCrewed form keeps states count block may_stop n old new receipts faults → HasCrewed form keeps states other_count other_block may_stop other_n old new receipts faults
  crewed_as count other_count block other_block may_stop n other_n old new receipts faults same_count same_block same_n crewed =
      subst (λ m. HasCrewed form keeps states other_count other_block may_stop m old new receipts faults) same_n
      (subst (λ b. HasCrewed form keeps states other_count b may_stop n old new receipts faults) same_block
      (subst (λ c. HasCrewed form keeps states c block may_stop n old new receipts faults) same_count crewed))

  module _ (may_stop : ℕ → ℕ → Type 0) (growths : List (List R)) (growers : ℕ) (old new : VaultOf R D) (receipts : List (Vec Receipt))
      (faults : List (Option GrowFault))
      (crewed : HasCrewed form keeps states (count_for (length growths) growers) (dealt growths growers) may_stop growers old new
      (map (λ its. its.items) receipts) faults) where
    pub are_dealt : AreDealt growths growers crewed.0
    are_dealt = record { chained = crewed.1.chained; by_growers = crewed.1.by_growers; records_are = λ k j growth lt at. crewed.1.blocks_are k j growth lt at }

    pub stand_behind : (left : D) → left ≡ new.pen.disk → StandBehind form keeps states old left crewed.0
    stand_behind left same = subst (λ d. StandBehind form keeps states old d crewed.0) (sym same) (record {
      images = crewed.3;
      settled = λ model image is. subst (OpensTo form image) crewed.1.list_is (crewed.2.settled model image is);
      model = crewed.2.model;
    })

    pub size_is : (size : ℕ) → size ≡ length (list_of new) → size ≡ length (list_of old ++ grown_records crewed.0)
    size_is size is = is ∙ ap length crewed.1.list_is

    -- a grower has as many receipts as it made growths
    own_long : (k : ℕ) (its : Vec Receipt) → k < growers → slice_get receipts k ≡ Some its → length its.items ≡ length (own_of k crewed.0)
    own_long k its lt at =
        let own = own_of k crewed.0 in
        let there = some_of (λ its. its.items) receipts k (map (receipt_of (length (list_of old))) own) (crewed.1.receipts_are k lt) in
        let same : its ≡ there.0 = one_some (sym at ∙ there.1) in
        ap (λ (v : Vec Receipt). length v.items) same ∙ ap length there.2 ∙ length-map own (receipt_of (length (list_of old)))

    pub stopped_as : (before : ℕ) (stopped : Stopped) → stopped.size ≡ length (list_of new)
        → IsFirstStop before growers (count_for (length growths) growers) receipts faults stopped → IsStopOf form.width before growths growers crewed.0 stopped
    stopped_as before stopped size stop =
        let long = own_long stopped.grower stop.its stop.inside stop.its_are in
        record {
          inside = stop.inside;
          line_is = stop.line_is ∙ ap (line_behind before growers stopped.grower) long;
          why = elim stop.why [
            | inl has ↦ subst
                (λ n. IsReason form.width (crew_room (count_for (length growths) growers) growers) n
                (count_for (length growths) growers stopped.grower) (dealt growths growers stopped.grower) stopped.grower crewed.0
                (length (own_of stopped.grower crewed.0)) stopped.fault) (sym size) (crewed.1.faults_are stopped.grower stopped.fault stop.inside has)
            | inr fewer ↦ subst
                (λ fault. IsReason form.width (crew_room (count_for (length growths) growers) growers) stopped.size
                (count_for (length growths) growers stopped.grower) (dealt growths growers stopped.grower) stopped.grower crewed.0
                (length (own_of stopped.grower crewed.0)) fault) (sym fewer.0)
                (subst (λ n. n < count_for (length growths) growers stopped.grower) long fewer.1)
          ];
        }

    pub all_made : ((k : ℕ) → k < growers → (its : Vec Receipt) → slice_get receipts k ≡ Some its
        → count_for (length growths) growers k ≤ length its.items) → AllMade growths growers crewed.0
    all_made enough k lt =
        let own = own_of k crewed.0 in
        let there = some_of (λ its. its.items) receipts k (map (receipt_of (length (list_of old))) own) (crewed.1.receipts_are k lt) in
        let long : length there.0.items ≡ length own = ap length there.2 ∙ length-map own (receipt_of (length (list_of old))) in
        omega (arith, enough k lt there.0 there.1, long, crewed.1.few k lt)

  -- what a crew gave is told of the growths that its source deals
  module _ (count : ℕ → ℕ) (block : ℕ → ℕ → List R) (of : ℕ) (growths : List (List R)) (growers : ℕ) (so : AreDealtBy growths growers of count block) (old : VaultOf R D) where
    pub dealt_crewed : (may_stop : ℕ → ℕ → Type 0) (new : VaultOf R D) (receipts : List (List Receipt)) (faults : List (Option GrowFault))
        → HasCrewed form keeps states count block may_stop of old new receipts faults
        → HasCrewed form keeps states (count_for (length growths) growers) (dealt growths growers) may_stop growers old new receipts faults
    dealt_crewed may_stop new receipts faults crewed = crewed_as _ _ _ _ may_stop _ _ old new receipts faults so.counts_are so.blocks_are so.growers_are crewed

    pub dealt_all : {X : Type 0} (may_stop : ℕ → ℕ → Type 0) (new : VaultOf R D) (receipts : List (Vec Receipt)) (faults : List (Option GrowFault))
        → HasCrewed form keeps states count block may_stop of old new (map (λ its. its.items) receipts) faults
        → (result : Result (VaultOf R D) X)
        → IfOk result (λ w. (w ≡ new) × ((k : ℕ) → k < of → (its : Vec Receipt) → slice_get receipts k ≡ Some its → count k ≤ length its.items))
        → IfOk result (λ w. (made : List (Growth R)) × AreDealt growths growers made × AllMade growths growers made
        × StandBehind form keeps states old w.pen.disk made × (list_of w ≡ list_of old ++ grown_records made))
    dealt_all may_stop new receipts faults crewed (Err x) has = has
    dealt_all may_stop new receipts faults crewed (Ok w) has =
        let own = dealt_crewed may_stop new (map (λ its. its.items) receipts) faults crewed in (
          own.0,
          are_dealt may_stop growths growers old new receipts faults own,
          all_made may_stop growths growers old new receipts faults own
              (λ k lt its there. subst (λ (c : ℕ → ℕ). c k ≤ length its.items) so.counts_are (has.1 k (subst (λ n. k < n) (sym so.growers_are) lt) its there)),
          stand_behind may_stop growths growers old new receipts faults own w.pen.disk (ap (λ v. v.pen.disk) has.0),
          ap list_of has.0 ∙ own.1.list_is,
        )

    pub dealt_stopped : {X : Type 0} (before : ℕ) (left : X → D) (told : X → FileFault) (may_stop : ℕ → ℕ → Type 0) (new : VaultOf R D)
        (receipts : List (Vec Receipt)) (faults : List (Option GrowFault))
        → HasCrewed form keeps states count block may_stop of old new (map (λ its. its.items) receipts) faults
        → (result : Result (VaultOf R D) X) → IfErr result (λ r. (left r ≡ new.pen.disk) × ((stopped : Stopped) × (told r ≡ by_grower stopped)
        × (stopped.size ≡ length (list_of new)) × IsFirstStop before of count receipts faults stopped))
        → IfErr result (λ r. IsGrowthStop form keeps states before growths growers old (left r) (told r))
    dealt_stopped before left told may_stop new receipts faults crewed (Ok w) has = has
    dealt_stopped before left told may_stop new receipts faults crewed (Err r) has =
        let own = dealt_crewed may_stop new (map (λ its. its.items) receipts) faults crewed in
        let stopped = has.1.0 in
        let first : IsFirstStop before growers (count_for (length growths) growers) receipts faults stopped =
        subst (λ n. IsFirstStop before n (count_for (length growths) growers) receipts faults stopped) so.growers_are
        (subst (λ (c : ℕ → ℕ). IsFirstStop before of c receipts faults stopped) so.counts_are has.1.3) in
        subst (IsGrowthStop form keeps states before growths growers old (left r)) (sym has.1.1) (
          own.0,
          are_dealt may_stop growths growers old new receipts faults own,
          stand_behind may_stop growths growers old new receipts faults own (left r) has.0,
          size_is may_stop growths growers old new receipts faults own stopped.size has.1.2,
          stopped_as may_stop growths growers old new receipts faults own before stopped has.1.2 first,
        )

    pub dealt_given_up : (before : ℕ) → IsSlice growers growths → (fault : CrewFault R D) (left : D) (told : FileFault)
        → IsCrewFault form keeps states old (crew_room count of) of fault → IsGivenUp fault left told
        → IsGrowthStop form keeps states before growths growers old left told
    dealt_given_up before slice (crew_faults.Share back fault) left told refused gives =
        subst (IsGrowthStop form keeps states before growths growers old left) (sym gives.1) (inl (
          gives.0 ∙ ap (λ v. v.pen.disk) refused.0,
          inr (any_room old (crew_room (count_for (length growths) growers) growers) growers fault (omega arith) (slice_room (length growths) growers slice)
              (share_as old _ _ _ _ fault so.counts_are so.growers_are refused.1)),
        ))
    dealt_given_up before slice (crew_faults.Gather g) left told refused gives =
        subst (IsGrowthStop form keeps states before growths growers old left) (sym gives.1) (inr (
          g.flusher.pass.entries,
          record {
            live = g.live;
            seats = g.seats.items;
            flusher = g.flusher;
            room_is = refused.1 ∙ same_room _ _ _ _ so.counts_are so.growers_are;
            as_many = refused.3 ∙ so.growers_are;
            parts = subst (λ d. AreOfPhase (keeps d) g.live g.seats.items g.flusher) (sym gives.0) refused.5;
            disk_is = sym gives.0;
            made_are = refl;
            why = refused.6;
          },
          λ model.
              let own = subst keeps gives.0 model in
              (refused.4 own, subst (λ d. LeavesOnly (states old.pen.disk) (states d) (OpensToGrown form (list_of old) g.flusher.pass.entries)) (sym gives.0) (refused.7 own)),
        ))
