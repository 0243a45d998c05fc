-- Growers that come home, one after the other, and what comes of a crew.
use Rattle.std.proofs.Common.{◌≡◌, ℕ, zero, suc, ◌+◌, ◌<◌, ◌≤◌, inl, inr, ◌⊎◌, Bool, List, [], ◌∷◌, ◌++◌, length}
use Rattle.std.proofs.Common.{map, get_or, slice_get, Some, None, Option, IfSome, All, refl, sym, ap, subst, ◌∙◌, eq-or-lt_of_le, arith}
use Rattle.std.specs.Prelude.{cond, ◌==◌, drop, take}
use Rattle.std.proofs.lemmas.Bool.{eq-eqb}
use Rattle.std.proofs.lemmas.List.{length_push, length-append, take-append-drop, get_or-map, length-map}
use Rattle.std.proofs.lemmas.List.Elements.{filter-append, filter_more}
use Rattle.std.proofs.lemmas.List.Sums.{sum_by-take-le}
use Rattle.std.proofs.lemmas.Option.{slice_get_within, get_or_from_slice_get}
use Rattle.block_core.specs.Growth.{Growth}
use Rattle.directory_core.specs.Chain.{grown_records, total, IsPrefix}
use Rattle.directory_core.specs.Identity.{Identity}
use Rattle.book_core.specs.declared.fault.GrowFault.{GrowFault}
use Rattle.book_core.specs.declared.fault.GrowFault.TheVariants.{Closed, Full, TooLong, Strayed, Memory, Empty, TooLarge}
use Rattle.book_core.specs.declared.seat.Receipt.{Receipt}
use Rattle.book_core.specs.Lists.{Phase, Seated, opening_of, joined_pieces, own_of}
use Rattle.book_core.specs.Lists as lists
use Rattle.book_core.specs.Growing.{size_of, IsStray, IsForeign}
use Rattle.book_core.proofs.Owns.{push_get, length-list, take-begins}
use Rattle.flush_core.specs.Flusher.{FlusherOf}
use Rattle.vault_core.proofs.Prefixes.{begins-le}
use Rattle.vault_core.specs.Vault.{VaultOf, list_of}
use Rattle.vault_core.specs.Gathering.{IsWhole, HasId}
use Rattle.crew_core.specs.Crewing.{AllHeed, HeedsGate, HasCome, StopsGrower, IsReason, IsGrowerHome, AreHome, IsCrewed, SentOf, AreSent, receipt_of, crew_room, IsStrayFor}

some_is : {X : Type 0} (x y : X) → Some x ≡ Some y → x ≡ y
some_is x y is = cc

get-push : {X : Type 0} (xs : List X) (x : X) (k : ℕ) (y : X) → slice_get xs k ≡ Some y → slice_get (xs ++ x ∷ []) k ≡ Some y
get-push [] x k y is = grind arith
get-push (z ∷ xs) x zero y is = is
get-push (z ∷ xs) x (suc k) y is = get-push xs x k y is

get-last : {X : Type 0} (xs : List X) (x : X) (n : ℕ) → length xs ≡ n → slice_get (xs ++ x ∷ []) n ≡ Some x
get-last xs x n long = subst (λ (k : ℕ). slice_get (xs ++ x ∷ []) k ≡ Some x) long (last xs x)
  where
    last : {X : Type 0} (xs : List X) (x : X) → slice_get (xs ++ x ∷ []) (length xs) ≡ Some x
    last [] x = refl
    last (z ∷ xs) x = last xs x

-- where all that bear its id are its own, a seat has no foreign one
no_foreign : {R : Type 0} (seat : Seated R) (es : List (Growth R)) (m : ℕ) → IsPrefix seat.pass.entries es → own_of seat.id es ≡ seat.made → IsForeign seat m → ⊥
no_foreign seat es m begins own foreign =
    let xs = seat.pass.entries in
    let id = seat.id in
    let lt = slice_get_within xs m foreign.growth foreign.at in
    let here : get_or xs m foreign.growth ≡ foreign.growth = get_or_from_slice_get xs m foreign.growth foreign.growth foreign.at in
    let mine : own_of id (take (m + 1) xs) ≡ seat.made ++ foreign.growth ∷ [] =
    filter_more (λ (e : Growth _). e.seat == id) xs m foreign.growth lt
    ∙ ap (λ (e : Growth _). own_of id (take m xs) ++ cond (e.seat == id) (e ∷ []) []) here
    ∙ ap (λ (b : Bool). own_of id (take m xs) ++ cond b (foreign.growth ∷ []) []) (eq-eqb foreign.growth.seat id foreign.bears)
    ∙ ap (λ (gs : List (Growth _)). gs ++ foreign.growth ∷ []) foreign.not_made in
    let split : own_of id es ≡ (seat.made ++ foreign.growth ∷ []) ++ own_of id (drop (m + 1) es) =
    ap (own_of id) (sym (take-append-drop (m + 1) es)) ∙ filter-append (λ (e : Growth _). e.seat == id) (take (m + 1) es) (drop (m + 1) es)
    ∙ ap (λ (gs : List (Growth _)). gs ++ own_of id (drop (m + 1) es)) (ap (own_of id) (take-begins xs es (m + 1) begins (omega arith)) ∙ mine) in
    let long = ap length (sym own ∙ split) ∙ length-append (seat.made ++ foreign.growth ∷ []) (own_of id (drop (m + 1) es)) in
    let push = length_push seat.made foreign.growth in
    omega arith

module _ {R : Type 0} (width : ℕ) (live : Phase R) (count : ℕ → ℕ) (block : ℕ → ℕ → List R) (may_stop : ℕ → ℕ → Type 0) (has_let : ℕ → ℕ → Type 0)
    (was_told : ℕ → Receipt → Type 0) where
  pub home-none : AreHome width live count block may_stop has_let was_told 0 [] [] []
  home-none = record { as_many_seats = refl; as_many_receipts = refl; as_many_faults = refl; each = λ k lt. absurd (omega arith) }

  module _ (n : ℕ) (seats : List (Seated R)) (receipts : List (List Receipt)) (faults : List (Option GrowFault)) (home : AreHome width live count block may_stop has_let was_told n seats receipts faults) where
    pub home-more : (seat : Seated R) (its : List Receipt) (fault : Option GrowFault) → HasCome width live (count n) (block n) (may_stop n) (has_let n) (was_told n) n seat its fault
        → AreHome width live count block may_stop has_let was_told (n + 1) (seats ++ seat ∷ []) (receipts ++ its ∷ []) (faults ++ fault ∷ [])
    home-more seat its fault come = record {
      as_many_seats = length_push seats seat ∙ ap (λ (k : ℕ). k + 1) home.as_many_seats;
      as_many_receipts = length_push receipts its ∙ ap (λ (k : ℕ). k + 1) home.as_many_receipts;
      as_many_faults = length_push faults fault ∙ ap (λ (k : ℕ). k + 1) home.as_many_faults;
      each = λ k lt. at k (eq-or-lt_of_le (omega arith));
    }
      where
        before : (k : ℕ) → IsGrowerHome width live count block may_stop has_let was_told seats receipts faults k
            → IsGrowerHome width live count block may_stop has_let was_told (seats ++ seat ∷ []) (receipts ++ its ∷ []) (faults ++ fault ∷ []) k
        before k there = record {
          seat = there.seat;
          seat_is = get-push seats seat k there.seat there.seat_is;
          its = there.its;
          its_are = get-push receipts its k there.its there.its_are;
          fault = there.fault;
          fault_is = get-push faults fault k there.fault there.fault_is;
          come = there.come;
        }

        last : IsGrowerHome width live count block may_stop has_let was_told (seats ++ seat ∷ []) (receipts ++ its ∷ []) (faults ++ fault ∷ []) n
        last = record {
          seat = seat;
          seat_is = get-last seats seat n home.as_many_seats;
          its = its;
          its_are = get-last receipts its n home.as_many_receipts;
          fault = fault;
          fault_is = get-last faults fault n home.as_many_faults;
          come = come;
        }

        at : (k : ℕ) → (k ≡ n) ⊎ (k < n) → IsGrowerHome width live count block may_stop has_let was_told (seats ++ seat ∷ []) (receipts ++ its ∷ []) (faults ++ fault ∷ []) k
        at k (inl here) = subst (IsGrowerHome width live count block may_stop has_let was_told (seats ++ seat ∷ []) (receipts ++ its ∷ []) (faults ++ fault ∷ [])) (sym here) last
        at k (inr lt) = before k (home.each k lt)

    -- the seats are those of the growers
    pub grower-is : (id : ℕ) → HasId id seats → id < n
    grower-is id has =
        let lt : has.0 < n = let within = has.1 in let long = length-map seats (λ (s : Seated R). s.id) in let all = home.as_many_seats in omega arith in
        let there = home.each has.0 lt in
        let within = slice_get_within seats has.0 there.seat there.seat_is in
        let here = get_or_from_slice_get seats has.0 there.seat there.seat there.seat_is in
        let is : id ≡ has.0 = sym has.2 ∙ (get_or-map (λ (s : Seated R). s.id) seats has.0 there.seat id within ∙ (ap (λ (s : Seated R). s.id) here ∙ there.come.grown.id_is)) in
        omega arith

    -- and they have heeded the gate
    pub all_heed : AllHeed has_let was_told n receipts faults
    all_heed k its fault lt its_there fault_there =
        let there = home.each k lt in
        subst (λ (o : Option GrowFault). HeedsGate (has_let k) (was_told k) its o) (some_is there.fault fault (sym there.fault_is ∙ fault_there))
        (subst (λ (rs : List Receipt). HeedsGate (has_let k) (was_told k) rs there.fault) (some_is there.its its (sym there.its_are ∙ its_there)) there.come.heeds)

    -- what comes of a crew whose growers are home and whose phase has ended whole
    module _ {D : Type 0} (old new : VaultOf R D) (f : FlusherOf R D) (blocks : live.blocks ≡ old.blocks) (room : live.directory.room ≡ crew_room count n) (whole : IsWhole live seats f)
        (list : list_of new ≡ opening_of live ++ grown_records f.pass.entries) where
      own-is : (k : ℕ) (lt : k < n) → own_of k f.pass.entries ≡ (home.each k lt).seat.made
      own-is k lt =
          let there = home.each k lt in
          let here = get_or_from_slice_get seats k there.seat there.seat there.seat_is in
          let once = whole.made_once k there.seat (slice_get_within seats k there.seat there.seat_is) in
          sym (ap (λ (id : ℕ). own_of id f.pass.entries) there.come.grown.id_is)
          ∙ subst (λ (s : Seated R). own_of s.id f.pass.entries ≡ s.made) here once

      size : length (opening_of live) ≡ length (list_of old)
      size = ap (λ (bs : List (List R)). length (joined_pieces bs)) blocks

      begins : (k : ℕ) (lt : k < n) → IsPrefix (home.each k lt).seat.pass.entries f.pass.entries
      begins k lt =
          let there = home.each k lt in
          let seat = there.seat in
          let here = get_or_from_slice_get seats k seat seat there.seat_is in
          subst (λ (s : Seated R). IsPrefix s.pass.entries f.pass.entries) here (whole.longest k seat (slice_get_within seats k seat there.seat_is))

      -- a seat knows no more records than there are
      size-le : (k : ℕ) (lt : k < n) → size_of live (home.each k lt).seat ≤ length (list_of new)
      size-le k lt =
          let seat = (home.each k lt).seat in
          let few = sum_by-take-le (λ (e : Growth R). length e.records) f.pass.entries (length seat.pass.entries) in
          let same = ap total (begins k lt) in
          let long = ap length list ∙ length-list (opening_of live) f.pass.entries in
          omega arith

      stray : (k : ℕ) (lt : k < n) (m : ℕ) → IsStray (home.each k lt).seat m → IsStrayFor (crew_room count n) k f.pass.entries m
      stray k lt m is =
          let there = home.each k lt in
          let own = own-is k lt in
          elim is [
            | inl next ↦ record {
              inside = let full = room in let of = ap (λ (d : Identity). d.room) there.come.grown.of.directory in let few = next.2 in omega arith;
              known = let le = begins-le there.seat.pass.entries f.pass.entries (begins k lt) in let at = next.1 in omega arith;
              behind_its_own =
                  ap (λ (i : ℕ). own_of k (take i f.pass.entries)) next.1 ∙ ap (own_of k) (begins k lt)
                  ∙ ap (λ (id : ℕ). own_of id there.seat.pass.entries) (sym there.come.grown.id_is) ∙ next.0 ∙ sym own;
            }
            | inr foreign ↦ absurd (no_foreign there.seat f.pass.entries m (begins k lt) (ap (λ (id : ℕ). own_of id f.pass.entries) there.come.grown.id_is ∙ own) foreign)
          ]

      reason : (k : ℕ) (lt : k < n) (fault : GrowFault) → StopsGrower width live (count k) (block k) (home.each k lt).seat fault
          → IsReason width (crew_room count n) (length (list_of new)) (count k) (block k) k f.pass.entries (length (home.each k lt).seat.made) fault
      reason k lt Closed (inl starved) = absurd (let is = starved.0 in cc)
      reason k lt Closed (inr why) = why.0
      reason k lt Full (inl starved) = absurd (let is = starved.0 in cc)
      reason k lt Full (inr why) = (why.0, (let le = begins-le (home.each k lt).seat.pass.entries f.pass.entries (begins k lt) in let full = why.1.1 in omega (arith, room)))
      reason k lt TooLong (inl starved) = absurd (let is = starved.0 in cc)
      reason k lt TooLong (inr why) = (why.0, (let few = size-le k lt in let past = why.1.2 in omega arith))
      reason k lt (Strayed m) (inl starved) = absurd (let is = starved.0 in cc)
      reason k lt (Strayed m) (inr why) = (why.0, stray k lt m why.1)
      reason k lt Memory (inl starved) = starved.1
      reason k lt Memory (inr why) = inl why.0
      reason k lt Empty (inl starved) = absurd (let is = starved.0 in cc)
      reason k lt Empty (inr why) = why
      reason k lt TooLarge (inl starved) = absurd (let is = starved.0 in cc)
      reason k lt TooLarge (inr why) = why

      reason-at : (k : ℕ) (lt : k < n) (fault : GrowFault) → slice_get faults k ≡ Some (Some fault)
          → IsReason width (crew_room count n) (length (list_of new)) (count k) (block k) k f.pass.entries (length (own_of k f.pass.entries)) fault
      reason-at k lt fault is =
          let there = home.each k lt in
          let same : there.fault ≡ Some fault = some_is there.fault (Some fault) (sym there.fault_is ∙ is) in
          let why = subst (λ (o : Option GrowFault). IfSome o (StopsGrower width live (count k) (block k) there.seat)) same there.come.grown.fault_is in
          subst (λ (m : ℕ). IsReason width (crew_room count n) (length (list_of new)) (count k) (block k) k f.pass.entries m fault) (sym (ap length (own-is k lt))) (reason k lt fault why)

      pub crewed : IsCrewed width count block may_stop n old new receipts faults f.pass.entries
      crewed = record {
        list_is = list ∙ ap (λ (bs : List (List R)). joined_pieces bs ++ grown_records f.pass.entries) blocks;
        chained = whole.chained;
        by_growers = λ k d lt. grower-is (get_or f.pass.entries k d).seat (whole.by_seats k d lt);
        as_many = (home.as_many_receipts, home.as_many_faults);
        few = λ k lt. let few = (home.each k lt).come.grown.few in let is = ap length (own-is k lt) in omega arith;
        blocks_are = λ k j growth lt is. (home.each k lt).come.grown.blocks_are j growth (ap (λ (es : List (Growth R)). slice_get es j) (sym (own-is k lt)) ∙ is);
        serials_are = λ k j growth lt is. (home.each k lt).come.grown.serials_are j growth (ap (λ (es : List (Growth R)). slice_get es j) (sym (own-is k lt)) ∙ is);
        receipts_are = λ k lt.
            let there = home.each k lt in
            there.its_are ∙ ap (λ (its : List Receipt). Some its) (there.come.grown.receipts_are
            ∙ ap (λ (es : List (Growth R)). map (receipt_of (length (opening_of live))) es) (sym (own-is k lt))
            ∙ ap (λ (before : ℕ). map (receipt_of before) (own_of k f.pass.entries)) size);
        all_made = λ k lt is.
            let there = home.each k lt in
            let none = some_is there.fault None (sym there.fault_is ∙ is) in
            subst (λ (m : ℕ). (m ≡ count k) ⊎ may_stop k m) (sym (ap length (own-is k lt))) (there.come.all_made none);
        faults_are = λ k fault lt is. reason-at k lt fault is;
      }

-- ---- growers that were sent out

module _ {R S G : Type 0} (live : Phase R) (source : S) (gate : G) (n : ℕ) (sent : List (SentOf R S G)) (s : SentOf R S G) where
  pub sent_last : AreSent live source gate n (sent ++ s ∷ []) → (s.live ≡ live) × (s.source ≡ source) × (s.gate ≡ gate) × (s.grower + length sent + 1 ≡ n)
  sent_last all = all (length sent) s (get-last sent s (length sent) refl)

  pub sent_rest : AreSent live source gate n (sent ++ s ∷ []) → AreSent live source gate n sent
  sent_rest all k t is = all k t (get-push sent s k t is)

  pub sent_more : AreSent live source gate n sent → s.live ≡ live → s.source ≡ source → s.gate ≡ gate → s.grower + length sent + 1 ≡ n → AreSent live source gate n (sent ++ s ∷ [])
  sent_more all same_live same_source same_gate number k t is =
      elim (push_get sent s k t is) [
        | inl before ↦ all k t before
        | inr last ↦ (
          ap (λ (u : SentOf R S G). u.live) (sym last.1) ∙ same_live,
          ap (λ (u : SentOf R S G). u.source) (sym last.1) ∙ same_source,
          ap (λ (u : SentOf R S G). u.gate) (sym last.1) ∙ same_gate,
          (let here = last.0 in let id = ap (λ (u : SentOf R S G). u.grower) last.1 in omega arith),
        )
      ]

-- one that comes home has grown in the phase and by the source that it was sent for, and has asked that gate
pub at_home : {R S G : Type 0} (width : ℕ) (live : Phase R) (count : S → ℕ → ℕ) (block : S → ℕ → ℕ → List R) (may_stop : G → ℕ → ℕ → Type 0)
    (has_let : G → ℕ → ℕ → Type 0) (was_told : G → ℕ → Receipt → Type 0)
    (source : S) (gate : G) (n : ℕ) (s : SentOf R S G) → s.live ≡ live → s.source ≡ source → s.gate ≡ gate → s.grower ≡ n
    → (seat : Seated R) (its : List Receipt) (fault : Option GrowFault) → HasCome width s.live (count s.source s.grower) (block s.source s.grower)
    (may_stop s.gate s.grower) (has_let s.gate s.grower) (was_told s.gate s.grower) s.grower seat its fault
    → HasCome width live (count source n) (block source n) (may_stop gate n) (has_let gate n) (was_told gate n) n seat its fault
at_home {R} {S} {G} width live count block may_stop has_let was_told source gate n s same_live same_source same_gate number seat its fault come =
    let P : Phase R → S → G → ℕ → Type 0 = λ l o h k. HasCome width l (count o k) (block o k) (may_stop h k) (has_let h k) (was_told h k) k seat its fault in
    subst (λ (k : ℕ). P live source gate k) number
    (subst (λ (h : G). P live source h s.grower) same_gate
    (subst (λ (o : S). P live o s.gate s.grower) same_source (subst (λ (l : Phase R). P l s.source s.gate s.grower) same_live come)))

-- ---- the seats of those that are home

module _ {R : Type 0} (width : ℕ) (live : Phase R) (count : ℕ → ℕ) (block : ℕ → ℕ → List R) (may_stop : ℕ → ℕ → Type 0) (has_let : ℕ → ℕ → Type 0)
    (was_told : ℕ → Receipt → Type 0) (n : ℕ) (seats : List (Seated R)) (receipts : List (List Receipt)) (faults : List (Option GrowFault)) where
  pub all-of : AreHome width live count block may_stop has_let was_told n seats receipts faults → All (lists.IsSeatOf live) seats
  all-of home k d lt =
      let there = home.each k (let long = home.as_many_seats in omega arith) in
      let same = get_or_from_slice_get seats k there.seat d there.seat_is in
      subst (lists.IsSeatOf live) (sym same) there.come.grown.of
