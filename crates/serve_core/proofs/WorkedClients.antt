-- Worked clients: what they may be told as settled, whose growths may stand, and the nearest that may not.
use Rattle.std.proofs.Common.{◌≡◌, ◌≢◌, ℕ, zero, suc, ◌^◌, ◌<◌, ◌≤◌, inl, inr, List, [], ◌∷◌, ◌++◌, length, take, slice_get, All, Some, None, Option, Ok, Err, refl, sym, ap, subst, ◌∙◌, arith}
use Rattle.std.proofs.lemmas.List.Elements.{All-nil, All-cons}
use Rattle.std.proofs.lemmas.Option.{none-some, same_Some}
use Rattle.record_core.specs.Bytes.{Encoding}
use Rattle.disk_core.specs.State.{State, settled}
use Rattle.disk_core.specs.Moments.{LeftSince}
use Rattle.disk_core.proofs.ImageLemmas.{settled_image}
use Rattle.pen_core.specs.Typed.{OpensTo}
use Rattle.pen_core.proofs.Typed.{OpensTo_same}
use Rattle.block_core.specs.Growth.{Growth}
use Rattle.directory_core.specs.Chain.{IsChained, grown_records}
use Rattle.book_core.specs.declared.mark.Raise.{Raise}
use Rattle.book_core.specs.Marks.{MarkEnd}
use Rattle.book_core.specs.Lists.{Phase, Seated, opening_of, own_of}
use Rattle.book_core.specs.Beginning.{IsNewSeat}
use Rattle.vault_core.specs.Leaving.{AreOfGrowers, StandAmong}
use Rattle.serve_core.specs.declared.reply.Reply.TheVariants as answers
use Rattle.serve_core.specs.declared.client.Pipes.{Pipes}
use Rattle.serve_core.specs.declared.refusal.RequestRefusal.TheVariants as refusals
use Rattle.serve_core.specs.declared.talking.TalkEnd.{TalkEnd}
use Rattle.serve_core.specs.Talks.{Exchange, HasTalked}
use Rattle.serve_core.specs.Serving.{IsServed}
use Rattle.serve_core.proofs.Clients.{client_is}
use Rattle.serve_core.specs.declared.fault.ServeFault.TheVariants as faults
use Rattle.vault_core.specs.declared.fault.VaultFault.TheVariants as vaults
use Rattle.serve_core.specs.Clients.{AreClients, AreNotServed, AreToldByRaises, HasRaiseTo, IsClient, IsServedTo, IsServerRoom, LeavesClients, RaisesStand, TellsSettled}

-- ---- what is told as settled

telling : TellsSettled (answers.Settled 3) 3 × TellsSettled (answers.Looked 9 3) 3
telling = (refl, refl)

not_telling : (TellsSettled (answers.Settled 3) 4 → ⊥) × (TellsSettled (answers.Looked 9 3) 9 → ⊥) × (TellsSettled (answers.Grown 3 0) 3 → ⊥) × (TellsSettled (answers.Refused refusals.Ended) 0 → ⊥)
not_telling = ((λ is. absurd (omega arith)), (λ is. absurd (omega arith)), (λ is. is), λ is. is)

abbrev to_two : Raise
to_two = record { count = 2; at = 5 }

raised_to_two : HasRaiseTo 2 (to_two ∷ [])
raised_to_two = (to_two, inl refl, refl)

not_raised : (HasRaiseTo 2 [] → ⊥) × (HasRaiseTo 3 (to_two ∷ []) → ⊥)
not_raised = (
  λ has. has.1,
  λ has. elim has.1 [ inl is ↦ absurd (let count = ap (λ (r : Raise). r.count) is in let other = has.2 in omega (arith, count, other)) | inr none ↦ absurd none ],
)

module _ {R : Type 0} where
  abbrev exchange : ℕ → Exchange R
  exchange n = record { head = []; block = []; answer = answers.Settled n; records = [] }

  two_told : AreToldByRaises (exchange 2 ∷ []) (to_two ∷ [])
  two_told =
      All-cons (λ (e : Exchange R). (n : ℕ) → TellsSettled e.answer n → 0 < n → HasRaiseTo n (to_two ∷ [])) (exchange 2) []
      (λ n is some. (to_two, inl refl, sym is)) (All-nil (λ (e : Exchange R). (n : ℕ) → TellsSettled e.answer n → 0 < n → HasRaiseTo n (to_two ∷ [])))

  -- none settled is told without a raise, and nothing more is
  none_told : AreToldByRaises (exchange 0 ∷ []) []
  none_told =
      All-cons (λ (e : Exchange R). (n : ℕ) → TellsSettled e.answer n → 0 < n → HasRaiseTo n []) (exchange 0) []
      (λ n is some. absurd (omega (arith, is, some))) (All-nil (λ (e : Exchange R). (n : ℕ) → TellsSettled e.answer n → 0 < n → HasRaiseTo n []))

  two_not_told : AreToldByRaises (exchange 2 ∷ []) [] → ⊥
  two_not_told told = (told 0 (exchange 2) (omega arith) 2 refl (omega arith)).1

-- ---- what stands

module _ {R : Type 0} (form : Encoding R) (small : form.width < 2 ^ 16) (r : R) (image : List ℕ) (opens : OpensTo form image []) where
  abbrev states : List State
  states = settled image ∷ []

  abbrev growth : ℕ → ℕ → Growth R
  growth seat number = record { number = number; start = number; seat = seat; serial = 0; records = r ∷ [] }

  abbrev to_one : ℕ → Raise
  to_one at = record { count = 1; at = at }

  never_both : [] ≡ r ∷ [] → ⊥
  never_both is = absurd cc

  -- a growth that was told stands in each image since
  told_is_left : RaisesStand form states [] (growth 0 0 ∷ []) (to_one 1 ∷ []) → ⊥
  told_is_left stands =
      let behind = stands (to_one 1) (inl refl) image (omega arith, inl (settled_image image)) in
      at behind.count behind.at_least behind.known behind.opens
    where
      at : (count : ℕ) → 1 ≤ count → count ≤ 1 → OpensTo form image ([] ++ grown_records (take count (growth 0 0 ∷ []))) → ⊥
      at zero least most opens_to = absurd (omega (arith, least))
      at (suc zero) least most opens_to = never_both (OpensTo_same form image [] (r ∷ []) small opens opens_to)
      at (suc (suc n)) least most opens_to = absurd (omega (arith, most))

  -- one that is told later may lack in it
  told_later : RaisesStand form states [] (growth 0 0 ∷ []) (to_one 2 ∷ [])
  told_later raise is found since =
      let at : raise.at ≡ 2 = elim is [ inl same ↦ ap (λ (x : Raise). x.at) (sym same) | inr none ↦ absurd none ] in
      absurd (let early = since.0 in omega (arith, at, early))

  -- ---- whose growths stand

  abbrev first : Growth R
  first = growth 0 0

  abbrev second : Growth R
  second = growth 1 1

  -- of two growths of two seats each has its own, or hasn't made it as far as it says
  each_its_own : StandAmong 0 (first ∷ second ∷ []) (first ∷ []) × StandAmong 1 (first ∷ second ∷ []) (second ∷ []) × StandAmong 1 (first ∷ second ∷ []) []
  each_its_own = (
    record { first = 1; inside = omega arith; are = refl },
    record { first = 2; inside = omega arith; are = refl },
    record { first = 1; inside = omega arith; are = refl },
  )

  -- none has another's, or one that doesn't stand
  not_another's : StandAmong 0 (second ∷ []) (second ∷ []) → ⊥
  not_another's stands = at stands.first stands.inside stands.are
    where
      at : (n : ℕ) → n ≤ 1 → second ∷ [] ≡ own_of 0 (take n (second ∷ [])) → ⊥
      at zero le is = absurd cc
      at (suc zero) le is = absurd cc
      at (suc (suc n)) le is = absurd (omega (arith, le))

  not_lost : StandAmong 0 [] (first ∷ []) → ⊥
  not_lost stands = at stands.first stands.inside stands.are
    where
      at : (n : ℕ) → n ≤ 0 → first ∷ [] ≡ own_of 0 (take n []) → ⊥
      at zero le is = absurd cc
      at (suc n) le is = absurd (omega (arith, le))

  module _ (seat : ℕ → List (Growth R) → Seated R) (made : (id : ℕ) (growths : List (Growth R)) → (seat id growths).made ≡ growths) where
    of_two : AreOfGrowers 2 (seat 0 (first ∷ []) ∷ seat 1 (second ∷ []) ∷ []) (first ∷ second ∷ [])
    of_two = record {
      by_growers = All-cons (λ (e : Growth R). e.seat < 2) first (second ∷ []) (omega arith)
          (All-cons (λ (e : Growth R). e.seat < 2) second [] (omega arith) (All-nil (λ (e : Growth R). e.seat < 2)));
      made_once = each;
    }
      where
        each : (k : ℕ) (s : Seated R) → k < 2 → slice_get (seat 0 (first ∷ []) ∷ seat 1 (second ∷ []) ∷ []) k ≡ Some s → own_of k (first ∷ second ∷ []) ≡ s.made
        each zero s lt is = sym (made 0 (first ∷ [])) ∙ ap (λ (t : Seated R). t.made) (same_Some (seat 0 (first ∷ [])) s is)
        each (suc zero) s lt is = sym (made 1 (second ∷ [])) ∙ ap (λ (t : Seated R). t.made) (same_Some (seat 1 (second ∷ [])) s is)
        each (suc (suc n)) s lt is = absurd (omega (arith, lt))

    -- a growth of nobody, and one that bears a grower's id which it didn't make
    of_nobody : AreOfGrowers 1 (seat 0 (first ∷ []) ∷ []) (first ∷ second ∷ []) → ⊥
    of_nobody are = let by = are.by_growers 1 second (omega arith) in absurd (omega (arith, by))

    not_made : AreOfGrowers 1 (seat 0 [] ∷ []) (first ∷ []) → ⊥
    not_made are = let own : first ∷ [] ≡ (seat 0 []).made = are.made_once 0 (seat 0 []) (omega arith) refl in absurd (let none = made 0 [] in let is = own ∙ none in cc)

-- ---- clients

module _ {R I W : Type 0} (form : Encoding R) (live : Phase R) (remaining : I → Option (List ℕ)) (contents : W → Option (List ℕ)) where
  -- a client that wasn't talked with has its new seat
  in_silence : (begun : Seated R) (id : ℕ) → IsNewSeat live.directory live.mark id begun → (input output : Option (List ℕ)) → IsClient form live id input output begun
  in_silence begun id new input output =
      client_is form live id begun begun input input output output None new (record { directory = new.of; mark = ap (λ (m : MarkEnd). m.of) new.marked }) (refl, refl, refl)

  not_with_another's : (seat : Seated R) → seat.id ≡ 0 → (input output : Option (List ℕ)) → IsClient form live 1 input output seat → ⊥
  not_with_another's seat none input output client = absurd (let one = client.id_is in omega (arith, one, none))

  -- one that was told of two has seen a raise
  not_without_a_raise : (seat : Seated R) → seat.mark.raises ≡ [] → (input output : Option (List ℕ)) (client : IsClient form live 0 input output seat) (ended : TalkEnd)
      (talked : HasTalked form live client.begun seat input client.remains output client.written ended) → talked.exchanges ≡ exchange 2 ∷ [] → ⊥
  not_without_a_raise seat none input output client ended talked is =
      two_not_told (subst (λ (raises : List Raise). AreToldByRaises {R = R} (exchange 2 ∷ []) raises) none
      (subst (λ (es : List (Exchange R)). AreToldByRaises es seat.mark.raises) is (client.told ended talked)))

  -- each pair of pipes has a client
  none_for_none : AreClients form live remaining contents [] []
  none_for_none = record { as_many = refl; each = λ k pair seat at there. absurd (none-some pair at) }

  not_left_out : (pair : Pipes I W) → AreClients form live remaining contents (pair ∷ []) [] → ⊥
  not_left_out pair are = absurd (let many = are.as_many in omega (arith, many))

  -- ---- a server

  -- it takes no fewer growths than any phase, and no more than a directory
  rooms : IsServerRoom 1048568 × IsServerRoom 536870904
  rooms = (inr refl, inl refl)

  no_other_room : (IsServerRoom 8 → ⊥) × (IsServerRoom 1048567 → ⊥) × (IsServerRoom 536870905 → ⊥)
  no_other_room = (
    λ room. elim room [ inl is ↦ absurd (omega arith) | inr is ↦ absurd (omega arith) ],
    λ room. elim room [ inl is ↦ absurd (omega arith) | inr is ↦ absurd (omega arith) ],
    λ room. elim room [ inl is ↦ absurd (omega arith) | inr is ↦ absurd (omega arith) ],
  )

  module _ {D : Type 0} (states : D → List State) (disk left : D) (settled_to : ℕ) where
    -- without clients nothing grows
    nothing_grown : (served : IsServed form states disk left settled_to) → served.growths ≡ [] → opening_of live ≡ served.before → IsServerRoom live.directory.room
        → IsServedTo form states remaining contents [] disk left settled_to
    nothing_grown served none opening room = record {
      served = served;
      live = live;
      room = room;
      opening = opening;
      seats = [];
      clients = none_for_none;
      chained = subst (λ (es : List (Growth R)). IsChained es) (sym none) (λ g e is. absurd (none-some e is));
      theirs = λ k seat there. absurd (none-some seat there);
      just_theirs = λ as_many. record {
        by_growers = subst (All (λ (e : Growth R). e.seat < 0)) (sym none) (All-nil (λ (e : Growth R). e.seat < 0));
        made_once = λ k seat lt there. absurd (omega (arith, lt));
      };
      told = All-nil _;
    }

    none_invented : (growth : Growth R) (leaves : LeavesClients {X = Unit {0}} form states remaining contents [] disk left settled_to (Ok tt)) → leaves.0.served.growths ≡ growth ∷ [] → ⊥
    none_invented growth leaves one =
        let by = subst (All (λ (e : Growth R). e.seat < 0)) one leaves.2.by_growers in
        absurd (let lt = by 0 growth (omega arith) in omega (arith, lt))

    all_settled : (growth : Growth R) (leaves : LeavesClients {X = Unit {0}} form states remaining contents [] disk left 0 (Ok tt)) → leaves.0.served.growths ≡ growth ∷ [] → ⊥
    all_settled growth leaves one = absurd (let all = leaves.1 in let long = ap length one in omega (arith, all, long))

    -- where a thread was refused nothing was grown, so nothing is settled, and each client has grown nothing
    none_by_a_refused_thread : (pipes : List (Pipes I W)) (leaves : LeavesClients {X = Unit {0}} form states remaining contents pipes disk left settled_to (Err faults.Thread))
        → (settled_to ≡ 0) × ((k : ℕ) (seat : Seated R) → slice_get leaves.seats k ≡ Some seat → seat.made ≡ [])
    none_by_a_refused_thread pipes leaves = (
      (let few = leaves.served.few in let long = ap length leaves.none in omega (arith, few, long)),
      λ k seat there. (leaves.clients.new k seat there).made,
    )

    not_one_by_a_refused_thread : (growth : Growth R) (leaves : LeavesClients {X = Unit {0}} form states remaining contents [] disk left settled_to (Err faults.Thread)) → leaves.served.growths ≡ growth ∷ [] → ⊥
    not_one_by_a_refused_thread growth leaves one = absurd (let none = sym leaves.none ∙ one in cc)

    -- nor was anything where no phase was begun
    not_one_without_a_phase : (growth : Growth R) (leaves : LeavesClients {X = Unit {0}} form states remaining contents [] disk left settled_to (Err (faults.Share vaults.WrongPhase))) → leaves.0.growths ≡ growth ∷ [] → ⊥
    not_one_without_a_phase growth leaves one = absurd (let none = sym leaves.1 ∙ one in cc)

  -- ---- clients that weren't talked with

  -- each pair of pipes has its seat, which is as it was new
  new_of_one : (pair : Pipes I W) (begun : Seated R) → IsNewSeat live.directory live.mark 0 begun → AreNotServed live (pair ∷ []) (begun ∷ [])
  new_of_one pair begun new = record { as_many = refl; new = each }
    where
      each : (k : ℕ) (seat : Seated R) → slice_get (begun ∷ []) k ≡ Some seat → IsNewSeat live.directory live.mark k seat
      each zero seat there = subst (λ (s : Seated R). IsNewSeat live.directory live.mark 0 s) (same_Some begun seat there) new
      each (suc k) seat there = absurd (none-some seat there)

  not_of_more : (pair : Pipes I W) (begun : Seated R) → AreNotServed live (pair ∷ pair ∷ []) (begun ∷ []) → ⊥
  not_of_more pair begun are = absurd (let many = are.as_many in omega (arith, many))

  -- one that has grown was talked with
  not_grown : (pair : Pipes I W) (seat : Seated R) (growth : Growth R) → seat.made ≡ growth ∷ [] → AreNotServed live (pair ∷ []) (seat ∷ []) → ⊥
  not_grown pair seat growth one are = absurd (let none = sym (are.new 0 seat refl).made ∙ one in cc)
