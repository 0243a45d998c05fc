-- What a client's seat is after its conversation, and the clients that come home.
use Rattle.std.proofs.Common.{◌≡◌, ℕ, zero, suc, ◌+◌, ◌<◌, inl, inr, List, [], ◌∷◌, ◌++◌, length, get_or, slice_get, All, Option, None, Some, refl, sym, ap, subst, ◌∙◌, arith}
use Rattle.std.proofs.lemmas.List.Elements.{All-nil, All-cons}
use Rattle.std.proofs.lemmas.Option.{get_or_from_slice_get, slice_get-get_or}
use Rattle.record_core.specs.Bytes.{Encoding}
use Rattle.book_core.specs.declared.mark.MarkState.{MarkState}
use Rattle.book_core.specs.declared.mark.Raise.{Raise}
use Rattle.book_core.specs.declared.seat.Receipt.{Receipt}
use Rattle.book_core.specs.Marks.{MarkEnd, HasAllRaises, IsRaiseOf, raised_to}
use Rattle.book_core.specs.Lists.{Phase, Seated, IsSeatOf}
use Rattle.book_core.specs.Beginning.{IsNewSeat}
use Rattle.book_core.specs.Growing.{Grown, SeatLearns, SeatIsTold}
use Rattle.book_core.proofs.Owns.{push_get}
use Rattle.vault_core.proofs.Owners.{AreInOrder}
use Rattle.serve_core.specs.declared.reply.Reply.{Reply}
use Rattle.serve_core.specs.declared.reply.Reply.TheVariants as answers
use Rattle.serve_core.specs.declared.client.Pipes.{Pipes}
use Rattle.serve_core.specs.declared.request.ClientRequest.{ClientRequest}
use Rattle.serve_core.specs.declared.request.ClientRequest.TheVariants as requests
use Rattle.serve_core.specs.declared.talking.TalkEnd.{TalkEnd}
use Rattle.serve_core.specs.Talks.{AreExchanges, Exchange, HasFinished, HasTalked, IsExchange, IsOfGrowth, IsOfLooking, IsOfReading, IsOfRequest, IsOfWaiting}
use Rattle.serve_core.specs.Clients.{AreBegun, AreClients, AreToldByRaises, Begun, HasRaiseTo, IsClientBegun, IsClient, TellsSettled}

newest_raise : (raises : List Raise) (n : ℕ) → raised_to raises ≡ n → 0 < n → HasRaiseTo n raises
newest_raise [] n is some = absurd (omega (arith, is, some))
newest_raise (raise ∷ earlier) n is some = (raise, inl refl, is)

-- ---- one seat, from a moment of its conversation to a later one

-- it is the same seat, and has seen the raises that it had
record GoesOn {R : Type 0} (old new : Seated R) : Type 0 where
  id : new.id ≡ old.id
  seen : HasAllRaises new.mark.raises old.mark.raises

module _ {R : Type 0} where
  goes_same : (old new : Seated R) → new ≡ old → GoesOn old new
  goes_same old new same = record { id = ap (λ (s : Seated R). s.id) same; seen = subst (λ (s : Seated R). HasAllRaises s.mark.raises old.mark.raises) (sym same) (λ raise is. is) }

  goes_with : (old new : Seated R) → new.id ≡ old.id → new.mark ≡ old.mark → GoesOn old new
  goes_with old new id mark = record { id = id; seen = subst (λ (m : MarkEnd). HasAllRaises m.raises old.mark.raises) (sym mark) (λ raise is. is) }

  goes_told : (old new : Seated R) (count : ℕ) (state : MarkState) → SeatIsTold old new count state → GoesOn old new
  goes_told old new count state told = record { id = told.same.0; seen = told.seen }

  goes_join : (old mid new : Seated R) → GoesOn old mid → GoesOn mid new → GoesOn old new
  goes_join old mid new first then = record { id = then.id ∙ first.id; seen = λ raise is. then.seen raise (first.seen raise is) }

module _ {R : Type 0} (form : Encoding R) (live : Phase R) where
  -- ---- one request

  growth_goes : (count : ℕ) (block : List ℕ) (old new : Seated R) (answer : Reply) → IsOfGrowth form live count block old new answer → GoesOn old new
  growth_goes count block old new (answers.Grown number start) is = let grown = is.2 in goes_with old new grown.same.0 grown.same.1
  growth_goes count block old new (answers.Refused refusal) is = let learns = is.0 in goes_with old new learns.id learns.mark
  growth_goes count block old new other is = absurd is

  waiting_goes : (old new : Seated R) (answer : Reply) → IsOfWaiting old new answer → GoesOn old new
  waiting_goes old new (answers.Settled growths) is = goes_told old new growths new.mark.told.state is.0
  waiting_goes old new (answers.Refused refusal) is = goes_told old new new.mark.told.count new.mark.told.state is.0
  waiting_goes old new other is = absurd is

  looking_goes : (old new : Seated R) (answer : Reply) → IsOfLooking live old new answer → GoesOn old new
  looking_goes old new (answers.Looked size settled) is =
      let learns = is.1 in
      goes_join old is.0 new (goes_with old is.0 learns.id learns.mark) (goes_told is.0 new settled is.4 is.5)
  looking_goes old new (answers.Refused refusal) is = let learns = is.0 in goes_with old new learns.id learns.mark
  looking_goes old new other is = absurd is

  reading_goes : (start count : ℕ) (old new : Seated R) (answer : Reply) (records : List R) → IsOfReading form live start count old new answer records → GoesOn old new
  reading_goes start count old new (answers.Piece at) records is = goes_same old new is.1
  reading_goes start count old new (answers.Refused refusal) records is = goes_same old new is.0
  reading_goes start count old new other records is = absurd is

  request_goes : (request : ClientRequest) (block : List ℕ) (old new : Seated R) (answer : Reply) (records : List R) → IsOfRequest form live request block old new answer records → GoesOn old new
  request_goes requests.End block old new answer records is = goes_same old new is.2
  request_goes (requests.Grow count) block old new answer records is = growth_goes count block old new answer is.0
  request_goes requests.Await block old new answer records is = waiting_goes old new answer is.0
  request_goes requests.Look block old new answer records is = looking_goes old new answer is.0
  request_goes (requests.Read start count) block old new answer records is = reading_goes start count old new answer records is.0

  -- what it tells as settled the newest raise told that the seat has seen then
  waiting_raised : (old new : Seated R) (answer : Reply) (n : ℕ) → IsOfWaiting old new answer → TellsSettled answer n → raised_to new.mark.raises ≡ n
  waiting_raised old new (answers.Settled growths) n is tells = is.0.raised ∙ sym tells
  waiting_raised old new (answers.Refused refusal) n is tells = absurd tells
  waiting_raised old new other n is tells = absurd is

  looking_raised : (old new : Seated R) (answer : Reply) (n : ℕ) → IsOfLooking live old new answer → TellsSettled answer n → raised_to new.mark.raises ≡ n
  looking_raised old new (answers.Looked size settled) n is tells = is.5.raised ∙ sym tells
  looking_raised old new (answers.Refused refusal) n is tells = absurd tells
  looking_raised old new other n is tells = absurd is

  no_growth_tells : (count : ℕ) (block : List ℕ) (old new : Seated R) (answer : Reply) (n : ℕ) → IsOfGrowth form live count block old new answer → TellsSettled answer n → ⊥
  no_growth_tells count block old new (answers.Grown number start) n is tells = tells
  no_growth_tells count block old new (answers.Refused refusal) n is tells = tells
  no_growth_tells count block old new other n is tells = absurd is

  no_read_tells : (start count : ℕ) (old new : Seated R) (answer : Reply) (records : List R) (n : ℕ) → IsOfReading form live start count old new answer records → TellsSettled answer n → ⊥
  no_read_tells start count old new (answers.Piece at) records n is tells = tells
  no_read_tells start count old new (answers.Refused refusal) records n is tells = tells
  no_read_tells start count old new other records n is tells = absurd is

  request_raised : (request : ClientRequest) (block : List ℕ) (old new : Seated R) (answer : Reply) (records : List R) (n : ℕ) → IsOfRequest form live request block old new answer records
      → TellsSettled answer n → raised_to new.mark.raises ≡ n
  request_raised requests.End block old new answer records n is tells = absurd (subst (λ (a : Reply). TellsSettled a n) is.0 tells)
  request_raised (requests.Grow count) block old new answer records n is tells = absurd (no_growth_tells count block old new answer n is.0 tells)
  request_raised requests.Await block old new answer records n is tells = waiting_raised old new answer n is.0 tells
  request_raised requests.Look block old new answer records n is tells = looking_raised old new answer n is.0 tells
  request_raised (requests.Read start count) block old new answer records n is tells = absurd (no_read_tells start count old new answer records n is.0 tells)

  -- ---- a conversation

  exchange_goes : (old new : Seated R) (e : Exchange R) → IsExchange form live old e new → GoesOn old new
  exchange_goes old new e is = elim is.told [
    | inl away ↦ goes_same old new away.same
    | inr answered ↦ request_goes answered.request e.block old new e.answer e.records answered.told
  ]

  exchange_raised : (old new : Seated R) (e : Exchange R) (n : ℕ) → IsExchange form live old e new → TellsSettled e.answer n → raised_to new.mark.raises ≡ n
  exchange_raised old new e n is tells = elim is.told [
    | inl away ↦ absurd (subst (λ (a : Reply). TellsSettled a n) away.told tells)
    | inr answered ↦ request_raised answered.request e.block old new e.answer e.records n answered.told tells
  ]

  exchanges_go : (exchanges : List (Exchange R)) (old new : Seated R) → AreExchanges form live old exchanges new → GoesOn old new
  exchanges_go [] old new are = goes_same old new are
  exchanges_go (e ∷ earlier) old new are = goes_join old are.0 new (exchanges_go earlier old are.0 are.1) (exchange_goes are.0 new e are.2)

  told_by_raises : (exchanges : List (Exchange R)) (old new : Seated R) (raises : List Raise) → HasAllRaises raises new.mark.raises → AreExchanges form live old exchanges new
      → AreToldByRaises exchanges raises
  told_by_raises [] old new raises all are = All-nil (λ (e : Exchange R). (n : ℕ) → TellsSettled e.answer n → 0 < n → HasRaiseTo n raises)
  told_by_raises (e ∷ earlier) old new raises all are =
      All-cons (λ (e : Exchange R). (n : ℕ) → TellsSettled e.answer n → 0 < n → HasRaiseTo n raises) e earlier
      (λ n tells some. let raise = newest_raise new.mark.raises n (exchange_raised are.0 new e n are.2 tells) some in (raise.0, all raise.0 raise.1, raise.2))
      (told_by_raises earlier old are.0 raises (λ raise is. all raise ((exchange_goes are.0 new e are.2).seen raise is)) are.1)

  -- a client whose thread has ended
  pub client_is : (id : ℕ) (begun seat : Seated R) (input remains output written : Option (List ℕ)) (end : Option TalkEnd) → IsNewSeat live.directory live.mark id begun → IsSeatOf live seat
      → HasFinished form live begun seat input remains output written end → IsClient form live id input output seat
  client_is id begun seat input remains output written end new of finished = record {
    begun = begun;
    new = new;
    of = of;
    id_is = same_id end finished ∙ new.id_is;
    remains = remains;
    written = written;
    end = end;
    finished = finished;
    told = λ ended talked. told_by_raises talked.exchanges begun seat seat.mark.raises (λ raise is. is) talked.are;
  }
    where
      same_id : (end : Option TalkEnd) → HasFinished form live begun seat input remains output written end → seat.id ≡ begun.id
      same_id None finished = ap (λ (s : Seated R). s.id) finished.0
      same_id (Some end) finished = (exchanges_go finished.exchanges begun seat finished.are).id

-- ---- those that were started, and those that come home

get-push : {X : Type 0} (xs : List X) (x : X) (k : ℕ) (y : X) → slice_get xs k ≡ Some y → slice_get (xs ++ x ∷ []) k ≡ Some y
get-push [] x k y is = grind arith
get-push (z ∷ xs) x zero y is = is
get-push (z ∷ xs) x (suc k) y is = get-push xs x k y is

get-last : {X : Type 0} (xs : List X) (x : X) → slice_get (xs ++ x ∷ []) (length xs) ≡ Some x
get-last [] x = refl
get-last (z ∷ xs) x = get-last xs x

module _ {R I W : Type 0} (live : Phase R) (pipes : List (Pipes I W)) where
  pub begun_last : (rest : List (Begun R I W)) (b : Begun R I W) → AreBegun live pipes (rest ++ b ∷ []) → (id : ℕ) × (id + length rest + 1 ≡ length pipes) × IsClientBegun live pipes id b
  begun_last rest b all = all (length rest) b (get-last rest b)

  pub begun_rest : (rest : List (Begun R I W)) (b : Begun R I W) → AreBegun live pipes (rest ++ b ∷ []) → AreBegun live pipes rest
  begun_rest rest b all k begun there = all k begun (get-push rest b k begun there)

  pub begun_more : (all : List (Begun R I W)) (b : Begun R I W) (id : ℕ) → AreBegun live pipes all → id + length all + 1 ≡ length pipes → IsClientBegun live pipes id b → AreBegun live pipes (all ++ b ∷ [])
  begun_more all b id are number is k begun there = elim (push_get all b k begun there) [
    | inl before ↦ are k begun before
    | inr last ↦ (id, (let at = last.0 in omega (arith, at, number)), subst (IsClientBegun live pipes id) last.1 is)
  ]

  -- the client of the last of these pipes, whose seat was the last one
  pub begun_is : (given rest : List (Pipes I W)) (n : ℕ) (b : Begun R I W) (pair : Pipes I W) → given ≡ rest ++ pair ∷ [] → ((k : ℕ) (p : Pipes I W) → slice_get given k ≡ Some p → slice_get pipes k ≡ Some p)
      → length rest ≡ n → b.live ≡ live → b.pipes ≡ pair → IsNewSeat live.directory live.mark n b.seat → IsClientBegun live pipes n b
  begun_is given rest n b pair is front long same its new = record {
    live_is = same;
    new = new;
    pipes_are = front n b.pipes (ap (λ (ps : List (Pipes I W)). slice_get ps n) is
        ∙ subst (λ (k : ℕ). slice_get (rest ++ pair ∷ []) k ≡ Some pair) long (get-last rest pair) ∙ ap Some (sym its));
  }

  pub front_rest : (given rest : List (Pipes I W)) (pair : Pipes I W) → given ≡ rest ++ pair ∷ [] → ((k : ℕ) (p : Pipes I W) → slice_get given k ≡ Some p → slice_get pipes k ≡ Some p)
      → (k : ℕ) (p : Pipes I W) → slice_get rest k ≡ Some p → slice_get pipes k ≡ Some p
  front_rest given rest pair is front k p there = front k p (ap (λ (ps : List (Pipes I W)). slice_get ps k) is ∙ get-push rest pair k p there)

-- the clients from the first up to those seats
abbrev pub AreSeatsOf : {R I W : Type 0} → Encoding R → Phase R → (I → Option (List ℕ)) → (W → Option (List ℕ)) → List (Pipes I W) → List (Seated R) → Type 0
AreSeatsOf {R} {I} {W} form live remaining contents pipes seats = (k : ℕ) (pair : Pipes I W) (seat : Seated R) → slice_get pipes k ≡ Some pair → slice_get seats k ≡ Some seat
    → IsClient form live k (remaining pair.requests) (contents pair.answers) seat

same_some : {X : Type 0} (x y : X) → Some x ≡ Some y → x ≡ y
same_some x y is = cc

module _ {R I W : Type 0} (form : Encoding R) (live : Phase R) (remaining : I → Option (List ℕ)) (contents : W → Option (List ℕ)) (pipes : List (Pipes I W)) where
  pub home_none : AreSeatsOf form live remaining contents pipes []
  home_none k pair seat at there = absurd (none k there)
    where
      none : (k : ℕ) → None ≡ Some seat → ⊥
      none k is = cc

  pub home_more : (seats : List (Seated R)) (seat : Seated R) (n : ℕ) (b : Begun R I W) (remains written : Option (List ℕ)) (end : Option TalkEnd) → AreSeatsOf form live remaining contents pipes seats
      → length seats ≡ n → IsClientBegun live pipes n b → IsSeatOf b.live seat
      → HasFinished form b.live b.seat seat (remaining b.pipes.requests) remains (contents b.pipes.answers) written end → AreSeatsOf form live remaining contents pipes (seats ++ seat ∷ [])
  home_more seats seat n b remains written end home long is of finished k pair s at there = elim (push_get seats seat k s there) [
    | inl before ↦ home k pair s at before
    | inr last ↦
        let number : k ≡ n = last.0 ∙ long in
        let its : b.pipes ≡ pair = same_some b.pipes pair (sym is.pipes_are ∙ ap (slice_get pipes) (sym number) ∙ at) in
        let of_live = subst (λ (l : Phase R). IsSeatOf l seat) is.live_is of in
        let has = subst (λ (l : Phase R). HasFinished form l b.seat seat (remaining b.pipes.requests) remains (contents b.pipes.answers) written end) is.live_is finished in
        let client = client_is form live n b.seat seat (remaining b.pipes.requests) remains (contents b.pipes.answers) written end is.new of_live has in
        subst (λ (i : ℕ). IsClient form live i (remaining pair.requests) (contents pair.answers) s) (sym number)
        (subst (λ (p : Pipes I W). IsClient form live n (remaining p.requests) (contents p.answers) s) its
        (subst (λ (t : Seated R). IsClient form live n (remaining b.pipes.requests) (contents b.pipes.answers) t) last.1 client))
  ]

  module _ (seats : List (Seated R)) (clients : AreClients form live remaining contents pipes seats) where
    at_place : (P : ℕ → Seated R → Type 0) → ((k : ℕ) (input output : Option (List ℕ)) (seat : Seated R) → IsClient form live k input output seat → P k seat)
        → (k : ℕ) (d : Seated R) → k < length seats → P k (get_or seats k d)
    at_place P then k d lt =
        let there = slice_get-get_or seats k d lt in
        let pair = some_pair pipes k (let many = clients.as_many in omega (arith, lt, many)) in
        then k (remaining pair.0.requests) (contents pair.0.answers) (get_or seats k d) (clients.each k pair.0 (get_or seats k d) pair.1 there)
      where
        some_pair : (ps : List (Pipes I W)) (k : ℕ) → k < length ps → (p : Pipes I W) × (slice_get ps k ≡ Some p)
        some_pair [] k lt = absurd (omega arith)
        some_pair (p ∷ ps) zero lt = (p, refl)
        some_pair (p ∷ ps) (suc k) lt = some_pair ps k (omega arith)

    pub in_order : AreInOrder seats
    in_order = at_place (λ k seat. seat.id ≡ k) (λ k input output seat client. client.id_is)

    pub all_of_phase : All (IsSeatOf live) seats
    all_of_phase = at_place (λ k seat. IsSeatOf live seat) (λ k input output seat client. client.of)
