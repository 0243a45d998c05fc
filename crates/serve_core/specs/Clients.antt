-- The clients of a server, and what stands of what they grew.
use Rattle.std.specs.Prelude.{◌≡◌, ◌⊎◌, ℕ, ◌+◌, ◌<◌, List, [], length, slice_get, All, Option, None, Some}
use Rattle.std.specs.declared.result.Result.{Result}
use Rattle.std.specs.declared.result.Result.TheVariants.{Ok, Err}
use Rattle.record_core.specs.Bytes.{Encoding}
use Rattle.disk_core.specs.State.{State}
use Rattle.disk_core.specs.Moments.{LeftSince}
use Rattle.block_core.specs.Growth.{Growth}
use Rattle.directory_core.specs.Chain.{IsChained, IsPrefix}
use Rattle.directory_core.specs.Limits.{place_limit, growth_limit}
use Rattle.book_core.specs.declared.mark.Raise.{Raise}
use Rattle.book_core.specs.Marks.{IsRaiseOf}
use Rattle.book_core.specs.Lists.{Phase, Seated, IsSeatOf, StandInList, opening_of}
use Rattle.book_core.specs.Beginning.{AreNewSeats, IsNewSeat}
use Rattle.flush_core.specs.Flusher.{FlusherOf, ToldIsLeft}
use Rattle.vault_core.specs.Gathering.{made_by}
use Rattle.vault_core.specs.Leaving.{AreOfGrowers, StandAmong}
use Rattle.serve_core.specs.declared.reply.Reply.{Reply}
use Rattle.serve_core.specs.declared.reply.Reply.TheVariants as answers
use Rattle.serve_core.specs.declared.client.Pipes.{Pipes}
use Rattle.serve_core.specs.declared.fault.ServeFault.{ServeFault}
use Rattle.serve_core.specs.declared.fault.ServeFault.TheVariants.{Open, Share, Thread, Flush}
use Rattle.serve_core.specs.declared.talking.TalkEnd.{TalkEnd}
use Rattle.serve_core.specs.Talks.{Exchange, HasFinished, HasTalked}
use Rattle.serve_core.specs.Serving.{IsLeft, IsServed, OpensBehind}

-- ---- what a client was told as settled

-- the answer tells that so many growths are settled
abbrev pub TellsSettled : Reply → ℕ → Type 0
TellsSettled (answers.Settled growths) n = n ≡ growths
TellsSettled (answers.Looked size settled) n = n ≡ settled
TellsSettled other n = ⊥

-- one of the raises told of so many
abbrev pub HasRaiseTo : ℕ → List Raise → Type 0
HasRaiseTo n raises = (raise : Raise) × IsRaiseOf raises raise × (raise.count ≡ n)

-- whatever number of settled growths is told, if it isn't 0, one of these raises told it
abbrev pub AreToldByRaises : {R : Type 0} → List (Exchange R) → List Raise → Type 0
AreToldByRaises exchanges raises = All (λ e. (n : ℕ) → TellsSettled e.answer n → 0 < n → HasRaiseTo n raises) exchanges

-- what the raises told stands: whatever a crash may have left since one of them opens to the records from before the phase and
-- the first growths, each whole, at least as many as it told
abbrev pub RaisesStand : {R : Type 0} → Encoding R → List State → List R → List (Growth R) → List Raise → Type 0
RaisesStand form states before growths raises = (raise : Raise) → IsRaiseOf raises raise → (image : List ℕ) → LeftSince states raise.at image → OpensBehind form before growths raise.count image

-- ---- the clients

-- A client of that phase with the seat of that id, which was new, over these streams. Its seat is now as the conversation left
-- it, and has seen the raises that told what the client was told as settled, in whichever exchanges.
pub record IsClient {R : Type 0} (form : Encoding R) (live : Phase R) (id : ℕ) (input output : Option (List ℕ)) (seat : Seated R) : Type 0 where
  pub begun : Seated R
  pub new : IsNewSeat live.directory live.mark id begun
  pub of : IsSeatOf live seat
  pub id_is : seat.id ≡ id
  pub remains : Option (List ℕ)
  pub written : Option (List ℕ)
  pub end : Option TalkEnd
  pub finished : HasFinished form live begun seat input remains output written end
  pub told : (ended : TalkEnd) (talked : HasTalked form live begun seat input remains output written ended) → AreToldByRaises talked.exchanges seat.mark.raises

-- the clients of these pipes, each with the seat whose id is its place
pub record AreClients {R I W : Type 0} (form : Encoding R) (live : Phase R) (remaining : I → Option (List ℕ)) (contents : W → Option (List ℕ)) (pipes : List (Pipes I W))
    (seats : List (Seated R)) : Type 0 where
  pub as_many : length seats ≡ length pipes
  pub each : (k : ℕ) (pair : Pipes I W) (seat : Seated R) → slice_get pipes k ≡ Some pair → slice_get seats k ≡ Some seat
      → IsClient form live k (remaining pair.requests) (contents pair.answers) seat

-- ---- a server

-- How many growths it takes: as many as a directory has places, or, where the system has no addresses for those, as many as
-- any phase.
abbrev pub IsServerRoom : ℕ → Type 0
IsServerRoom room = (room ≡ place_limit) ⊎ (room ≡ growth_limit)

-- What was served is what these clients grew. The growths that stand behind the file's list are numbered as they stand; what
-- each client's seat made is among them, in its order, each once, and where the seats made as many as that these are all of
-- them: those that bear a client's id are just what it grew. What each client was told as settled stands.
pub record IsServedTo {R D I W : Type 0} (form : Encoding R) (states : D → List State) (remaining : I → Option (List ℕ)) (contents : W → Option (List ℕ)) (pipes : List (Pipes I W))
    (disk left : D) (settled : ℕ) : Type 0 where
  pub served : IsServed form states disk left settled
  pub live : Phase R
  pub room : IsServerRoom live.directory.room
  pub opening : opening_of live ≡ served.before
  pub seats : List (Seated R)
  pub clients : AreClients form live remaining contents pipes seats
  pub chained : IsChained served.growths
  pub theirs : (k : ℕ) (seat : Seated R) → slice_get seats k ≡ Some seat → StandAmong k served.growths seat.made
  pub just_theirs : made_by seats ≡ length served.growths → AreOfGrowers (length pipes) seats served.growths
  pub told : All (λ seat. RaisesStand form (states left) served.before served.growths seat.mark.raises) seats

-- The clients of these pipes weren't talked with: each has the seat of its place as it was new, so it has grown nothing, and was
-- told nothing.
pub record AreNotServed {R I W : Type 0} (live : Phase R) (pipes : List (Pipes I W)) (seats : List (Seated R)) : Type 0 where
  pub as_many : length seats ≡ length pipes
  pub new : AreNewSeats live.directory live.mark seats

-- Nothing was grown in the phase of the clients of these pipes, none of which was talked with.
pub record IsServedToNone {R D I W : Type 0} (form : Encoding R) (states : D → List State) (pipes : List (Pipes I W)) (disk left : D) (settled : ℕ) : Type 0 where
  pub served : IsServed form states disk left settled
  pub none : served.growths ≡ []
  pub live : Phase R
  pub room : IsServerRoom live.directory.room
  pub opening : opening_of live ≡ served.before
  pub seats : List (Seated R)
  pub clients : AreNotServed live pipes seats

-- So it is where clients were served; where nothing was refused, all growths are settled, and each was made by one of the
-- clients. Where a thread was refused, no client was served. Where the file wasn't opened, or no phase begun, there was none.
abbrev pub LeavesClients : {R D I W X : Type 0} → Encoding R → (D → List State) → (I → Option (List ℕ)) → (W → Option (List ℕ)) → List (Pipes I W) → D → D → ℕ → Result X ServeFault → Type 0
LeavesClients form states remaining contents pipes disk left settled (Ok x) =
    (to : IsServedTo form states remaining contents pipes disk left settled) × (settled ≡ length to.served.growths) × AreOfGrowers (length pipes) to.seats to.served.growths
LeavesClients {X = X} form states remaining contents pipes disk left settled (Err (Open fault)) = IsLeft {X = X} form states disk left settled (Err (Open fault))
LeavesClients {X = X} form states remaining contents pipes disk left settled (Err (Share fault)) = IsLeft {X = X} form states disk left settled (Err (Share fault))
LeavesClients form states remaining contents pipes disk left settled (Err Thread) = IsServedToNone form states pipes disk left settled
LeavesClients form states remaining contents pipes disk left settled (Err (Flush fault)) = IsServedTo form states remaining contents pipes disk left settled

-- ---- the threads of a phase

-- what a client's thread began with: the phase, the seat and the pipes
pub record Begun (R I W : Type 0) : Type 0 where
  pub live : Phase R
  pub seat : Seated R
  pub pipes : Pipes I W

-- that of the client of that place in these pipes
pub record IsClientBegun {R I W : Type 0} (live : Phase R) (pipes : List (Pipes I W)) (id : ℕ) (begun : Begun R I W) : Type 0 where
  pub live_is : begun.live ≡ live
  pub new : IsNewSeat live.directory live.mark id begun.seat
  pub pipes_are : slice_get pipes id ≡ Some begun.pipes

-- those of clients of these pipes, from the last one on
abbrev pub AreBegun : {R I W : Type 0} → Phase R → List (Pipes I W) → List (Begun R I W) → Type 0
AreBegun {R} {I} {W} live pipes all = (k : ℕ) (begun : Begun R I W) → slice_get all k ≡ Some begun → (id : ℕ) × (id + k + 1 ≡ length pipes) × IsClientBegun live pipes id begun

-- The flusher knows what the seats of the clients know, and what they were told stands.
pub record HasTakenIn {R D I W : Type 0} (form : Encoding R) (keeps : D → Type 0) (states : D → List State) (live : Phase R) (remaining : I → Option (List ℕ)) (contents : W → Option (List ℕ))
    (pipes : List (Pipes I W)) (f : FlusherOf R D) : Type 0 where
  pub seats : List (Seated R)
  pub clients : AreClients form live remaining contents pipes seats
  pub chained : IsChained f.pass.entries
  pub begin : All (λ seat. IsPrefix seat.pass.entries f.pass.entries) seats
  pub stand : All StandInList seats
  pub left : keeps f.pen.disk → All (λ seat. ToldIsLeft form (states f.pen.disk) f seat.mark.raises) seats

-- so where clients were served, and where that wasn't refused their seats made all growths that it knows; or none was served
abbrev pub TakesClientsIn : {R D I W X : Type 0} → Encoding R → (D → Type 0) → (D → List State) → Phase R → (I → Option (List ℕ)) → (W → Option (List ℕ)) → List (Pipes I W) → FlusherOf R D
    → Result X ServeFault → Type 0
TakesClientsIn form keeps states live remaining contents pipes f (Ok x) =
    (has : HasTakenIn form keeps states live remaining contents pipes f) × (made_by has.seats ≡ length f.pass.entries)
TakesClientsIn form keeps states live remaining contents pipes f (Err (Open fault)) = ⊥
TakesClientsIn {R = R} form keeps states live remaining contents pipes f (Err (Share fault)) = (seats : List (Seated R)) × AreNotServed live pipes seats
TakesClientsIn {R = R} form keeps states live remaining contents pipes f (Err Thread) = (seats : List (Seated R)) × AreNotServed live pipes seats
TakesClientsIn form keeps states live remaining contents pipes f (Err (Flush fault)) = HasTakenIn form keeps states live remaining contents pipes f
