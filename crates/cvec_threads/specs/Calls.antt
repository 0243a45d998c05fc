-- The calls of the file that C is to make.
use Rattle.std.specs.Prelude.{◌≡◌, ◌≤◌, ◌⊎◌, ℕ, List, length, slice_get, Some}
use Rattle.relay_core.specs.declared.call.Call.{Call}
use Rattle.relay_core.specs.declared.call.Call.TheVariants.{Write, Sync}
use Rattle.c_core.specs.declared.refusal.Refusal.{Refusal}
use Rattle.c_core.specs.declared.refusal.Refusal.TheVariants.{OutOfRange}
use Rattle.handle_core.specs.Roles.{Lists, RefusesCalls}
use Rattle.handle_core.specs.Ends.{OfAny}
use Rattle.handle_core.specs.declared.end.End.{End}
use Rattle.cvec_threads.specs.declared.file_call.CvecCall.{CvecCall}

-- what is told of a call: of a write where it begins, where its bytes stand, and how many they are
abbrev pub IsToldOf : Call → CvecCall → Type 0
IsToldOf (Write at bytes) call = (call.at ≡ at) × (call.bytes ≡ bytes.ptr) × (call.len ≡ length bytes.items) × (call.kind ≡ 0)
IsToldOf Sync call = (call.at ≡ 0) × (call.len ≡ 0) × (call.kind ≡ 1)

-- the call of that number is told
pub record IsToldAt (calls : List Call) (number : ℕ) (call : CvecCall) : Type 0 where
  pub listed : Call
  pub at : slice_get calls number ≡ Some listed
  pub told : IsToldOf listed call

abbrev pub TellsCall : ℕ → CvecCall → End → End → Type 0
TellsCall number call old new = (new ≡ old) × ((calls : List Call) × OfAny (λ _ _ _. Lists calls) old × IsToldAt calls number call)

-- Why none of that number is told: no more calls are listed, which make of the file as the host has made it the file as it is to be;
-- or the handle lists none, for this reason. It is as it was.
abbrev pub RefusesCall : ℕ → Refusal → End → End → Type 0
RefusesCall number refusal old new =
    (new ≡ old)
    × (OfAny (λ _ _ _. RefusesCalls refusal) old
    ⊎ ((refusal ≡ OutOfRange) × ((calls : List Call) × OfAny (λ _ _ _. Lists calls) old × (length calls ≤ number))))
