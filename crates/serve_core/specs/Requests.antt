-- The requests of a client, as bytes.
use Rattle.std.specs.Prelude.{◌≡◌, ℕ, ◌<◌, ◌≤◌, List, length, take, drop}
use Rattle.std.specs.Int.{w32, w64, from_le_bytes}
use Rattle.serve_core.specs.declared.request.ClientRequest.{ClientRequest}
use Rattle.serve_core.specs.declared.request.ClientRequest.TheVariants.{End, Grow, Await, Look, Read}
use Rattle.serve_core.specs.declared.request.Head.{Head}
use Rattle.serve_core.specs.declared.refusal.RequestRefusal.{RequestRefusal}
use Rattle.serve_core.specs.declared.refusal.RequestRefusal.TheVariants as refusals

-- The numbers of these 16 bytes, each with its lowest byte first: kind, count, start.
pub record IsRequestHead (bytes : List ℕ) (head : Head) : Type 0 where
  pub len : length bytes ≡ 16
  pub kind : head.kind ≡ from_le_bytes w32 (take 4 bytes)
  pub count : head.count ≡ from_le_bytes w32 (take 4 (drop 4 bytes))
  pub start : head.start ≡ from_le_bytes w64 (drop 8 bytes)

abbrev pub head_of : ClientRequest → Head
head_of End = record { kind = 0; count = 0; start = 0 }
head_of (Grow count) = record { kind = 1; count = count; start = 0 }
head_of Await = record { kind = 2; count = 0; start = 0 }
head_of Look = record { kind = 3; count = 0; start = 0 }
head_of (Read start count) = record { kind = 4; count = count; start = start }

-- why no request has this head
abbrev pub IsNoRequest : Head → RequestRefusal → Type 0
IsNoRequest head refusals.UnknownKind = 4 < head.kind
IsNoRequest head refusals.StrayNumber = (head.kind ≤ 4) × ((request : ClientRequest) → head ≡ head_of request → ⊥)
IsNoRequest head other = ⊥
