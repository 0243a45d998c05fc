-- The runs that the program makes: a task on records of one of its types.
use Rattle.std.specs.Prelude.{ℕ, List, Option}
use Rattle.std.specs.Int.{w8, w16, w32, w64}
use Rattle.record_core.specs.Bytes.{Encoding, unsigned, signed, pair, flagged}
use Rattle.record_core.specs.ByteRecords.{bytes16, bytes24, bytes32, bytes64}
use Rattle.cvec_hex.specs.declared.request.HexRequest.{HexRequest}
use Rattle.cvec_hex.specs.declared.request.HexTask.{HexTask}
use Rattle.cvec_hex.specs.declared.request.HexTask.TheVariants.{Image, Show}
use Rattle.cvec_hex.specs.declared.request.HexType.{HexType}
use Rattle.cvec_hex.specs.declared.request.HexType.TheVariants.{U8, U16, U32, U64, I32, I64, Pair, Flagged, Bytes16, Bytes24, Bytes32, Bytes64}
use Rattle.text_core.specs.declared.status.Status.{Status}
use Rattle.text_core.specs.Text.{Spelling}
use Rattle.text_core.specs.Numbers.{number_spelling}
use Rattle.text_core.specs.SignedNumbers.{signed_spelling}
use Rattle.text_core.specs.Keyed.{pair_spelling, flagged_spelling}
use Rattle.text_core.specs.InHex.{hex_spelling}
use Rattle.image_core.specs.Engines.{IsImageRun, IsShowRun}

-- how the task's engine may end over records of these bytes and texts, and what it has written then
abbrev pub IsHexTaskRun : {R : Type 0} → HexTask → Encoding R → Spelling R → List ℕ → Option (List ℕ) → Option (List ℕ) → Status → Type 0
IsHexTaskRun Image form spelling input old new status = IsImageRun form spelling input old new status
IsHexTaskRun Show form spelling input old new status = IsShowRun form spelling input old new status

-- the same over records of one of the program's types
abbrev pub IsRunOn : HexType → HexTask → List ℕ → Option (List ℕ) → Option (List ℕ) → Status → Type 0
IsRunOn U8 task = IsHexTaskRun task (unsigned w8) (number_spelling 8)
IsRunOn U16 task = IsHexTaskRun task (unsigned w16) (number_spelling 16)
IsRunOn U32 task = IsHexTaskRun task (unsigned w32) (number_spelling 32)
IsRunOn U64 task = IsHexTaskRun task (unsigned w64) (number_spelling 64)
IsRunOn I32 task = IsHexTaskRun task (signed w32) (signed_spelling w32)
IsRunOn I64 task = IsHexTaskRun task (signed w64) (signed_spelling w64)
IsRunOn Pair task = IsHexTaskRun task pair pair_spelling
IsRunOn Flagged task = IsHexTaskRun task flagged flagged_spelling
IsRunOn Bytes16 task = IsHexTaskRun task bytes16 (hex_spelling bytes16)
IsRunOn Bytes24 task = IsHexTaskRun task bytes24 (hex_spelling bytes24)
IsRunOn Bytes32 task = IsHexTaskRun task bytes32 (hex_spelling bytes32)
IsRunOn Bytes64 task = IsHexTaskRun task bytes64 (hex_spelling bytes64)

-- how the program may end that was asked for this
abbrev pub IsHexRun : HexRequest → List ℕ → Option (List ℕ) → Option (List ℕ) → Status → Type 0
IsHexRun request = IsRunOn request.record_type request.task
