-- The words for what the program is asked for.
use Rattle.std.specs.Prelude.{ℕ, List, codes}
use Rattle.words_core.specs.declared.request.Task.{Task}
use Rattle.words_core.specs.declared.request.Task.TheVariants.{Image, Show, Play}
use Rattle.words_core.specs.declared.request.RecordType.{RecordType}
use Rattle.words_core.specs.declared.request.RecordType.TheVariants.{U8, U16, U32, U64, I32, I64, F32, F64, Pair, Flagged, Bytes16, Bytes24, Bytes32, Bytes64}

abbrev pub task_word : Task → List ℕ
task_word Image = codes "image"
task_word Show = codes "show"
task_word Play = codes "play"

abbrev pub type_word : RecordType → List ℕ
type_word U8 = codes "u8"
type_word U16 = codes "u16"
type_word U32 = codes "u32"
type_word U64 = codes "u64"
type_word I32 = codes "i32"
type_word I64 = codes "i64"
type_word F32 = codes "f32"
type_word F64 = codes "f64"
type_word Pair = codes "pair"
type_word Flagged = codes "flagged"
type_word Bytes16 = codes "bytes16"
type_word Bytes24 = codes "bytes24"
type_word Bytes32 = codes "bytes32"
type_word Bytes64 = codes "bytes64"
