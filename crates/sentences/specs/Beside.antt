-- The names of why a reader beside a writer is refused, which `Display` writes.
use Rattle.std.specs.Prelude.{ℕ, List, ◌++◌, codes, decimal}
use Rattle.sentences.specs.declared.beside.BesideFault.{BesideFault}
use Rattle.sentences.specs.declared.beside.BesideFault.TheVariants.{NoPlace, BadRecord, Changed, Shorter, Replaced, Cut}

abbrev pub beside_name : BesideFault → List ℕ
beside_name NoPlace = codes "word"
beside_name (BadRecord i) = codes "bad record " ++ decimal i
beside_name (Changed i) = codes "changed " ++ decimal i
beside_name (Shorter n) = codes "shorter " ++ decimal n
beside_name Replaced = codes "replaced"
beside_name Cut = codes "cut"
