-- What becomes of one fault in another's place.
use Rattle.block_core.specs.declared.fault.FreshFault.{FreshFault}
use Rattle.block_core.specs.declared.fault.FreshFault.TheVariants as block
use Rattle.book_core.specs.declared.fault.GrowFault.{GrowFault}
use Rattle.book_core.specs.declared.fault.GrowFault.TheVariants.{Empty, TooLarge, Memory}
use Rattle.book_core.specs.declared.fault.SettleFault.{SettleFault}
use Rattle.book_core.specs.declared.fault.SettleFault.TheVariants as settle
use Rattle.book_core.specs.declared.mark.MarkState.{MarkState}
use Rattle.book_core.specs.declared.mark.MarkState.TheVariants.{Ended, Broken}

-- the fault of a growth whose records become no block
abbrev pub fault_of_block : FreshFault → GrowFault
fault_of_block block.Empty = Empty
fault_of_block block.TooLarge = TooLarge
fault_of_block block.Memory = Memory

-- the state of a mark that tells no more
abbrev pub state_of : SettleFault → MarkState
state_of settle.Ended = Ended
state_of settle.Broken = Broken
