-- The invariant: the first numbers are laid, and the place after them is next.
use lib.ListN.{take}
use Rattle.lists.specs.Rooms.{Put}
use Rattle.decoder.proofs.laying.U32Laid.put.Given as goal

abbrev pub invariant-loop-number : goal.invariant-loop-number
invariant-loop-number l = Put l.initial.room l.at (take l.number-index l.numbers) l.room l.next
