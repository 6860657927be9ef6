-- The invariant: the first bytes are written, and the place after them is next.
use lib.ListN.{take}
use Rattle.lists.specs.Rooms.{Put}
use Rattle.rooms.proofs.put_bytes.Given as goal

abbrev pub invariant-loop-byte : goal.invariant-loop-byte
invariant-loop-byte l = Put l.initial.to l.at (take l.byte-index l.from) l.to l.next
