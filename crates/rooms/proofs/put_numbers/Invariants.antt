-- The invariant: the first numbers are written, and the place after them is next.
use Prim.Native.Nat.{◌+◌, ◌*◌}
use mathlib.Core.Path.{◌≡◌}
use lib.ListN.{take}
use Rattle.lists.specs.Bytes.{fours}
use Rattle.lists.specs.Rooms.{Put}
use Rattle.rooms.proofs.put_numbers.Given as goal

abbrev pub invariant-loop-number : goal.invariant-loop-number
invariant-loop-number l =
    Put l.initial.to l.at (fours (take l.number-index l.number-items)) l.to l.next × (l.next ≡ l.at + 4 * l.number-index)
