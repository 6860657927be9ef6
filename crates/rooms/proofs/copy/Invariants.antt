-- The invariant: what was written is the bytes between at and next, and rest is what follows.
use Prim.Native.Nat.{◌≤◌, ◌+◌, ◌-◌}
use mathlib.Core.Path.{◌≡◌}
use lib.ListN.{length, take, drop}
use Rattle.lists.specs.Rooms.{Put}
use Rattle.rooms.proofs.copy.Given as goal

abbrev pub invariant-loop-block : goal.invariant-loop-block
invariant-loop-block l =
    Put l.initial.to l.at (take (l.next - l.at) (take l.count l.from)) l.to l.next × (l.rest ≡ drop (l.next - l.at) (take l.count l.from))
    × (l.at ≤ l.next) × (length l.rest + l.next ≡ l.at + l.count)

abbrev pub decreases-loop-block : goal.decreases-loop-block
decreases-loop-block l = length l.rest
