-- The measure is what a taken count has left: each turn reads a byte at least, and the record counts it.
use Prim.Native.Nat.{◌-◌}
use mathlib.Core.Path.{◌≡◌}
use lib.ListN.{length}
use Rattle.chunks.proofs.decode.Given as goal

abbrev pub invariant-loop-count : goal.invariant-loop-count
invariant-loop-count g l = length l.chunk ≡ 24

abbrev pub decreases-loop-count : goal.decreases-loop-count
decreases-loop-count g l = 0x100000000 - l.stream.taken
