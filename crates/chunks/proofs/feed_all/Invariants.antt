-- The invariant: the record counts what of the chunk is no longer left. The measure is what is left: 6 took a byte.
use Prim.Native.Nat.{◌+◌}
use mathlib.Core.Path.{◌≡◌}
use lib.ListN.{length}
use Rattle.chunks.proofs.feed_all.Given as goal

abbrev pub invariant-loop-rest : goal.invariant-loop-rest
invariant-loop-rest g l =
    (l.stream.taken + length l.rest ≡ l.initial.stream.taken + length l.chunk) × (length l.text ≡ 80) × (length l.errors ≡ 16)

abbrev pub decreases-loop-rest : goal.decreases-loop-rest
decreases-loop-rest g l = length l.rest
