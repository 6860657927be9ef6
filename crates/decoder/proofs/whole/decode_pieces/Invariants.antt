-- The invariant: what was read so far is written, and with what is still to be read from `at` on it is the whole reading.
use Prim.Native.Nat.{◌-◌}
use mathlib.Core.Path.{◌≡◌}
use lib.ListN.{length}
use Rattle.decoder.proofs.Walk.{Going}
use Rattle.decoder.proofs.whole.decode_pieces.Given as goal

abbrev pub invariant-loop-at : goal.invariant-loop-at
invariant-loop-at g l =
    Going g.T.Laid.lay l.context l.s l.initial.text l.initial.errors l.at l.text l.ends.text l.errors l.ends.errors × (length l.few ≡ 4)

abbrev pub decreases-loop-at : goal.decreases-loop-at
decreases-loop-at g l = length l.s - l.at
