-- The invariant: the source stops where what is left from `at` on does.
use Prim.Native.Nat.{◌-◌}
use lib.ListN.{length}
use Rattle.standard.specs.Reading.{calls_for}
use Rattle.standard.proofs.Looking.{Looking}
use Rattle.decoder.proofs.stops.find_stop.Given as goal

abbrev pub invariant-loop-context : goal.invariant-loop-context
invariant-loop-context l = Looking (calls_for l.context) l.s l.at

abbrev pub decreases-loop-context : goal.decreases-loop-context
decreases-loop-context l = length l.s - l.at
