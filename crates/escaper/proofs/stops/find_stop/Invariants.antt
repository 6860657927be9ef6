-- The invariant: the input stops where the bytes from `at` on do.
use Prim.Native.Nat.{◌-◌}
use lib.ListN.{length}
use Rattle.standard.specs.Answers.{done}
use Rattle.standard.proofs.Looking.{Looking}
use Rattle.escaper.proofs.stops.find_stop.Given as goal

abbrev pub invariant-loop-at : goal.invariant-loop-at
invariant-loop-at l = Looking (λ c. done) l.s l.at

abbrev pub decreases-loop-at : goal.decreases-loop-at
decreases-loop-at l = length l.s - l.at
