-- The loop keeps nothing from turn to turn, and ends with the records.
use Rattle.std.proofs.Common.{length}
use Rattle.replay.proofs.replay_records.Given as goal

abbrev pub invariant-loop-head : goal.invariant-loop-head
invariant-loop-head g l = Unit {0}

abbrev pub decreases-loop-head : goal.decreases-loop-head
decreases-loop-head g l = length l.left
