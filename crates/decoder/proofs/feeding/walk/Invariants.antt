-- The invariant: the record and the rooms are those of a walk over the bytes so far that took them all.
use Prim.Native.Nat.{◌-◌}
use lib.ListN.{length}
use Rattle.decoder.proofs.Taking.{Taken}
use Rattle.decoder.proofs.feeding.walk.Given as goal

abbrev pub invariant-loop-at : goal.invariant-loop-at
invariant-loop-at l = Taken l.fn.start l.chunk l.initial.text l.initial.errors l.«record» l.at l.text l.ends.text l.errors l.ends.errors

abbrev pub decreases-loop-at : goal.decreases-loop-at
decreases-loop-at l = length l.chunk - l.at
