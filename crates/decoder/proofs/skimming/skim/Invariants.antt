-- The invariant: the bytes so far were read with nothing held before and after, and what they give was written.
use Prim.Native.Nat.{◌-◌}
use lib.ListN.{length}
use Rattle.decoder.specs.Skims.{Skims}
use Rattle.decoder.proofs.skimming.skim.Given as goal

abbrev pub invariant-loop-at : goal.invariant-loop-at
invariant-loop-at l =
    Skims l.context l.before l.chunk l.from l.at l.initial.text l.fn.start.text l.text l.ends.text l.initial.errors
    l.fn.start.errors l.errors l.ends.errors

abbrev pub decreases-loop-at : goal.decreases-loop-at
decreases-loop-at l = length l.chunk - l.at
