-- The invariant: the bytes so far are alike.
use Prim.Native.Nat.{◌≤◌, ◌-◌}
use Rattle.checker.specs.Spans.{Alike}
use Rattle.checker.proofs.spans.alike_blocks.Given as goal

abbrev pub invariant-loop-i : goal.invariant-loop-i
invariant-loop-i l = (l.i ≤ l.end) × Alike l.source l.text l.i

abbrev pub decreases-loop-i : goal.decreases-loop-i
decreases-loop-i l = l.end - l.i
