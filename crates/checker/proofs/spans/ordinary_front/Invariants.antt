-- The invariant: the rest is what stands after so many bytes, and these are ordinary.
use Prim.Native.Nat.{◌-◌, ◌≤◌}
use mathlib.Core.Path.{◌≡◌}
use lib.ListN.{length, drop}
use Rattle.checker.specs.Spans.{Ordinary}
use Rattle.checker.proofs.spans.ordinary_front.Given as goal

abbrev pub invariant-loop-block : goal.invariant-loop-block
invariant-loop-block l =
    (length l.rest ≤ length l.s) × (l.rest ≡ drop (length l.s - length l.rest) l.s) × Ordinary l.end l.s (length l.s - length l.rest)

abbrev pub decreases-loop-block : goal.decreases-loop-block
decreases-loop-block l = length l.rest
