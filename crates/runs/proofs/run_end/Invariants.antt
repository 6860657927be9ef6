-- The invariant: the bytes that pass, from `from` on, end where those at the front of the rest do.
use Prim.Native.Nat.{ℕ, ◌+◌, ◌≤◌}
use mathlib.Core.Path.{◌≡◌}
use mathlib.Core.Bool.{Bool}
use lib.ListN.{length, drop}
use Rattle.lists.specs.Notation.{front}
use Rattle.runs.specs.Kinds.{Tests}
use Rattle.runs.proofs.run_end.Given as goal

abbrev pub invariant-loop-block : goal.invariant-loop-block
invariant-loop-block g l =
    (length l.rest ≤ length l.s)
    × ((test : ℕ → Bool) → Tests (goal.P-post g l.passes) test
    → l.from + length (front test (drop l.from l.s)) + length l.rest ≡ length l.s + length (front test l.rest))

abbrev pub decreases-loop-block : goal.decreases-loop-block
decreases-loop-block g l = length l.rest
