-- The invariant: the bytes after the first may stand in a reference.
use Prim.Native.Nat.{◌-◌, ◌≤◌}
use mathlib.Core.Path.{◌≡◌}
use mathlib.Core.Bool.{true}
use lib.ListN.{take, drop}
use Rattle.lists.specs.Notation.{every}
use Rattle.decoder.specs.Skims.{in_reference}
use Rattle.decoder.proofs.skimming.reference_end.Given as goal

abbrev pub invariant-loop-at : goal.invariant-loop-at
invariant-loop-at l = (every in_reference (take (l.at - 1) (drop 1 l.rest)) ≡ true) × (1 ≤ l.at)
