-- The invariant: whether the word stands there is whether its rest stands at the front of the rest.
use mathlib.Core.Path.{◌≡◌}
use lib.ListN.{drop}
use Rattle.standard.specs.Names.{stands}
use Rattle.standard.proofs.names.stands_at.Given as goal

abbrev pub invariant-loop-i : goal.invariant-loop-i
invariant-loop-i l = stands l.word l.s ≡ stands (drop l.i l.word) (drop l.i l.s)
