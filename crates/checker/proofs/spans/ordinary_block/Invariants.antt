-- The invariant: where all says so, the bytes so far are ordinary.
use mathlib.Core.Path.{◌≡◌}
use mathlib.Core.Bool.{true}
use Rattle.checker.specs.Spans.{Ordinary}
use Rattle.checker.proofs.spans.ordinary_block.Given as goal

abbrev pub invariant-loop-b : goal.invariant-loop-b
invariant-loop-b l = l.all ≡ true → Ordinary l.end l.block l.b-index
