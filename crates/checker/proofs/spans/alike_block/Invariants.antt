-- The invariant: where all says so, the bytes so far are alike.
use mathlib.Core.Path.{◌≡◌}
use mathlib.Core.Bool.{true}
use Rattle.checker.specs.Spans.{Alike}
use Rattle.checker.proofs.spans.alike_block.Given as goal

abbrev pub invariant-loop-i : goal.invariant-loop-i
invariant-loop-i l = l.all ≡ true → Alike l.source l.text l.i
