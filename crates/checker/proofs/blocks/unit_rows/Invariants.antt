-- The invariant: where all says so, the rows so far are of one byte.
use mathlib.Core.Path.{◌≡◌}
use mathlib.Core.Bool.{true}
use Rattle.checker.specs.Spans.{UnitRows}
use Rattle.checker.proofs.blocks.unit_rows.Given as goal

abbrev pub invariant-loop-i : goal.invariant-loop-i
invariant-loop-i g l = l.all ≡ true → UnitRows (g.N.Numbers.list l.rows) l.first l.i
