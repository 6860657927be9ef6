-- The invariant: with the lines of the numbers that are left, those of all are written.
use lib.ListN.{length}
use Rattle.reporting.specs.declared.lines.Writer.{Writer}
use Rattle.reporting.specs.Lines.{pair_lines, Wrote}
use Rattle.reporting.proofs.lines.Writer.pairs.Given as goal

abbrev pub invariant-loop-rest : goal.invariant-loop-rest
invariant-loop-rest l = (end : Writer) → Wrote l.self (pair_lines l.rest) end → Wrote l.initial.self (pair_lines l.numbers) end

abbrev pub decreases-loop-rest : goal.decreases-loop-rest
decreases-loop-rest l = length l.rest
