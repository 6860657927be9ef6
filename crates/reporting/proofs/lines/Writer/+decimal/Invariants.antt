-- The measure is the number: its tenth is less.
use Rattle.reporting.proofs.lines.Writer.+decimal.Given as goal

abbrev pub decreases-decimal : goal.decreases-decimal
decreases-decimal l = l.n
