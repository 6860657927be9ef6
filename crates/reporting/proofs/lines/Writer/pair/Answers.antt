-- The first number with a space, and the second with LF.
use Rattle.reporting.proofs.Writing.{wrote_join}
use Rattle.reporting.proofs.LineLaws.{pair_line}
use Rattle.reporting.proofs.lines.Writer.pair.Goals as goal

pub returns : goal.returns
returns c =
    rw (pair_line c.args.a c.args.b)
    (wrote_join c.decimal.ensures (wrote_join c.byte.ensures (wrote_join c.decimal-2.ensures c.byte-2.ensures)))
