use Rattle.reporting.proofs.Decimals.{decimal-one, decimal-more}
use Rattle.reporting.proofs.Writing.{wrote_join}
use Rattle.reporting.proofs.lines.Writer.+decimal.Goals as goal

pub returns-then-n-lt10 : goal.returns-then-n-lt10
returns-then-n-lt10 t c = rw (decimal-one c.args.n c.if-n-lt10.true) c.digit.ensures

pub returns : goal.returns
returns t c = rw (decimal-more c.args.n c.if-n-lt10.false) (wrote_join c.decimal.ensures c.digit-2.ensures)
