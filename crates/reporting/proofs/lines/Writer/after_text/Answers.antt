-- LF, the lines of the errors, and the last line.
use Rattle.reporting.specs.Report.{decimal}
use Rattle.reporting.proofs.Writing.{wrote_join}
use Rattle.reporting.proofs.LineLaws.{word_line}
use Rattle.reporting.proofs.lines.Writer.after_text.Goals as goal

pub returns : goal.returns
returns c =
    rw (word_line c.args.word.now (decimal c.args.place))
    (wrote_join c.byte.ensures
    (wrote_join c.pairs.ensures (wrote_join c.text.ensures (wrote_join c.decimal.ensures c.byte-2.ensures))))
