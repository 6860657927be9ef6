-- The word, and then the line of the two numbers.
use Rattle.standard.specs.Utf8.{bytes}
use Rattle.standard.proofs.Computing.{computing}
use Rattle.reporting.specs.Report.{pair}
use Rattle.reporting.proofs.Writing.{wrote_join}
use Rattle.reporting.proofs.LineLaws.{word_line}
use Rattle.reporting.proofs.lines.Writer.refused.Goals as goal

pub returns : goal.returns
unfolding computing
returns c = rw (word_line (bytes "refused ") (pair c.args.answer c.args.place)) (wrote_join c.text.ensures c.pair.ensures)
