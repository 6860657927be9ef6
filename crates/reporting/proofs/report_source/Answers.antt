-- A source that is too long, or its report.
use native.Mathlib.Omega.{arith}
use Rattle.standard.specs.Utf8.{bytes}
use Rattle.standard.proofs.Computing.{computing_parts}
use Rattle.rooms.proofs.Fits.{copy_fits}
use Rattle.reporting.specs.Report.{line}
use Rattle.reporting.proofs.Inputs.{source-long, source-short}
use Rattle.reporting.proofs.report_source.Goals as goal

pub returns-then-s : goal.returns-then-s
unfolding computing_parts
returns-then-s c =
    let p = copy_fits {from = line (bytes "too long")} (omega (arith, c.requires.bytes_there)) c.copy.ensures in
    source-long c.args.context c.args.s.now c.args.errors.now (omega (arith, c.if-s.true)) p

pub returns : goal.returns
returns c =
    source-short c.args.context c.args.s.now (omega (arith, c.if-s.false)) c.write_source.ensures
