-- The report's length, then what the number means, and what is answered, reported.
use native.Mathlib.Omega.{arith}
use Rattle.exports.proofs.Laws.{asked-length, asked_mode, asked-other, gives_as, gives-untouched, escape-reported}
use Rattle.exports.proofs.plankskein_escape.Goals as goal

pub returns-then-report-ne-REPORT_LENGTH : goal.returns-then-report-ne-REPORT_LENGTH
returns-then-report-ne-REPORT_LENGTH c =
    let a = c.args in
    gives-untouched _ _ _ (asked-length a.report.now _ _ _ _ (λ e. c.if-report-ne-REPORT_LENGTH.true (omega (arith, e))))

pub returns-in_default : goal.returns-in_default
returns-in_default c =
    let other = c.in_default.ensures in
    gives-untouched _ _ _ (asked-other _ _ _ _ _ c.if-report-ne-REPORT_LENGTH.false (λ e. omega (arith, e, other)) (λ e. omega (arith, e, other)))

pub returns : goal.returns
returns c =
    let a = c.args in
    let put = c.put.ensures in
    gives_as (asked_mode a.report.now _ _ _ c.if-report-ne-REPORT_LENGTH.false c.in-Ok.ensures)
    (escape-reported c.escape-escaped.ensures (put.answered, put.written))
