-- The rooms, then the start of the input.
use mathlib.Core.Path.{refl}
use native.Mathlib.Omega.{arith}
use Rattle.standard.specs.Utf8.{bytes}
use Rattle.standard.proofs.Computing.{computing_parts}
use Rattle.rooms.proofs.Fits.{copy_fits}
use Rattle.reporting.specs.Report.{line}
use Rattle.reporting.specs.Lines.{Roomy}
use Rattle.reporting.proofs.Inputs.{small_rooms, report_text, report_attribute, report_bad}
use Rattle.reporting.proofs.report.Goals as goal

pub returns-then-out-lt-REPORT_ROOM : goal.returns-then-out-lt-REPORT_ROOM
returns-then-out-lt-REPORT_ROOM c = small_rooms c.then-out-lt-REPORT_ROOM.either

pub returns-in-Some : goal.returns-in-Some
unfolding computing_parts
returns-in-Some c =
    let rooms : Roomy c.args.out.now c.args.errors.now =
    record { bytes_there = c.if-out-lt-REPORT_ROOM.false; numbers_there = c.if-errors-lt-NUMBERS_ROOM.false } in
    let found = c.in-Some.ensures.cases in
    report_text rooms found.0 found.1 c.report_source.ensures

pub returns-in-Some-strip_prefix : goal.returns-in-Some-strip_prefix
unfolding computing_parts
returns-in-Some-strip_prefix c =
    let rooms : Roomy c.args.out.now c.args.errors.now =
    record { bytes_there = c.if-out-lt-REPORT_ROOM.false; numbers_there = c.if-errors-lt-NUMBERS_ROOM.false } in
    let found = c.in-Some-strip_prefix.ensures.cases in
    report_attribute rooms c.in_default.ensures.cases found.0 found.1 c.report_source-in-Some-strip_prefix.ensures

pub returns : goal.returns
unfolding computing_parts
returns c =
    let rooms : Roomy c.args.out.now c.args.errors.now =
    record { bytes_there = c.if-out-lt-REPORT_ROOM.false; numbers_there = c.if-errors-lt-NUMBERS_ROOM.false } in
    let p = copy_fits {from = line (bytes "bad context")} (omega (arith, c.if-out-lt-REPORT_ROOM.false)) c.copy.ensures in
    report_bad rooms c.in_default.ensures.cases c.in_default-strip_prefix.ensures.cases p refl
