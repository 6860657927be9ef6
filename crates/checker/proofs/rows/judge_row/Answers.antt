use mathlib.Core.Path.{◌≡◌}
use Rattle.std.specs.Prelude.{Some, None}
use Rattle.std.proofs.lemmas.Result.{err_from_is_err_and}
use Rattle.checker.specs.declared.rows.Reason.TheVariants.{TextDiffers, ErrorsDiffer}
use native.Mathlib.Omega.{arith}
use Rattle.checker.proofs.RowLaws.{
  row_empty,
  row_past,
  row_inside,
  row_text,
  row_text_count,
  row_errors,
  row_errors_count,
  row_right,
  row_plain,
  row_byte,
}
use Rattle.checker.proofs.rows.judge_row.Goals as goal

pub returns-then-size-eq0-clause-wrong : goal.returns-then-size-eq0-clause-wrong
returns-then-size-eq0-clause-wrong g c = row_empty (omega arith)

pub returns-then-source-from-clause-wrong : goal.returns-then-source-from-clause-wrong
returns-then-source-from-clause-wrong g c = row_past (λ z. omega arith) (omega arith)

pub returns-in-Some-clause-right : goal.returns-in-Some-clause-right
returns-in-Some-clause-right g c = row_byte (omega arith) c.requires c.in-Some.ensures

pub returns-then-plain_row-clause-right : goal.returns-then-plain_row-clause-right
returns-then-plain_row-clause-right g c =
    row_plain (omega arith) c.requires (λ z. omega arith) (c.plain_row.ensures c.if-plain_row.true)

pub returns-then-joint-from-clause-wrong : goal.returns-then-joint-from-clause-wrong
returns-then-joint-from-clause-wrong g c =
    row_inside (record { some = λ z. omega arith; fits = omega arith; joins = c.meet_pieces-joint.ensures }) c.if-joint-from.true

pub returns-in_err-text-clause-wrong : goal.returns-in_err-text-clause-wrong
returns-in_err-text-clause-wrong g c =
    let p = err_from_is_err_and c.from_residual.result c.from_residual.ensures.1 in
    let none : c.meet_pieces-joint.result.text ≡ None = grind arith in
    let why : c.in_err-text.field-0.0 ≡ TextDiffers = grind arith in
    rw (p.1, p.2, why)
    (row_text (record { some = λ z. omega arith; fits = omega arith; joins = c.meet_pieces-joint.ensures }) c.if-joint-from.false none)

pub returns-then-text-from-clause-wrong : goal.returns-then-text-from-clause-wrong
returns-then-text-from-clause-wrong g c =
    let some : c.meet_pieces-joint.result.text ≡ Some c.in_ok-text.text = grind arith in
    row_text_count (record { some = λ z. omega arith; fits = omega arith; joins = c.meet_pieces-joint.ensures })
    c.if-joint-from.false some
    c.if-text-from.true

pub returns-in_err-errors-clause-wrong : goal.returns-in_err-errors-clause-wrong
returns-in_err-errors-clause-wrong g c =
    let p = err_from_is_err_and c.from_residual-in_err-errors.result c.from_residual-in_err-errors.ensures.1 in
    let some : c.meet_pieces-joint.result.text ≡ Some c.in_ok-text.text = grind arith in
    let none : c.meet_pieces-joint.result.errors ≡ None = grind arith in
    let why : c.in_err-errors.field-0.0 ≡ ErrorsDiffer = grind arith in
    rw (p.1, p.2, why)
    (row_errors (record { some = λ z. omega arith; fits = omega arith; joins = c.meet_pieces-joint.ensures })
    c.if-joint-from.false some c.if-text-from.false none)

pub returns-then-errors-from-clause-wrong : goal.returns-then-errors-from-clause-wrong
returns-then-errors-from-clause-wrong g c =
    let some : c.meet_pieces-joint.result.text ≡ Some c.in_ok-text.text = grind arith in
    let sound : c.meet_pieces-joint.result.errors ≡ Some c.in_ok-errors.errors = grind arith in
    row_errors_count (record { some = λ z. omega arith; fits = omega arith; joins = c.meet_pieces-joint.ensures })
    c.if-joint-from.false some c.if-text-from.false sound c.if-errors-from.true

pub returns-clause-right : goal.returns-clause-right
returns-clause-right g c =
    let some : c.meet_pieces-joint.result.text ≡ Some c.in_ok-text.text = grind arith in
    let sound : c.meet_pieces-joint.result.errors ≡ Some c.in_ok-errors.errors = grind arith in
    row_right (record { some = λ z. omega arith; fits = omega arith; joins = c.meet_pieces-joint.ensures })
    c.if-joint-from.false some c.if-text-from.false sound c.if-errors-from.false c.requires
