use mathlib.Core.Path.{◌∙◌}
use native.Mathlib.Omega.{arith}
use Rattle.checker.proofs.CheckLaws.{bytes_order}
use Rattle.checker.proofs.checking.check_bytes.Goals as goal

pub returns-then-source-gt65536 : goal.returns-then-source-gt65536
returns-then-source-gt65536 c =
    let a = c.args in
    c.refused.ensures ∙ (bytes_order a.context a.source.now a.rows.now a.text.now a.errors.now).long c.if-source-gt65536.true

pub returns-then-rows-ne0 : goal.returns-then-rows-ne0
returns-then-rows-ne0 c =
    let a = c.args in
    c.refused-then-rows-ne0.ensures ∙ (bytes_order a.context a.source.now a.rows.now a.text.now a.errors.now).odd (omega arith)
    (λ z. omega (arith, z.0))

pub returns-then-errors-ne0 : goal.returns-then-errors-ne0
returns-then-errors-ne0 c =
    let a = c.args in
    c.refused-then-errors-ne0.ensures
    ∙ (bytes_order a.context a.source.now a.rows.now a.text.now a.errors.now).odd (omega arith)
    (λ z. omega (arith, z.1))

pub returns : goal.returns
returns c =
    let a = c.args in
    c.check_numbers.ensures
    ∙ (bytes_order a.context a.source.now a.rows.now a.text.now a.errors.now).whole (omega arith) (omega arith)
    (omega arith)
