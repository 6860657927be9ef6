use mathlib.Core.Path.{sym, ◌∙◌}
use native.Mathlib.Omega.{arith}
use borrow.Author.Tests.{eqb-true, not-false}
use Rattle.std.proofs.lemmas.Bool.Decides.{nat_tests}
use Rattle.lists.proofs.Choice.{and_true}
use Rattle.checker.proofs.RowByRow.{row_stops, row_on, rows_plain, some_remains, none_remains}
use Rattle.checker.proofs.verdicts.judge.Goals as goal

pub singly-init : goal.singly-init
singly-init g c = (rows_plain c.all.invariant _ c.plain_rows-plain.ensures, omega arith)

pub returns-in-Err : goal.returns-in-Err
returns-in-Err g c =
    let e = c.row_at.ensures in row_stops c.singly.invariant.0 (omega arith) e.source e.text e.errors c.in-Err.ensures.wrong

pub singly-preserved : goal.singly-preserved
singly-preserved g c =
    let e = c.row_at.ensures in (row_on c.singly.invariant.0 (omega arith) e.source e.text e.errors c.in-Ok.ensures.right, omega arith)

pub returns-then-ne : goal.returns-then-ne
returns-then-ne g c =
    some_remains (rows_plain c.all.invariant _ c.plain_rows-plain.ensures) (omega arith) (λ x y z. grind (arith, nat_tests))

-- Each of the three equations is what the code's comparison said of those two places.
pub returns : goal.returns
returns g c =
    let same = and_true _ _ (not-false _ (sym c.ne.ensures ∙ c.if-ne.false)) in
    let others = and_true _ _ same.1 in
    none_remains (rows_plain c.all.invariant _ c.plain_rows-plain.ensures) (omega arith) (eqb-true _ _ same.0) (eqb-true _ _ others.0)
    (omega (arith, eqb-true _ _ others.1))
