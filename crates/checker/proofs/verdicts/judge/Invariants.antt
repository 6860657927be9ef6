-- The invariants: the verdict is that on the rows from `row` on, from these places on.
use Prim.Native.Nat.{◌-◌, ◌≤◌}
use Rattle.standard.specs.Names.{records}
use Rattle.checker.proofs.RowByRow.{RowByRow}
use Rattle.checker.proofs.verdicts.judge.Given as goal

abbrev pub invariant-all : goal.invariant-all
invariant-all g l =
    RowByRow (records l.source.table.now) l.source.context l.source.covered.now (g.N.Numbers.list l.transcript.rows) l.transcript.text.now
    (g.N.Numbers.list l.transcript.errors) l.row l.places

abbrev pub decreases-all : goal.decreases-all
decreases-all g l = l.rows - l.row

abbrev pub invariant-singly : goal.invariant-singly
invariant-singly g l =
    RowByRow (records l.source.table.now) l.source.context l.source.covered.now (g.N.Numbers.list l.transcript.rows) l.transcript.text.now
    (g.N.Numbers.list l.transcript.errors) l.row l.places
    × (l.row ≤ l.until)

abbrev pub decreases-singly : goal.decreases-singly
decreases-singly g l = l.until - l.row
