-- The invariant: the rows so far are one byte each that the text has too.
use Prim.Native.Nat.{◌-◌}
use lib.ListN.{length}
use Rattle.checker.specs.Spans.{PlainRows}
use Rattle.checker.proofs.blocks.plain_rows.Given as goal

abbrev pub invariant-loop-i : goal.invariant-loop-i
invariant-loop-i g l =
    PlainRows (g.N.Numbers.list l.transcript.rows) l.first l.fn.covered l.fn.from.source l.transcript.text.now l.fn.from.text l.i

abbrev pub decreases-loop-i : goal.decreases-loop-i
decreases-loop-i g l = length l.source - l.i
