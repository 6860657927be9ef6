-- The invariant: where the pieces from `at` on are met, all pieces of the row are.
use Rattle.std.specs.Prelude.{Some}
use Prim.Native.Nat.{◌-◌}
use lib.ListN.{length, drop}
use Rattle.standard.specs.Names.{records}
use Rattle.standard.specs.Reading.{pieces}
use Rattle.checker.specs.Meeting.{Joins}
use Rattle.checker.proofs.Walking.{Walking}
use Rattle.checker.proofs.rows.meet_pieces.Given as goal

abbrev pub invariant-loop-at : goal.invariant-loop-at
invariant-loop-at g l =
    Walking (records l.source.table.now) l.source.context l.source.covered.now l.end l.transcript.text.now
    (g.N.Numbers.list l.transcript.errors)
    (Joins (pieces (records l.source.table.now) l.source.context (drop l.fn.from.source l.source.covered.now)) l.fn.from.source
    (l.end - l.fn.from.source) l.transcript.text.now (Some l.fn.from.text) (g.N.Numbers.list l.transcript.errors) (Some l.fn.from.errors))
    l.at l.text l.errors

abbrev pub decreases-loop-at : goal.decreases-loop-at
decreases-loop-at g l = length l.source.covered.now - l.at
