-- The invariant: some name begins so exactly if one of the records still to come does.
use mathlib.Core.Path.{◌≡◌}
use Rattle.standard.specs.Names.{begins, records}
use Rattle.standard.proofs.names.begins_name.Given as goal

abbrev pub invariant-loop-record : goal.invariant-loop-record
invariant-loop-record l =
    (goal.iterator-loop-record).can_next l.record-iterator
    × (goal.iterator-loop-record).is_finite l.record-iterator
    × (begins (records l.table) l.s ≡ begins (records l.record-iterator.rest.now) l.s)
