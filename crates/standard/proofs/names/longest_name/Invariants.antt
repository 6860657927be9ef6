-- The invariant: the longest name is what the records still to come make of what was found.
use Prim.Native.Nat.{◌<◌}
use mathlib.Core.Path.{◌≡◌}
use Rattle.std.specs.Prelude.{IfSome}
use Rattle.standard.specs.Names.{found_of, longest_from, longest, records}
use Rattle.standard.proofs.names.longest_name.Given as goal

abbrev pub invariant-loop-record : goal.invariant-loop-record
invariant-loop-record l =
    (goal.iterator-loop-record).can_next l.record-iterator
    × (goal.iterator-loop-record).is_finite l.record-iterator
    × (longest (records l.table) l.s ≡ longest_from (found_of l.found) (records l.record-iterator.rest.now) l.s)
    × IfSome l.found (λ f. 0 < f.len)
