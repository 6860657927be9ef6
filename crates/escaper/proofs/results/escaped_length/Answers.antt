use native.Mathlib.Omega.{arith}
use Rattle.escaper.proofs.Bound.{escape_six}
use Rattle.escaper.proofs.Written.{counted_none, counted-on, counted-end}
use Rattle.escaper.proofs.results.escaped_length.Goals as goal

pub loop-at-init : goal.loop-at-init
loop-at-init c = counted_none _ _ c.requires.well_formed

pub overflow_add-count-in-loop-at : goal.overflow_add-count-in-loop-at
overflow_add-count-in-loop-at c =
    let part = c.part_at-part.result in
    let counted = counted-on part.run.now part.text.now c.loop-at.invariant c.part_at-part.ensures.moves in
    omega (arith, counted.all, escape_six c.args.mode c.args.s.now)

pub loop-at-preserved : goal.loop-at-preserved
loop-at-preserved c = counted-on _ _ c.loop-at.invariant c.part_at-part.ensures.moves

pub returns : goal.returns
returns c = counted-end c.loop-at-test.false c.loop-at.invariant
