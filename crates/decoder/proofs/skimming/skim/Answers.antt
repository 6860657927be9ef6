use native.Mathlib.Omega.{arith}
use lib.ListN.{length-drop}
use Rattle.standard.proofs.Skips.{rest_from}
use Rattle.decoder.proofs.SkimLaws.{skims_start, skims_run, skims_alone, skims_free, skims_fits}
use Rattle.decoder.proofs.skimming.skim.Goals as goal

pub loop-at-init : goal.loop-at-init
loop-at-init c = let p = c.requires in skims_start p.1 p.2 p.3

pub overflow_sub-text : goal.overflow_sub-text
overflow_sub-text c = omega (arith, c.loop-at.invariant.text_in)

pub overflow_sub-errors : goal.overflow_sub-errors
overflow_sub-errors c = omega (arith, c.loop-at.invariant.errors_in)

pub returns-then-lacks_room : goal.returns-then-lacks_room
returns-then-lacks_room c = c.loop-at.invariant

pub copy_run-run-requires : goal.copy_run-run-requires
copy_run-run-requires c =
    let l = c.loop-at in
    let room = skims_free l.invariant c.lacks_room.ensures c.if-lacks_room.false in
    (l.invariant.there, omega (arith, l.invariant.text_in, room.0))

pub slice_bounds-alone-count : goal.slice_bounds-alone-count
slice_bounds-alone-count c = c.copy_run-run.ensures.0.there

pub slice_bounds-alone-start : goal.slice_bounds-alone-start
slice_bounds-alone-start c = c.copy_run-run.ensures.0.there

pub overflow_sub-text-in-loop-at : goal.overflow_sub-text-in-loop-at
overflow_sub-text-in-loop-at c =
    let l = c.loop-at in
    let room = skims_free l.invariant c.lacks_room.ensures c.if-lacks_room.false in
    let k = skims_run l.invariant _ room.1 c.copy_run-run.ensures.0 c.copy_run-run.ensures.1 in
    omega (arith, k.text_in)

pub overflow_sub-errors-in-loop-at : goal.overflow_sub-errors-in-loop-at
overflow_sub-errors-in-loop-at c =
    let l = c.loop-at in
    let room = skims_free l.invariant c.lacks_room.ensures c.if-lacks_room.false in
    let k = skims_run l.invariant _ room.1 c.copy_run-run.ensures.0 c.copy_run-run.ensures.1 in
    omega (arith, k.errors_in)

pub has_room-requires : goal.has_room-requires
has_room-requires c =
    omega (arith, (rw rest_from at c.in-Some.ensures).there, length-drop c.copy_run-run.result.at c.args.chunk.now, c.requires.0)

pub returns-then-not-has_room : goal.returns-then-not-has_room
returns-then-not-has_room c =
    let l = c.loop-at in
    let room = skims_free l.invariant c.lacks_room.ensures c.if-lacks_room.false in
    let k = skims_run l.invariant _ room.1 c.copy_run-run.ensures.0 c.copy_run-run.ensures.1 in
    k

pub overflow_cast-at : goal.overflow_cast-at
overflow_cast-at c =
    omega (arith, c.copy_run-run.ensures.0.there, c.requires.0)

pub overflow_add-before : goal.overflow_add-before
overflow_add-before c =
    omega (arith, c.copy_run-run.ensures.0.there, c.requires.0)

pub returns-in_default : goal.returns-in_default
returns-in_default c =
    let l = c.loop-at in
    let room = skims_free l.invariant c.lacks_room.ensures c.if-lacks_room.false in
    skims_run l.invariant _ room.1 c.copy_run-run.ensures.0 c.copy_run-run.ensures.1

pub put_piece-ends-requires : goal.put_piece-ends-requires
put_piece-ends-requires c =
    let l = c.loop-at in
    let room = skims_free l.invariant c.lacks_room.ensures c.if-lacks_room.false in
    let k = skims_run l.invariant _ room.1 c.copy_run-run.ensures.0 c.copy_run-run.ensures.1 in
    let h = skims_fits k c.in-Some.piece c.has_room.ensures c.if-not-has_room.false in
    (omega (arith, k.text_in, h.0), omega (arith, k.errors_in, h.1))

pub loop-at-preserved : goal.loop-at-preserved
loop-at-preserved c =
    let l = c.loop-at in
    let room = skims_free l.invariant c.lacks_room.ensures c.if-lacks_room.false in
    let k = skims_run l.invariant _ room.1 c.copy_run-run.ensures.0 c.copy_run-run.ensures.1 in
    let h = skims_fits k c.in-Some.piece c.has_room.ensures c.if-not-has_room.false in
    let a = rw rest_from at c.in-Some.ensures in
    let p = c.put_piece-ends.ensures in skims_alone k c.in-Some.piece h.0 h.1 a p.0 p.1 p.2

pub overflow_add-at : goal.overflow_add-at
overflow_add-at c =
    omega (arith, (loop-at-preserved c).there, c.requires.0)

pub loop-at-smaller : goal.loop-at-smaller
loop-at-smaller c =
    let a = rw rest_from at c.in-Some.ensures in
    omega (arith, (loop-at-preserved c).there, c.copy_run-run.ensures.0.from, a.some)

pub returns : goal.returns
returns c = c.loop-at.invariant
