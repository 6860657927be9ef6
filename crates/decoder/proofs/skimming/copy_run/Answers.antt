use native.Mathlib.Omega.{arith}
use lib.ListN.{length-take}
use Rattle.rooms.proofs.Fits.{copy_fits}
use Rattle.decoder.proofs.SkimLaws.{run-plain, run_length}
use Rattle.decoder.proofs.skimming.copy_run.Goals as goal

pub overflow_sub-free : goal.overflow_sub-free
overflow_sub-free c = omega (arith, c.requires.1)

pub overflow_sub-free-2 : goal.overflow_sub-free-2
overflow_sub-free-2 c = omega (arith, c.requires.1)

pub overflow_sub-chunk : goal.overflow_sub-chunk
overflow_sub-chunk c = omega (arith, c.requires.0)

pub overflow_add-at : goal.overflow_add-at
overflow_add-at c = omega (arith, c.min-limit.ensures, c.requires.0)

pub slice_bounds-plain_end-end : goal.slice_bounds-plain_end-end
slice_bounds-plain_end-end c = simp length-take (omega (arith, c.min-limit.ensures, c.requires.0))

pub slice_bounds-copy-count : goal.slice_bounds-copy-count
slice_bounds-copy-count c = omega (arith, c.plain_end-end.ensures)

pub slice_bounds-copy-start : goal.slice_bounds-copy-start
slice_bounds-copy-start c = omega (arith, c.plain_end-end.ensures)

pub slice_bounds-copy-end : goal.slice_bounds-copy-end
slice_bounds-copy-end c =
    let run = run-plain c.args.context c.args.chunk.now c.args.at _ c.requires.0 (omega (arith, c.requires.1)) c.min-limit.ensures
    (rw c.end_of.ensures at c.plain_end-end.ensures) in
    run.there

pub returns : goal.returns
returns c =
    let run = run-plain c.args.context c.args.chunk.now c.args.at _ c.requires.0 (omega (arith, c.requires.1)) c.min-limit.ensures
    (rw c.end_of.ensures at c.plain_end-end.ensures) in
    (run, copy_fits (omega (arith, run_length run, c.requires.1)) c.copy.ensures)
