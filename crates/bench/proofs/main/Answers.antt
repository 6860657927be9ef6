-- What is written lies in its room: that is long enough for every report.
use native.Mathlib.Omega.{arith}
use lib.ListN.{length-take}
use Rattle.reporting.proofs.Bound.{written-fits}
use Rattle.bench.proofs.main.Goals as goal

pub slice_bounds-text-end : goal.slice_bounds-text-end
slice_bounds-text-end c = omega (arith, written-fits c.report-written.ensures)

pub slice_bounds-write_all-end : goal.slice_bounds-write_all-end
slice_bounds-write_all-end c = simp length-take (omega (arith, written-fits c.report-written.ensures))
