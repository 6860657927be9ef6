use native.Mathlib.Omega.{arith}
use lib.ListN.{take, length-take}
use Rattle.decoder.proofs.Padded.{padded_copied}
use Rattle.decoder.proofs.feeding.padded.Goals as goal

pub slice_bounds-copy-end : goal.slice_bounds-copy-end
slice_bounds-copy-end g c = simp length-take (omega arith)

pub returns : goal.returns
returns g c =
    let a = c.args in
    padded_copied g.row.N (take a.n a.rest.now) (simp length-take (omega arith)) c.copy.ensures
