use Prim.Native.Nat.{◌/◌}
use native.Mathlib.Nat.{mul-div-le, mul-le-mul_left}
use native.Mathlib.Omega.{arith}
use lib.ListN.{length, length-take}
use lib.Seq.{length-take-le}
use Rattle.decoder.proofs.Answering.{part_fits, whole_read, whole_unread}
use Rattle.decoder.proofs.whole.decode.Goals as goal

pub returns-then-not-readable : goal.returns-then-not-readable
returns-then-not-readable g c =
    let a = c.args in
    whole_unread (length a.errors.now / g.T.Laid.EACH) a.context a.source.now a.text.now a.errors.now (rw c.EACH.ensures at c.unread-stop.ensures)
    g.met.T.Laid.laying c.if-not-readable.true

pub slice_bounds-covered-end : goal.slice_bounds-covered-end
slice_bounds-covered-end g c =
    let a = c.args in
    let f = part_fits (length a.errors.now / g.T.Laid.EACH) a.context a.source.now a.text.now a.errors.now
    (rw c.EACH.ensures at c.unread-stop.ensures) c.if-not-readable.false in
    simp length-take (omega (arith, f))

pub read_covered-requires : goal.read_covered-requires
read_covered-requires g c =
    let a = c.args in
    let f = part_fits (length a.errors.now / g.T.Laid.EACH) a.context a.source.now a.text.now a.errors.now
    (rw c.EACH.ensures at c.unread-stop.ensures) c.if-not-readable.false in
    let long = length-take-le c.unread-stop.result.place a.source.now f.0 in
    rw long (f.1, f.2, omega (arith, mul-le-mul_left g.T.Laid.EACH f.3, mul-div-le (length a.errors.now) g.T.Laid.EACH))

pub returns : goal.returns
returns g c =
    let a = c.args in
    whole_read (length a.errors.now / g.T.Laid.EACH) a.context a.source.now a.text.now a.errors.now
    (rw c.EACH.ensures at c.unread-stop.ensures) c.if-not-readable.false c.read_covered.ensures
