use native.Mathlib.Omega.{arith}
use Rattle.decoder.proofs.Contents.{piece-few}
use Rattle.decoder.proofs.writers.put_piece.Goals as goal

pub returns : goal.returns
returns c =
    let q = c.put_codes.ensures in
    let p = c.put_reference.ensures in
    let a = c.args in
    (record { texts = p.0; numbers_of = q }, p.1, omega (arith, q.next_is, piece-few a.place a.piece))
