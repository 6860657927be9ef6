use native.Mathlib.Omega.{arith}
use Rattle.lists.proofs.Puts.{put_join, put_length}
use Rattle.standard.specs.Errors.{listed}
use Rattle.decoder.proofs.Contents.{placed-numbers, listed-short}
use Rattle.decoder.proofs.writers.put_codes.Goals as goal

pub put_code-requires : goal.put_code-requires
put_code-requires c =
    let a = c.args in
    let e = c.put_code-next.ensures in
    omega (arith, e.next_is, put_length e, listed-short a.place a.first)

pub returns : goal.returns
returns c =
    let a = c.args in
    rw (placed-numbers a.place (listed a.first) (listed a.second))
    (put_join c.put_code-next.ensures c.put_code.ensures)
