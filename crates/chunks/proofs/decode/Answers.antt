use native.Mathlib.Omega.{arith}
use lib.ListN.{length-take}
use borrow.Author.Rules.{rules}
use Rattle.chunks.proofs.decode.Goals as goal

pub loop-count-smaller : goal.loop-count-smaller
loop-count-smaller g c =
    let all = c.in_ok-fed.ensures (search rules) in
    omega (arith, length-take c.in_ok-count.count c.read_full.new.buffer)
