use native.Mathlib.Omega.{arith}
use Rattle.reporting.proofs.Writing.{wrote_join, wrote_none}
use Rattle.reporting.proofs.LineLaws.{pairs_more, pairs_none}
use Rattle.reporting.proofs.lines.Writer.pairs.Goals as goal

pub loop-rest-preserved : goal.loop-rest-preserved
loop-rest-preserved c = λ end w.
    c.loop-rest.invariant end (rw (pairs_more c.loop-rest.rest.now c.in-len2-up.len_at_least) (wrote_join c.pair.ensures w))

pub returns : goal.returns
returns c =
    c.loop-rest.invariant c.loop-rest.self (rw (pairs_none c.loop-rest.rest.now (omega arith)) (wrote_none c.loop-rest.self))
