use Rattle.escaper.proofs.Written.{written_none, written_on, written-end}
use Rattle.escaper.proofs.results.write_escaped.Goals as goal

pub loop-at-init : goal.loop-at-init
loop-at-init c = written_none _ _ _ c.requires.well_formed

pub loop-at-preserved : goal.loop-at-preserved
loop-at-preserved c =
    written_on _ _ c.requires.fits c.loop-at.invariant c.part_at-part.ensures.moves c.copy-next.ensures c.copy-next-in-loop-at.ensures

pub returns : goal.returns
returns c = written-end c.loop-at-test.false c.loop-at.invariant
