use native.Mathlib.Omega.{arith}
use lib.Seq.{take_all}
use Rattle.lists.proofs.Puts.{put_none}
use Rattle.rooms.proofs.Putting.{put_element}
use Rattle.decoder.proofs.laying.U32Laid.put.Goals as goal

pub loop-number-init : goal.loop-number-init
loop-number-init c = put_none _ _

pub loop-number-preserved : goal.loop-number-preserved
loop-number-preserved c = let l = c.loop-number in put_element c.args.numbers.now l.number-index (omega (arith, c.loop-number-test.true)) l.invariant

pub returns : goal.returns
returns c = let l = c.loop-number in rw (take_all l.number-index _ c.loop-number-test.false) at l.invariant
