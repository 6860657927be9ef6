use native.Mathlib.Omega.{arith}
use lib.Seq.{take_all}
use Rattle.lists.proofs.Puts.{put_none}
use Rattle.rooms.proofs.Putting.{put_element}
use Rattle.rooms.proofs.put_bytes.Goals as goal

pub loop-byte-init : goal.loop-byte-init
loop-byte-init c = put_none _ _

pub loop-byte-preserved : goal.loop-byte-preserved
loop-byte-preserved c = let l = c.loop-byte in put_element c.args.from.now l.byte-index (omega (arith, c.loop-byte-test.true)) l.invariant

pub returns : goal.returns
returns c = let l = c.loop-byte in rw (take_all l.byte-index _ c.loop-byte-test.false) at l.invariant
