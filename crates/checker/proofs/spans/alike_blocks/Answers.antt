use Prim.Native.Nat.{◌+◌, ◌-◌}
use native.Mathlib.Omega.{arith}
use lib.ListN.{length}
use Rattle.checker.proofs.SpanLaws.{alike_on}
use Rattle.checker.proofs.spans.alike_blocks.Goals as goal

pub loop-i-preserved : goal.loop-i-preserved
loop-i-preserved c =
    let l = c.loop-i in (
      omega arith,
      alike_on c.args.source.now c.args.text.now l.i (l.i + 32 - l.i) (l.i + 32 - l.i) 32 (omega arith) (omega arith) l.invariant.1
          (c.alike_block.ensures c.if-not-alike_block.false),
    )

pub returns-clause-each : goal.returns-clause-each
returns-clause-each c =
    let l = c.loop-i in
    let e = c.alike_bytes.ensures in
    alike_on c.args.source.now c.args.text.now l.i (length c.args.source.now - l.i) (length c.args.text.now - l.i) _
    (omega (arith, e.source)) (omega (arith, e.text)) l.invariant.1 e.each
