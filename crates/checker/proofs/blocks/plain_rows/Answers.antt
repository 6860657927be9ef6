use Prim.Native.Nat.{◌+◌, ◌-◌}
use native.Mathlib.Omega.{arith}
use lib.ListN.{drop}
use Rattle.standard.proofs.Skips.{rest_from}
use Rattle.checker.proofs.SpanLaws.{units-join, alike_on}
use Rattle.checker.proofs.blocks.plain_rows.Goals as goal

pub loop-i-preserved : goal.loop-i-preserved
loop-i-preserved g c =
    let a = c.args in
    let i = c.loop-i.i in
    let w = c.loop-i.invariant in
    let s = a.covered.now in
    let text = a.transcript.now.text.now in
    record {
      rows_there = omega arith;
      source_there = omega arith;
      text_there = omega arith;
      units =
          units-join (g.N.Numbers.list a.transcript.now.rows) a.first i 32 w.units (c.unit_rows.ensures c.if-not-unit_rows.false);
      same =
          alike_on (drop a.from.source s) (drop a.from.text text) i (i + 32 - i) (i + 32 - i) 32 (omega arith) (omega arith) w.same
          (rw (rest_from s a.from.source, rest_from text a.from.text) at (c.alike_block.ensures c.if-not-alike_block.false));
    }
