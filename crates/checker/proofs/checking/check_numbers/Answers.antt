use mathlib.Core.Path.{◌≡◌, ◌∙◌}
use native.Mathlib.Omega.{arith}
use lib.ListN.{length-take}
use Rattle.standard.specs.Reading.{stop_of}
use Rattle.standard.proofs.Stops.{stop-place}
use Rattle.checker.specs.Meeting.{stop_at}
use Rattle.checker.proofs.CheckLaws.{check_order, check_fault, check_judged}
use Rattle.checker.proofs.checking.check_numbers.Goals as goal

pub returns-then-source-gt65536 : goal.returns-then-source-gt65536
returns-then-source-gt65536 g c =
    let a = c.args in
    let t = a.transcript.now in
    c.refused.ensures
    ∙ (check_order a.context a.source.now (g.N.Numbers.list t.rows) t.text.now (g.N.Numbers.list t.errors)).long c.if-source-gt65536.true

pub returns-then-count-ne0 : goal.returns-then-count-ne0
returns-then-count-ne0 g c =
    let a = c.args in
    let t = a.transcript.now in
    c.refused-then-count-ne0.ensures
    ∙ (check_order a.context a.source.now (g.N.Numbers.list t.rows) t.text.now (g.N.Numbers.list t.errors)).odd (omega arith)
    (λ z. (rw c.count.ensures at c.if-count-ne0.true) z.0)

pub returns-then-count-ne0-2 : goal.returns-then-count-ne0-2
returns-then-count-ne0-2 g c =
    let a = c.args in
    let t = a.transcript.now in
    c.refused-then-count-ne0-2.ensures
    ∙ (check_order a.context a.source.now (g.N.Numbers.list t.rows) t.text.now (g.N.Numbers.list t.errors)).odd (omega arith)
    (λ z. (rw c.count-2.ensures at c.if-count-ne0-2.true) z.1)

pub stopped-requires : goal.stopped-requires
stopped-requires g c =
    let a = c.args in
    let e : stop_of a.context a.source.now ≡ stop_at c.in-Err.fault = c.in-Err.ensures.fault in
    rw (← e) (omega (arith, stop-place a.context a.source.now))

pub returns-in-Err : goal.returns-in-Err
returns-in-Err g c =
    let a = c.args in
    let t = a.transcript.now in
    c.stopped.ensures
    ∙ check_fault a.context a.source.now (g.N.Numbers.list t.rows) t.text.now (g.N.Numbers.list t.errors) (omega arith)
    (rw c.count.ensures at c.if-count-ne0.false) (rw c.count-2.ensures at c.if-count-ne0-2.false) c.in-Err.fault c.in-Err.ensures.fault

pub slice_bounds-covered-end : goal.slice_bounds-covered-end
slice_bounds-covered-end g c =
    let a = c.args in
    let k = stop-place a.context a.source.now in simp length-take (omega (arith, c.in-Ok.ensures.end.1))

pub returns-in-Ok-judge : goal.returns-in-Ok-judge
returns-in-Ok-judge g c =
    let a = c.args in
    let t = a.transcript.now in
    let e = c.in-Ok.ensures.end in
    check_judged a.context a.source.now (g.N.Numbers.list t.rows) t.text.now (g.N.Numbers.list t.errors) (omega arith)
    (rw c.count.ensures at c.if-count-ne0.false) (rw c.count-2.ensures at c.if-count-ne0-2.false) e.0 e.1 c.builtin_table.ensures
    c.in-Ok-judge.ensures

pub returns-in-Err-judge : goal.returns-in-Err-judge
returns-in-Err-judge g c =
    let a = c.args in
    let t = a.transcript.now in
    let e = c.in-Ok.ensures.end in
    rw c.number.ensures
    (check_judged a.context a.source.now (g.N.Numbers.list t.rows) t.text.now (g.N.Numbers.list t.errors) (omega arith)
    (rw c.count.ensures at c.if-count-ne0.false) (rw c.count-2.ensures at c.if-count-ne0-2.false) e.0 e.1 c.builtin_table.ensures
    c.in-Err-judge.ensures)
