use mathlib.Core.Path.{refl, ◌∙◌, sym}
use native.Mathlib.Omega.{arith}
use Rattle.standard.proofs.Lookup.{stands_end, stands_short, stands_other, stands_same}
use Rattle.standard.proofs.names.stands_at.Goals as goal

pub loop-i-init : goal.loop-i-init
loop-i-init c = refl

pub returns-then-s-i : goal.returns-then-s-i
returns-then-s-i c =
    let a = c.args in
    let l = c.loop-i in
    sym (l.invariant ∙ stands_short a.word.now a.s.now l.i (omega arith) (omega arith))

pub returns-then-word-i : goal.returns-then-word-i
returns-then-word-i c =
    let a = c.args in
    let l = c.loop-i in
    sym (l.invariant ∙ stands_other a.word.now a.s.now l.i (omega arith) (omega arith) c.if-word-i.true)

pub loop-i-preserved : goal.loop-i-preserved
loop-i-preserved c =
    let a = c.args in
    let l = c.loop-i in
    l.invariant ∙ stands_same a.word.now a.s.now l.i (omega arith) (omega arith) c.if-word-i.false

pub returns : goal.returns
returns c =
    let a = c.args in
    let l = c.loop-i in
    sym (l.invariant ∙ stands_end a.word.now a.s.now l.i (omega arith))
