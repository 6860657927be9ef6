-- escape gives the answers in their order: 3, 1, 9, 0.
use Prim.Native.Nat.{ℕ}
use mathlib.Core.Path.{◌≡◌, ◌∙◌, ap}
use native.Mathlib.Nat.{zero-add}
use native.Mathlib.Omega.{arith}
use lib.ListN.{length}
use lib.Seq.{sets}
use Rattle.standard.specs.Answers.{done, ill_formed}
use Rattle.escaper.proofs.Answered.{answer_long, answer_fault, answer_room, answer_done}
use Rattle.escaper.proofs.Bound.{escape_six}
use Rattle.escaper.proofs.escape.Goals as goal

-- An input without a fault has another answer than that of one.
faultless : {answer : ℕ} → answer ≡ done → answer ≡ ill_formed → ⊥
faultless e f = omega (arith, e, f)

pub returns-then-input-gt65536 : goal.returns-then-input-gt65536
returns-then-input-gt65536 c =
    let a = c.args in
    let w = answer_long a.mode a.input.now (length a.out.now) c.if-input-gt65536.true in
    record { answered = w.0; texts = ap (sets a.out.now 0) w.1 }

pub overflow_cast-result : goal.overflow_cast-result
overflow_cast-result c = omega (arith, c.in-Some.ensures.2)

pub returns-in-Some : goal.returns-in-Some
returns-in-Some c =
    let a = c.args in
    let stop = c.in-Some.ensures in
    let w = answer_fault a.mode a.input.now (length a.out.now) (omega arith) stop.0 in
    record { answered = rw stop.1 w.0; texts = ap (sets a.out.now 0) w.1 }

pub overflow_cast-result-then-out-text : goal.overflow_cast-result-then-out-text
overflow_cast-result-then-out-text c =
    let a = c.args in
    omega (arith, c.escaped_length-text.ensures, escape_six a.mode a.input.now)

pub returns-then-out-text : goal.returns-then-out-text
returns-then-out-text c =
    let a = c.args in
    let n = c.escaped_length-text.ensures in
    let w = answer_room a.mode a.input.now (length a.out.now) (omega arith) (faultless c.in_default.ensures) (omega arith) in
    record { answered = rw n w.0; texts = ap (sets a.out.now 0) w.1 }

pub overflow_cast-result-2 : goal.overflow_cast-result-2
overflow_cast-result-2 c =
    let a = c.args in
    omega (arith, c.write_escaped-end.ensures.next_is, escape_six a.mode a.input.now)

pub returns : goal.returns
returns c =
    let a = c.args in
    let n = c.escaped_length-text.ensures in
    let p = c.write_escaped-end.ensures in
    let w = answer_done a.mode a.input.now (length a.out.now) (omega arith) (faultless c.in_default.ensures) (omega arith) in
    record { answered = rw (p.next_is, zero-add) w.0; texts = p.new_is ∙ ap (sets a.out.now 0) w.1 }
