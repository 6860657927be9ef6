use native.Mathlib.Omega.{arith}
use borrow.Author.Tests.{eq-eqb, ne_eqb}
use Rattle.decoder.proofs.Writing.{wrote_none}
use Rattle.decoder.proofs.feeding.put_stop.Goals as goal

pub returns-then-answer-eq7 : goal.returns-then-answer-eq7
returns-then-answer-eq7 c = rw (eq-eqb c.args.answer 7
    c.if-answer-eq7.true) c.put_last.ensures

pub returns : goal.returns
returns c = rw (ne_eqb c.args.answer 7 c.if-answer-eq7.false) (wrote_none _ _ _ _, (omega arith, omega arith))
