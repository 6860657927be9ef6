use borrow.Author.Tests.{eq-eqb, ne_eqb}
use Rattle.decoder.proofs.whole.end_named.Goals as goal

pub returns-then-answer-eq7 : goal.returns-then-answer-eq7
returns-then-answer-eq7 c = rw (eq-eqb _ _ c.if-answer-eq7.true)

pub returns : goal.returns
returns c = rw (ne_eqb _ _ c.if-answer-eq7.false)
