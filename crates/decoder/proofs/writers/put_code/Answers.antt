use borrow.Author.Tests.{ne_eqb}
use Rattle.lists.proofs.Puts.{put_none}
use Rattle.standard.specs.Errors.{placed, numbers}
use Rattle.decoder.proofs.writers.put_code.Goals as goal

pub returns-then-code-eq0 : goal.returns-then-code-eq0
unfolding numbers placed
returns-then-code-eq0 c = rw c.if-code-eq0.true (put_none _ _)

pub returns : goal.returns
unfolding numbers placed
returns c = rw (ne_eqb _ _ c.if-code-eq0.false) c.put_error.ensures
