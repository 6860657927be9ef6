use borrow.Author.Tests.{eq-eqb, ne_eqb}
use borrow.Author.Rules.{rules}
use Rattle.standard.proofs.names.CharRef.new.Goals as goal

pub returns-then-second-eq0 : goal.returns-then-second-eq0
returns-then-second-eq0 c = search (rules, eq-eqb)

pub returns : goal.returns
returns c = search (rules, ne_eqb)
