use Prim.Native.Char.{code}
use mathlib.Core.Path.{sym, ◌∙◌}
use native.Mathlib.Omega.{arith}
use Rattle.standard.specs.Pieces.{numeric}
use lib.Dec.{eqb}
use Rattle.lists.proofs.Nexts.{next_there}
use Rattle.decoder.proofs.pieces.numeric.Goals as goal

pub numeric_from-requires : goal.numeric_from-requires
numeric_from-requires c =
    let s = c.args.rest.now in
    omega (arith, next_there (λ b. eqb b (code "x")) 0 s (sym c.next_is.ensures ∙ c.if-next_is.true))

pub returns-then-next_is : goal.returns-then-next_is
unfolding numeric
returns-then-next_is c = rw (sym c.next_is.ensures ∙ c.if-next_is.true) c.numeric_from.ensures

pub numeric_from-requires-then-next_is-2 : goal.numeric_from-requires-then-next_is-2
numeric_from-requires-then-next_is-2 c =
    let s = c.args.rest.now in
    omega (arith, next_there (λ b. eqb b (code "X")) 0 s (sym c.next_is-2.ensures ∙ c.if-next_is-2.true))

pub returns-then-next_is-2 : goal.returns-then-next_is-2
unfolding numeric
returns-then-next_is-2 c =
    rw (sym c.next_is.ensures ∙ c.if-next_is.false, sym c.next_is-2.ensures ∙ c.if-next_is-2.true)
    c.numeric_from-then-next_is-2.ensures

pub returns : goal.returns
unfolding numeric
returns c =
    rw (sym c.next_is.ensures ∙ c.if-next_is.false, sym c.next_is-2.ensures ∙ c.if-next_is-2.false)
    c.numeric_from-2.ensures
