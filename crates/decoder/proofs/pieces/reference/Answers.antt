use Prim.Native.Nat.{◌<◌}
use Prim.Native.Char.{code}
use mathlib.Core.Path.{sym, ◌∙◌, ap}
use native.Mathlib.Omega.{arith}
use lib.ListN.{length}
use Rattle.standard.specs.Pieces.{numeric, reference}
use lib.Dec.{eqb}
use Rattle.lists.proofs.Nexts.{next_there}
use Rattle.standard.proofs.Skips.{rest_from}
use Rattle.decoder.proofs.pieces.reference.Goals as goal

pub slice_bounds-numeric-count : goal.slice_bounds-numeric-count
slice_bounds-numeric-count c =
    let after-hash : 0 < length c.args.rest.now =
    next_there (λ b. eqb b (code "#")) 0 c.args.rest.now (sym c.next_is.ensures ∙ c.if-next_is.true) in
    omega (arith, after-hash)

pub slice_bounds-numeric-start : goal.slice_bounds-numeric-start
slice_bounds-numeric-start c =
    let after-hash : 0 < length c.args.rest.now =
    next_there (λ b. eqb b (code "#")) 0 c.args.rest.now (sym c.next_is.ensures ∙ c.if-next_is.true) in
    omega (arith, after-hash)

pub returns-then-next_is : goal.returns-then-next_is
unfolding reference
returns-then-next_is c =
    let s = c.args.rest.now in
    rw (sym c.next_is.ensures ∙ c.if-next_is.true) (c.numeric.ensures ∙ ap numeric (rest_from s 1))

pub returns : goal.returns
unfolding reference
returns c = rw (sym c.next_is.ensures ∙ c.if-next_is.false) c.named.ensures
