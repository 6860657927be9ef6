use mathlib.Core.Path.{sym, ◌∙◌}
use Rattle.decoder.proofs.pieces.newline.Goals as goal

pub returns-then-next_is : goal.returns-then-next_is
returns-then-next_is c = rw (sym c.next_is.ensures ∙ c.if-next_is.true) c.one.ensures

pub returns : goal.returns
returns c = rw (sym c.next_is.ensures ∙ c.if-next_is.false) c.one-2.ensures
