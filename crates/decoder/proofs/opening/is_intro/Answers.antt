use mathlib.Core.Path.{◌∙◌, ap}
use lib.Dec.{eqb}
use lib.Pointwise.{pointwise}
use Rattle.decoder.proofs.Open.{pointwise-same}
use Rattle.decoder.proofs.opening.is_intro.Goals as goal

pub returns : goal.returns
returns c = c.eq.ensures ∙ ap (pointwise eqb c.args.store.now) c.as_slice.ensures ∙ pointwise-same _ _
