use mathlib.Core.Path.{refl}
use Rattle.decoder.specs.Stream.{closed_by}
use Rattle.decoder.proofs.stream.closed.Goals as goal

pub returns : goal.returns
unfolding closed_by
returns c = refl
