use mathlib.Core.Path.{refl}
use Rattle.decoder.specs.Stream.{fed_of}
use Rattle.decoder.proofs.stream.refused.Goals as goal

pub returns : goal.returns
unfolding fed_of
returns c = refl
