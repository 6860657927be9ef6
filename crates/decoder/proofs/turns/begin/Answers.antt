use mathlib.Core.Path.{refl}
use Rattle.decoder.specs.Stream.{store_of, mark_of, kind_of, held_of}
use Rattle.decoder.proofs.turns.begin.Goals as goal

pub returns : goal.returns
unfolding held_of store_of mark_of kind_of
returns c = refl
