-- The bytes of the table are computed from the list of names.
use mathlib.Core.Path.{refl}
use Rattle.standard.proofs.Computing.{computing}
use Rattle.standard.proofs.table.builtin_table.Goals as goal

pub returns : goal.returns
unfolding computing
returns c = refl
