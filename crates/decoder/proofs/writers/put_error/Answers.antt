use mathlib.Core.Path.{refl}
use native.Mathlib.Omega.{arith}
use native.Mathlib.Numerals.{towards_suc}
use lib.ListN.{length-set}
use Rattle.decoder.proofs.writers.put_error.Goals as goal

pub bounds-errors-at-2 : goal.bounds-errors-at-2
bounds-errors-at-2 c = simp length-set (omega arith)

pub returns : goal.returns
returns c = record { next_is = refl; new_is = simp towards_suc }
