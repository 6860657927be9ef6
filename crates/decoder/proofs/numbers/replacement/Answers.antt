-- replacement is what the table says: outside 80 to 9F a number stays, and inside it stands in the array.
use mathlib.Core.Path.{sym}
use mathlib.Core.Logic.{inl, inr}
use native.Mathlib.Omega.{arith}
use Rattle.standard.specs.Numbers.{replacements, replaced_by}
use Rattle.standard.proofs.Replaced.{values, value_of, outside_c1}
use Rattle.decoder.proofs.numbers.replacement.Goals as goal

-- The array is the values of replaced_by from 0x80 on, by computing.
pub returns-in-128-to-159 : goal.returns-in-128-to-159
unfolding values replacements replaced_by
returns-in-128-to-159 c = value_of (replaced_by replacements) 32 0x80 c.args.n (omega arith) (omega arith)

pub returns-in_default : goal.returns-in_default
returns-in_default c = sym (outside_c1 _ (inl (omega arith)))

pub returns-in_default-2 : goal.returns-in_default-2
returns-in_default-2 c = sym (outside_c1 _ (inr (omega arith)))
