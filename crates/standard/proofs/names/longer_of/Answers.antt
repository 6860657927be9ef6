use mathlib.Core.Path.{sym, ◌∙◌}
use native.Mathlib.Omega.{arith}
use Rattle.standard.proofs.Lookup.{longer_not, longer_hit, longer_miss}
use Rattle.standard.proofs.names.longer_of.Goals as goal

pub returns-then-len-len_of-clause-longer : goal.returns-then-len-len_of-clause-longer
returns-then-len-len_of-clause-longer c =
    sym (longer_not _ _ _ (omega (arith, sym c.len_of.ensures, c.if-len-len_of.true)))

pub returns-then-not-stands_at-clause-longer : goal.returns-then-not-stands_at-clause-longer
returns-then-not-stands_at-clause-longer c =
    sym (longer_miss _ _ _ (sym c.stands_at.ensures ∙ c.if-not-stands_at.true))

pub returns-clause-longer : goal.returns-clause-longer
returns-clause-longer c =
    rw c.reference.ensures
    (sym (longer_hit _ _ _ (omega (arith, sym c.len_of.ensures, c.if-len-len_of.false)) (sym c.stands_at.ensures ∙ c.if-not-stands_at.false)))
