use mathlib.Core.Path.{refl, ◌∙◌, ap}
use mathlib.Core.Logic.{inl, inr}
use lib.Dec.{eqb}
use lib.Pointwise.{pointwise}
use Rattle.decoder.specs.Stream.{holds}
use Rattle.decoder.proofs.Open.{pointwise-same}
use Rattle.decoder.proofs.opening.holds.Goals as goal

pub returns-in-Data : goal.returns-in-Data
unfolding holds
returns-in-Data c =
    c.is_empty.ensures ∙ elim c.in-Data.is [ inl e ↦ rw e refl | inr other ↦ elim other [ inl e ↦ rw e refl | inr e ↦ rw e refl ] ]

pub returns-in-Begin : goal.returns-in-Begin
unfolding holds
returns-in-Begin c = rw c.in-Begin.is (c.eq.ensures ∙ ap (pointwise eqb c.args.store.now) c.as_slice.ensures ∙ pointwise-same _ _)

pub returns-in-Octothorpe : goal.returns-in-Octothorpe
unfolding holds
returns-in-Octothorpe c = rw c.in-Octothorpe.is c.is_intro.ensures

pub returns-in-HexBegin : goal.returns-in-HexBegin
unfolding holds
returns-in-HexBegin c = rw c.in-HexBegin.is c.is_hex_intro.ensures

pub returns-in-Numeric : goal.returns-in-Numeric
unfolding holds
returns-in-Numeric c = rw (c.in-Numeric.is, c.is_intro-in-Numeric.ensures, c.is_hex_intro-in-Numeric.ensures) refl

pub returns-in-Named : goal.returns-in-Named
unfolding holds
returns-in-Named c = rw c.in-Named.is c.is_named.ensures

pub returns-in-Closed : goal.returns-in-Closed
unfolding holds
returns-in-Closed c = rw c.in-Closed.is refl
