use mathlib.Core.Path.{refl}
use native.Mathlib.Omega.{arith}
use Rattle.decoder.proofs.SkimLaws.{moves-none, moves_skim}
use Rattle.decoder.proofs.feeding.skim_on.Goals as goal

pub returns-in_default : goal.returns-in_default
returns-in_default c = moves-none c.args.«record» c.requires.0 c.requires.3 c.requires.4
    c.requires.5

pub returns-then-record-ne0 : goal.returns-then-record-ne0
returns-then-record-ne0 c = moves-none c.args.«record» c.requires.0
    c.requires.3 c.requires.4 c.requires.5

pub overflow_cast-before : goal.overflow_cast-before
overflow_cast-before c = omega (arith, c.requires.3)

pub overflow_sub-before : goal.overflow_sub-before
overflow_sub-before c = omega (arith, c.requires.1)

pub skim-skimmed-requires : goal.skim-skimmed-requires
skim-skimmed-requires c =
    (omega (arith, c.requires.1, c.requires.2), c.requires.3, c.requires.4, c.requires.5)

pub overflow_cast-result : goal.overflow_cast-result
overflow_cast-result c =
    omega (arith, c.skim-skimmed.ensures.there, c.requires.1, c.requires.2)

pub overflow_add-result : goal.overflow_add-result
overflow_add-result c =
    omega (arith, c.skim-skimmed.ensures.there, c.requires.1, c.requires.2)

pub returns : goal.returns
returns c =
    moves_skim c.args.«record» c.in-Data.is c.if-record-ne0.false refl c.requires.1 c.skim-skimmed.ensures c.«data».ensures
