use mathlib.Core.Path.{refl}
use native.Mathlib.Omega.{arith}
use borrow.Author.Tests.{eq-eqb, ne_eqb}
use Rattle.standard.specs.Errors.{placed}
use Rattle.standard.specs.Pieces.{encodes}
use Rattle.decoder.specs.Machine.{Data}
use Rattle.decoder.proofs.TurnLaws.{turns, turns_absorbed}
use Rattle.decoder.proofs.turns.turn_after_cr.Goals as goal

pub returns-then-c-eq10 : goal.returns-then-c-eq10
returns-then-c-eq10 c =
    rw (eq-eqb _ 0xA c.if-c-eq10.true) (turns_absorbed c.requires _ Data c.absorbed.ensures refl c.«data».ensures)

pub returns : goal.returns
unfolding encodes placed
returns c =
    rw (ne_eqb _ 0xA c.if-c-eq10.false) (turns c.requires c.turn_data.ensures c.none.ensures refl (omega arith))
