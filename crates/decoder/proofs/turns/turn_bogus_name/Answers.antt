use mathlib.Core.Path.{refl}
use native.Mathlib.Omega.{arith}
use Rattle.standard.specs.Errors.{placed}
use Rattle.standard.specs.Pieces.{encodes}
use Rattle.decoder.specs.Machine.{Data, BogusName, step_bogus}
use Rattle.decoder.specs.Stream.{store_of}
use Rattle.decoder.proofs.TurnLaws.{ascii_letter, ascii_is, ascii_not, held-stored, follows_text, turns}
use Rattle.decoder.proofs.turns.turn_bogus_name.Goals as goal

pub returns-then-alphanumeric : goal.returns-then-alphanumeric
unfolding store_of step_bogus encodes placed
returns-then-alphanumeric c =
    let a = c.args in
    let whole = c.requires in
    rw (ascii_letter a.c c.ascii-b.ensures c.alphanumeric.ensures c.if-alphanumeric.true)
    (turns (held-stored (BogusName a.held.place) whole) (follows_text a.p a.c (BogusName a.held.place) c.one.ensures whole)
    c.none.ensures refl (omega arith))

pub returns-then-b-eq59 : goal.returns-then-b-eq59
unfolding store_of step_bogus encodes placed
returns-then-b-eq59 c =
    let a = c.args in
    let is = c.ascii-b.ensures in
    rw (
      ascii_letter a.c is c.alphanumeric.ensures c.if-alphanumeric.false,
      ascii_is 0x3B (omega arith) a.c is c.if-b-eq59.true,
    )
    (turns (held-stored (BogusName a.held.place) c.requires)
    (follows_text a.p a.c Data c.one-then-b-eq59.ensures c.«data».ensures)
    refl refl (omega arith))

pub returns : goal.returns
unfolding store_of step_bogus encodes placed
returns c =
    let a = c.args in
    let is = c.ascii-b.ensures in
    rw (
      ascii_letter a.c is c.alphanumeric.ensures c.if-alphanumeric.false,
      ascii_not 0x3B (omega arith) a.c is c.if-b-eq59.false,
    )
    (turns (held-stored (BogusName a.held.place) c.requires) c.turn_data.ensures c.none-2.ensures refl (omega arith))
