use Rattle.decoder.proofs.TurnLaws.{data_cr, data_begin, data_other}
use Rattle.decoder.proofs.turns.turn_data.Goals as goal

pub returns-then-c-eq13 : goal.returns-then-c-eq13
returns-then-c-eq13 c = data_cr c.if-c-eq13.true c.one.ensures c.after_cr.ensures

pub returns-then-c-eq38 : goal.returns-then-c-eq38
returns-then-c-eq38 c =
    data_begin c.if-c-eq13.false c.if-c-eq38.true c.none.ensures c.begin.ensures

pub returns : goal.returns
returns c =
    data_other c.if-c-eq13.false c.if-c-eq38.false
    (rw (← c.character_code.ensures) c.one-2.ensures) c.«data».ensures
