use Rattle.decoder.proofs.turns.absorbed.Goals as goal

pub returns : goal.returns
returns c = rw (c.none.ensures, c.none-2.ensures)
