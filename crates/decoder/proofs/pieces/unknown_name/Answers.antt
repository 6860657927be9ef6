use Rattle.standard.proofs.FrontPiece.{unknown-at}
use Rattle.decoder.proofs.pieces.unknown_name.Goals as goal

pub returns : goal.returns
returns c = rw (c.next_is.ensures, unknown-at c.args.rest.now _ c.letters_end-end.ensures)
