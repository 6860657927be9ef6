use Rattle.decoder.proofs.SkimLaws.{stands-closed}
use Rattle.decoder.proofs.skimming.closed.Goals as goal

pub returns : goal.returns
returns c = stands-closed c.in_ok-end.ensures c.requires.1 c.reference-piece.ensures c.if-piece-end.false
