-- What the end wrote lies in its rooms.
use Rattle.chunks.proofs.Calls.{end_fit}
use Rattle.chunks.proofs.end.Goals as goal

pub show-requires-clause-text_in_bounds : goal.show-requires-clause-text_in_bounds
show-requires-clause-text_in_bounds g c = (end_fit _ c.end-fed.ensures).0

pub show-requires-clause-errors_in_bounds : goal.show-requires-clause-errors_in_bounds
show-requires-clause-errors_in_bounds g c = (end_fit _ c.end-fed.ensures).1
