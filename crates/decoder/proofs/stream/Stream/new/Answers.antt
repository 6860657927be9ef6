use Rattle.decoder.specs.Stream.{new_stream, record_of}
use Rattle.decoder.proofs.stream.Stream.new.Goals as goal

pub returns : goal.returns
unfolding new_stream record_of
returns c = rw c.«data».ensures
