use Rattle.decoder.specs.Stream.{record_of}
use Rattle.decoder.proofs.Releasing.{keeps-byte}
use Rattle.decoder.proofs.feeding.keep_byte.Goals as goal

pub returns : goal.returns
unfolding record_of
returns c =
    keeps-byte c.args.«record» c.args.own.now c.args.n c.requires.1 c.requires.3 c.padded.ensures
