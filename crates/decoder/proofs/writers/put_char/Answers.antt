use Rattle.standard.specs.Utf8.{encode}
use Rattle.decoder.proofs.writers.put_char.Goals as goal

pub returns : goal.returns
unfolding encode
returns c = rw c.replaced.ensures.0 at c.put_octets.ensures
