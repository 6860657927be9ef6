use borrow.Author.Tests.{lt-ltb, le-ltb}
use Rattle.decoder.specs.Turns.{ascii_of}
use Rattle.decoder.proofs.turns.ascii.Goals as goal

pub returns-then-c-lt128 : goal.returns-then-c-lt128
unfolding ascii_of
returns-then-c-lt128 c = rw (lt-ltb _ 0x80 c.if-c-lt128.true)

pub returns : goal.returns
unfolding ascii_of
returns c = rw (le-ltb _ 0x80 c.if-c-lt128.false)
