use mathlib.Core.Path.{sym}
use native.Mathlib.Omega.{arith}
use borrow.Author.Tests.{lt-ltb, le-ltb}
use Rattle.standard.proofs.Stops.{stop-place}
use Rattle.decoder.specs.Whole.{answer_of}
use Rattle.decoder.proofs.Answering.{unread-stopped}
use Rattle.decoder.proofs.whole.unread.Goals as goal

pub returns-then-length-gt65536 : goal.returns-then-length-gt65536
unfolding answer_of
returns-then-length-gt65536 c = rw (lt-ltb _ _ c.if-length-gt65536.true)

pub returns-then-short : goal.returns-then-short
unfolding answer_of
returns-then-short c = rw (le-ltb _ _ c.if-length-gt65536.false, c.if-short.true)

pub overflow_cast-result-2 : goal.overflow_cast-result-2
overflow_cast-result-2 c =
    let a = c.args in
    let h = stop-place a.context a.source.now in
    omega (arith, c.find_stop-stop.ensures.1)

pub returns : goal.returns
unfolding answer_of
returns c =
    let a = c.args in
    let f = c.find_stop-stop.ensures in
    rw (le-ltb _ _ c.if-length-gt65536.false, c.if-short.false, sym f.0)
    (unread-stopped a.context a.source.now _ _ f.0 f.1)
