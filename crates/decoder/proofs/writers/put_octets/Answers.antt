use native.Mathlib.Nat.{zero-add}
use borrow.Author.Tests.{lt-ltb, le-ltb}
use Rattle.lists.proofs.Puts.{put_join}
use Rattle.standard.specs.Utf8.{octets}
use Rattle.decoder.proofs.writers.put_octets.Goals as goal

pub returns-then-c-lt128 : goal.returns-then-c-lt128
unfolding octets
returns-then-c-lt128 c = simp (lt-ltb _ _ c.if-c-lt128.true) (rw zero-add at c.put_byte.ensures)

pub returns-then-c-lt2048 : goal.returns-then-c-lt2048
unfolding octets
returns-then-c-lt2048 c =
    simp (le-ltb _ _ c.if-c-lt128.false, lt-ltb _ _ c.if-c-lt2048.true) (put_join c.put_byte-last.ensures c.put_byte-then-c-lt2048.ensures)

pub returns-then-c-lt65536 : goal.returns-then-c-lt65536
unfolding octets
returns-then-c-lt65536 c =
    simp (le-ltb _ _ c.if-c-lt128.false, le-ltb _ _ c.if-c-lt2048.false, lt-ltb _ _ c.if-c-lt65536.true)
    (put_join c.put_byte-second.ensures (put_join c.put_byte-last-then-c-lt65536.ensures c.put_byte-then-c-lt65536.ensures))

pub returns : goal.returns
unfolding octets
returns c =
    simp (le-ltb _ _ c.if-c-lt128.false, le-ltb _ _ c.if-c-lt2048.false, le-ltb _ _ c.if-c-lt65536.false)
    (put_join c.put_byte-second-2.ensures
    (put_join c.put_byte-third.ensures (put_join c.put_byte-last-2.ensures c.put_byte-2.ensures)))
