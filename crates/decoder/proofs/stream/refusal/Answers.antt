use mathlib.Core.Path.{sym, ◌∙◌}
use borrow.Author.Tests.{lt-ltb, le-ltb}
use Rattle.decoder.specs.Feeding.{refusal_of}
use Rattle.decoder.proofs.stream.refusal.Goals as goal

pub returns-then-not-is_open : goal.returns-then-not-is_open
unfolding refusal_of
returns-then-not-is_open c = rw (sym c.is_open.ensures ∙ c.if-not-is_open.true)

pub returns-then-chunk-gt65536 : goal.returns-then-chunk-gt65536
unfolding refusal_of
returns-then-chunk-gt65536 c = rw (sym c.is_open.ensures ∙ c.if-not-is_open.false, lt-ltb _ _ c.if-chunk-gt65536.true)

pub returns-then-record-chunk-gt16777216 : goal.returns-then-record-chunk-gt16777216
unfolding refusal_of
returns-then-record-chunk-gt16777216 c =
    rw (sym c.is_open.ensures ∙ c.if-not-is_open.false, le-ltb _ _ c.if-chunk-gt65536.false, lt-ltb _ _ c.if-record-chunk-gt16777216.true)

pub returns-then-lacks_room : goal.returns-then-lacks_room
unfolding refusal_of
returns-then-lacks_room c =
    rw (
      sym c.is_open.ensures ∙ c.if-not-is_open.false,
      le-ltb _ _ c.if-chunk-gt65536.false,
      le-ltb _ _ c.if-record-chunk-gt16777216.false,
      sym c.lacks_room.ensures ∙ c.if-lacks_room.true,
    )

pub returns : goal.returns
unfolding refusal_of
returns c =
    rw (
      sym c.is_open.ensures ∙ c.if-not-is_open.false,
      le-ltb _ _ c.if-chunk-gt65536.false,
      le-ltb _ _ c.if-record-chunk-gt16777216.false,
      sym c.lacks_room.ensures ∙ c.if-lacks_room.false,
    )
