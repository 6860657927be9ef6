use mathlib.Core.Path.{sym, ◌∙◌}
use native.Mathlib.Omega.{arith}
use Rattle.decoder.proofs.Room.{lacks-only}
use Rattle.decoder.proofs.Taking.{taken_start, taken_open, taken_count, taken_moves, taken_free, taken_full, taken_byte, taken_stop, taken_all}
use Rattle.decoder.proofs.feeding.walk.Goals as goal

pub loop-at-init : goal.loop-at-init
loop-at-init c = taken_start c.requires.0

pub skim_on-ahead-requires : goal.skim_on-ahead-requires
skim_on-ahead-requires c =
    let l = c.loop-at in
    let count = taken_count l.invariant in
    let short = c.requires.1 in (
      taken_open l.invariant,
      omega (arith, count),
      omega
          (arith, count, short),
      l.invariant.there,
      l.invariant.text_in,
      l.invariant.errors_in,
    )

pub returns-then-at-chunk : goal.returns-then-at-chunk
returns-then-at-chunk c =
    let m = taken_moves c.loop-at.invariant c.skim_on-ahead.ensures in
    taken_all m (omega (arith, c.if-at-chunk.true))

pub overflow_sub-text : goal.overflow_sub-text
overflow_sub-text c =
    let m = taken_moves c.loop-at.invariant c.skim_on-ahead.ensures in
    omega (arith, m.text_in)

pub overflow_sub-errors : goal.overflow_sub-errors
overflow_sub-errors c =
    let m = taken_moves c.loop-at.invariant c.skim_on-ahead.ensures in
    omega (arith, m.errors_in)

pub returns-then-lacks_room : goal.returns-then-lacks_room
returns-then-lacks_room c =
    let m = taken_moves c.loop-at.invariant c.skim_on-ahead.ensures in
    taken_full m (omega (arith, m.there, c.if-at-chunk.false)) (lacks-only _ _ (sym c.lacks_room.ensures ∙ c.if-lacks_room.true))

pub bounds-chunk-at : goal.bounds-chunk-at
bounds-chunk-at c =
    let m = taken_moves c.loop-at.invariant c.skim_on-ahead.ensures in
    omega (arith, m.there, c.if-at-chunk.false)

pub take_byte-next-requires : goal.take_byte-next-requires
take_byte-next-requires c =
    let m = taken_moves c.loop-at.invariant c.skim_on-ahead.ensures in
    let room = taken_free m c.lacks_room.ensures c.if-lacks_room.false in (
      taken_open m,
      omega (arith, taken_count m, c.requires.1, m.there, c.if-at-chunk.false),
      room,
    )

pub returns-then-next-ne0 : goal.returns-then-next-ne0
returns-then-next-ne0 c =
    let m = taken_moves c.loop-at.invariant c.skim_on-ahead.ensures in
    let room = taken_free m c.lacks_room.ensures c.if-lacks_room.false in
    taken_stop m (omega (arith, m.there, c.if-at-chunk.false)) room.0 room.1 c.take_byte-next.ensures c.if-next-ne0.true

pub overflow_add-at : goal.overflow_add-at
overflow_add-at c =
    let m = taken_moves c.loop-at.invariant c.skim_on-ahead.ensures in
    omega (arith, m.there, c.requires.1)

pub loop-at-smaller : goal.loop-at-smaller
loop-at-smaller c =
    let m = taken_moves c.loop-at.invariant c.skim_on-ahead.ensures in
    omega (arith, m.there, c.if-at-chunk.false, c.skim_on-ahead.ensures.onward)

pub loop-at-preserved : goal.loop-at-preserved
loop-at-preserved c =
    let m = taken_moves c.loop-at.invariant c.skim_on-ahead.ensures in
    let room = taken_free m c.lacks_room.ensures c.if-lacks_room.false in
    taken_byte m (omega (arith, m.there, c.if-at-chunk.false)) room.0 room.1 c.take_byte-next.ensures c.if-next-ne0.false

pub returns : goal.returns
returns c = taken_all c.loop-at.invariant (omega (arith, c.loop-at-test.false))
