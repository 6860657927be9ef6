use native.Mathlib.Omega.{arith}
use lib.ListN.{length-take, length-drop}
use borrow.Author.Rules.{rules}
use Rattle.chunks.proofs.Calls.{feed_takes, feed_fit}
use Rattle.chunks.proofs.feed_all.Goals as goal

pub show-requires-clause-text_in_bounds : goal.show-requires-clause-text_in_bounds
show-requires-clause-text_in_bounds g c = (feed_fit _ _ c.feed-fed.ensures).0

pub show-requires-clause-errors_in_bounds : goal.show-requires-clause-errors_in_bounds
show-requires-clause-errors_in_bounds g c = (feed_fit _ _ c.feed-fed.ensures).1

pub returns-then-fed-ne-ROOM_USED_UP : goal.returns-then-fed-ne-ROOM_USED_UP
returns-then-fed-ne-ROOM_USED_UP g c = λ e.
    let t = feed_takes _ _ c.feed-fed.ensures in
    omega (arith, t.counted, t.all e)

pub slice_bounds-rest-count : goal.slice_bounds-rest-count
slice_bounds-rest-count g c = omega (arith, (feed_takes _ _ c.feed-fed.ensures).within)

pub slice_bounds-rest-start : goal.slice_bounds-rest-start
slice_bounds-rest-start g c = omega (arith, (feed_takes _ _ c.feed-fed.ensures).within)

pub loop-rest-smaller : goal.loop-rest-smaller
loop-rest-smaller g c =
    let t = feed_takes _ _ c.feed-fed.ensures in
    simp (length-take, length-drop) (omega (arith, t.within, t.some (search rules)))

pub loop-rest-preserved : goal.loop-rest-preserved
loop-rest-preserved g c =
    let t = feed_takes _ _ c.feed-fed.ensures in
    (simp (length-take, length-drop) (omega (arith, t.within, t.counted)), search rules, search rules)
