use mathlib.Core.Path.{refl}
use native.Mathlib.Omega.{arith}
use Rattle.decoder.proofs.Returns.{
  opened,
  cleared_open,
  cleared_taken,
  cleared_walk,
  not_refused,
  feed_refused,
  feed_walks,
  feeds-nothing,
  walk_feeds,
}
use Rattle.decoder.proofs.stream.Stream.feed.Goals as goal

pub returns-in-Some : goal.returns-in-Some
returns-in-Some c = feeds-nothing (feed_refused _ _ _ _ c.refusal.ensures c.in-Some.is _ refl) c.refused.ensures

pub cleared_record-requires : goal.cleared_record-requires
cleared_record-requires c =
    let goes_on = not_refused _ _ _ _ c.refusal.ensures c.in_default.is in
    goes_on.stands_open

pub walk-walked-requires : goal.walk-walked-requires
walk-walked-requires c =
    let goes_on = not_refused _ _ _ _ c.refusal.ensures c.in_default.is in
    let r = c.args.self in
    let p = opened r goes_on.stands_open in
    let is = c.cleared_record.ensures in
    (cleared_open r p is, omega (arith, cleared_taken r p is, goes_on.within))

pub walked_to-requires : goal.walked_to-requires
walked_to-requires c =
    let goes_on = not_refused _ _ _ _ c.refusal.ensures c.in_default.is in
    let r = c.args.self in
    let a = goes_on in
    let b = c.walk-walked.ensures.1 in (
      omega (arith, cleared_taken r (opened r a.stands_open) c.cleared_record.ensures, b.onward),
      b.there,
      omega (arith, b.text_few, a.short),
      omega (arith, b.errors_few, a.short),
    )

pub returns : goal.returns
returns c =
    let goes_on = not_refused _ _ _ _ c.refusal.ensures c.in_default.is in
    let a = c.args in
    let k = goes_on in
    rw (feed_walks _ _ _ k.stands_open _ k.short k.within k.text_room k.errors_room)
    (walk_feeds (cleared_walk a.self (opened a.self k.stands_open) c.cleared_record.ensures a.chunk.now
    c.walk-walked.ensures.0) _ c.walked_to.ensures)
