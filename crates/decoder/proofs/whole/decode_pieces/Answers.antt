use mathlib.Core.Path.{refl, sym, ◌∙◌}
use native.Mathlib.Omega.{arith}
use lib.Seq.{length-take-le}
use Rattle.lists.proofs.Puts.{put_length}
use Rattle.decoder.proofs.Walk.{going_start, going_on, going_room, going_end, room_left, wrote_through, wrote_nothing}
use Rattle.decoder.proofs.whole.decode_pieces.Goals as goal

pub loop-at-init : goal.loop-at-init
loop-at-init g c = (going_start g.met.T.Laid.laying, refl)

pub slice_bounds-decode_next-end : goal.slice_bounds-decode_next-end
slice_bounds-decode_next-end g c = sym c.loop-at.invariant.1

pub decode_next-next-requires : goal.decode_next-next-requires
decode_next-next-requires g c =
    let l = c.loop-at in
    let a = c.requires in
    let r = going_room g.met.T.Laid.laying l.invariant.0 in
    (a.0, omega arith, omega (arith, r.0, r.2, a.1), omega (arith, l.invariant.1))

pub slice_bounds-few-end : goal.slice_bounds-few-end
slice_bounds-few-end g c =
    let n = c.decode_next-next.ensures in
    omega (arith, n.few, put_length n.wrote.numbers_of, c.loop-at.invariant.1)

pub put-requires : goal.put-requires
put-requires g c =
    let n = c.decode_next-next.ensures in
    let r = going_room g.met.T.Laid.laying c.loop-at.invariant.0 in
    let few = n.few in
    let long = length-take-le c.decode_next-next.result.ends.errors c.decode_next-next.new.errors
    (omega (arith, few, put_length n.wrote.numbers_of, c.loop-at.invariant.1)) in
    rw long (room_left g.T.Laid.EACH _ r.1 (omega (arith, c.requires.2, r.3)) few)

pub loop-at-smaller : goal.loop-at-smaller
loop-at-smaller g c = let n = c.decode_next-next.ensures in omega (arith, n.onward, n.there)

pub loop-at-preserved-then-next-ne0 : goal.loop-at-preserved-then-next-ne0
loop-at-preserved-then-next-ne0 g c =
    let n = c.decode_next-next.ensures in
    let l = c.loop-at.invariant in
    let w = wrote_through n.wrote (omega (arith, n.few, l.1)) c.put.ensures in
    (going_on g.met.T.Laid.laying l.0 n w, put_length n.wrote.numbers_of ∙ l.1)

pub loop-at-preserved : goal.loop-at-preserved
loop-at-preserved g c =
    let n = c.decode_next-next.ensures in
    let l = c.loop-at.invariant in
    let w = wrote_nothing g.met.T.Laid.laying n.wrote c.if-next-ne0.false _ _ in
    (going_on g.met.T.Laid.laying l.0 n w, put_length n.wrote.numbers_of ∙ l.1)

pub returns : goal.returns
returns g c = going_end g.met.T.Laid.laying c.loop-at.invariant.0 (omega arith)
