use Prim.Native.Nat.{◌+◌, ◌-◌}
use mathlib.Core.Path.{◌≡◌, refl, sym, ◌∙◌, ap}
use native.Mathlib.Omega.{arith}
use lib.ListN.{length, take, drop, length-take, length-drop}
use lib.Seq.{take_all, drop-drop}
use Rattle.std.proofs.lemmas.List.{take_min}
use Rattle.lists.specs.Rooms.{Put}
use Rattle.lists.proofs.Puts.{put_none, put_length}
use Rattle.rooms.proofs.Putting.{put_next}
use Rattle.rooms.proofs.copy.Goals as goal

pub returns-then-to-at : goal.returns-then-to-at
returns-then-to-at c =
    let a = c.args in
    let e : length a.to.now - a.at ≡ 0 = omega arith in
    rw e (put_none _ _)

pub loop-block-init : goal.loop-block-init
loop-block-init c =
    let a = c.args in
    let none : a.at - a.at ≡ 0 = omega arith in
    (rw none (put_none _ _), rw none refl, omega arith, simp length-take (omega (arith, c.min-count.ensures)))

pub slice_bounds-put_bytes-end : goal.slice_bounds-put_bytes-end
slice_bounds-put_bytes-end c = let parts = c.in-Some.ensures.cases in rw parts.0 (simp length-take (omega (arith, parts.2)))

pub put_bytes-next-requires : goal.put_bytes-next-requires
put_bytes-next-requires c =
    let l = c.loop-block in
    let parts = c.in-Some.ensures.cases in
    let size : length c.in-Some.block.now ≡ 32 = rw parts.0 (simp length-take (omega (arith, parts.2))) in
    omega (arith, size, parts.2, l.invariant.3, put_length l.invariant.0, c.min-count.ensures)

pub loop-block-preserved : goal.loop-block-preserved
loop-block-preserved c =
    let l = c.loop-block in
    let all = take c.min-count.result c.args.from.now in
    let done = l.next - c.args.at in
    let parts = c.in-Some.ensures.cases in
    let step = c.put_bytes-next.ensures in
    let block : c.in-Some.block.now ≡ take 32 (drop done all) = parts.0 ∙ ap (take 32) l.invariant.1 in
    let size : length c.in-Some.block.now ≡ 32 = rw parts.0 (simp length-take (omega (arith, parts.2))) in
    let on : c.put_bytes-next.result ≡ l.next + 32 = omega (arith, step.next_is, size) in
    let more : done + 32 ≡ c.put_bytes-next.result - c.args.at = omega (arith, on, l.invariant.2) in (
      rw (sym more) (put_next all done 32 l.invariant.0 (rw block at step)),
      parts.1 ∙ ap (drop 32) l.invariant.1 ∙ drop-drop 32 done all ∙ ap (λ n. drop n all) more,
      omega (arith, on, l.invariant.2),
      omega (arith, on, parts.2, l.invariant.3),
    )

pub put_bytes-requires : goal.put_bytes-requires
put_bytes-requires c =
    let l = c.loop-block in omega (arith, l.invariant.3, put_length l.invariant.0, c.min-count.ensures)

pub returns : goal.returns
returns c =
    let l = c.loop-block in
    let n = c.min-count in
    let all = take n.result c.args.from.now in
    let done = l.next - c.args.at in
    let more = length (drop done all) in
    let last : Put l.to l.next l.rest.now c.put_bytes.new.to c.put_bytes.result = c.put_bytes.ensures in
    let rest = rw (sym (take_all more (drop done all) (omega arith))) at (rw l.invariant.1 at last) in
    let whole = take_all (done + more) all (simp length-drop (omega arith)) in
    rw (whole, n.ensures, take_min) at (put_next all done more l.invariant.0 rest)
