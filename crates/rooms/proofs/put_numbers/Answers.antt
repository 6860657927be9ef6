use Prim.Native.Nat.{◌-◌, ◌/◌}
use mathlib.Core.Path.{◌≡◌, refl, ◌∙◌}
use native.Mathlib.Omega.{arith}
use lib.ListN.{length, length-take}
use lib.Seq.{take_all}
use Rattle.std.proofs.lemmas.List.{take_min}
use Rattle.lists.specs.Bytes.{fours}
use Rattle.lists.proofs.Puts.{put_none}
use Rattle.rooms.proofs.Putting.{put_part, put_number-next}
use Rattle.rooms.proofs.put_numbers.Goals as goal

pub returns-then-to-at : goal.returns-then-to-at
unfolding fours
returns-then-to-at c =
    let a = c.args in
    let e : (length a.to.now - a.at) / 4 ≡ 0 = omega arith in
    rw e (put_none _ _)

pub loop-number-init : goal.loop-number-init
unfolding fours
loop-number-init c = (put_none _ _, omega arith)

pub loop-number-preserved : goal.loop-number-preserved
loop-number-preserved c =
    let l = c.loop-number in
    let bytes = c.copy_from_slice.ensures.after ∙ c.to_le_bytes.ensures in
    let within = simp length-take at c.loop-number-test.true in
    (put_number-next _ l.number-index (omega arith) l.invariant.0 (put_part bytes refl (omega (arith, c.min-count.ensures, within))), omega arith)

pub returns : goal.returns
returns c =
    let l = c.loop-number in
    let n = c.min-count in
    rw (take_all l.number-index _ c.loop-number-test.false, n.ensures, take_min) at l.invariant.0
