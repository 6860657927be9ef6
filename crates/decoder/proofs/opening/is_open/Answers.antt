use Prim.Native.Nat.{◌≤◌}
use mathlib.Core.Path.{◌≡◌}
use mathlib.Core.Bool.{Bool, true, ◌&&◌}
use native.Mathlib.Omega.{arith}
use lib.Dec.{leb}
use borrow.Author.Tests.{leb-true}
use Rattle.lists.proofs.Choice.{and_true}
use Rattle.decoder.specs.declared.stream.Stream.{Stream}
use Rattle.decoder.specs.Stream.{is_open}
use Rattle.decoder.proofs.opening.is_open.Goals as goal

-- The counts are within the limits.
abbrev within : Stream → Bool
within r = leb r.held.count 32 && leb r.part_count 3 && leb r.taken 16777216

limits : (r : Stream) → within r ≡ true → (r.held.count ≤ 32) × (r.part_count ≤ 3)
limits r e =
    let f = and_true (leb r.held.count 32 && leb r.part_count 3) (leb r.taken 16777216) e in
    let g = and_true (leb r.held.count 32) (leb r.part_count 3) f.0 in
    (leb-true r.held.count 32 g.0, leb-true r.part_count 3 g.1)

pub returns-then-not-within : goal.returns-then-not-within
unfolding is_open
returns-then-not-within c = let r = c.args.stream in rw c.if-not-within.true

pub overflow_add-taken : goal.overflow_add-taken
overflow_add-taken c =
    let r = c.args.stream in
    let l = limits r c.if-not-within.false in
    omega (arith, l.0, l.1)

pub returns : goal.returns
unfolding is_open
returns c =
    let r = c.args.stream in
    rw c.if-not-within.false (rw (c.holds-stored.ensures, c.is_part-begun.ensures))
