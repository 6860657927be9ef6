use Prim.Native.Nat.{ℕ}
use mathlib.Core.Path.{refl, sym, ap}
use native.Mathlib.Omega.{arith}
use lib.ListN.{length}
use borrow.Author.Tests.{lt-ltb, ltb-true}
use Rattle.lists.proofs.Fronts.{front_goes_on}
use Rattle.standard.specs.Answers.{done}
use Rattle.standard.proofs.Looking.{looking_start, looking_run, looking_end}
use Rattle.standard.proofs.Stopping.{stop_is, turn_other, turn_none, turn_size}
use Rattle.runs.specs.Kinds.{ascii}
use Rattle.escaper.proofs.stops.find_stop.Goals as goal

-- A character calls for nothing.
abbrev calls : ℕ → ℕ
calls c = done

pub loop-at-init : goal.loop-at-init
loop-at-init c = looking_start

pub loop-at-preserved-then-s-at-lt128 : goal.loop-at-preserved-then-s-at-lt128
loop-at-preserved-then-s-at-lt128 c =
    looking_run c.loop-at.invariant ascii (λ b t. (ltb-true b 0x80 t, refl)) c.ascii_end-at.ensures

pub loop-at-smaller-then-s-at-lt128 : goal.loop-at-smaller-then-s-at-lt128
loop-at-smaller-then-s-at-lt128 c =
    let s = c.args.s.now in
    let at = c.loop-at.at in
    omega (
      arith,
      (loop-at-preserved-then-s-at-lt128 c).there,
      c.ascii_end-at.ensures,
      ap length (front_goes_on ascii s at (omega arith) (lt-ltb _ 0x80 c.if-s-at-lt128.true)),
    )

pub returns-in_default : goal.returns-in_default
returns-in_default c =
    let l = c.loop-at.invariant in
    let w = turn_other l (omega arith) c.read_char.ensures c.in_default.not-Char in (sym w.0, w.1, l.there)

pub loop-at-preserved : goal.loop-at-preserved
loop-at-preserved c =
    let l = c.loop-at.invariant in
    turn_none l (omega arith) c.read_char.ensures c.in-Char.is refl refl

pub overflow_add-at : goal.overflow_add-at
overflow_add-at c = omega (arith, (loop-at-preserved c).there)

pub loop-at-smaller : goal.loop-at-smaller
loop-at-smaller c =
    let l = c.loop-at.invariant in
    omega (
      arith,
      (loop-at-preserved c).there,
      turn_size l (omega arith) c.read_char.ensures c.in-Char.is refl,
    )

pub returns : goal.returns
returns c =
    let l = c.loop-at.invariant in
    sym (stop_is done _ (looking_end l (omega arith))).0
