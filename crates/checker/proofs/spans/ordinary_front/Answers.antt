use Prim.Native.Nat.{◌+◌, ◌-◌}
use mathlib.Core.Path.{◌≡◌, ◌∙◌, ap}
use native.Mathlib.Omega.{arith}
use lib.ListN.{length, drop}
use lib.Seq.{drop-drop}
use Rattle.checker.proofs.SpanLaws.{ordinary_on, ordinary_first}
use Rattle.checker.proofs.spans.ordinary_front.Goals as goal

pub loop-block-init : goal.loop-block-init
loop-block-init c =
    let s = c.args.s.now in
    let none : 0 ≡ length s - length s = omega arith in (omega arith, ap (λ n. drop n s) none, λ i m. absurd (omega (arith, m)))

pub loop-block-preserved : goal.loop-block-preserved
loop-block-preserved c =
    let l = c.loop-block in
    let s = c.args.s.now in
    let parts = c.in-Some.ensures.cases in
    let at = length s - length l.rest.now in
    let on : at + 64 ≡ length s - length c.in-Some.after.now = omega (arith, parts.2, l.invariant.0) in (
      omega (arith, parts.2, l.invariant.0),
      parts.1 ∙ ap (drop 64) l.invariant.1 ∙ drop-drop 64 at s ∙ ap (λ n. drop n s) on,
      rw on at (ordinary_on c.args.end s at 64 l.invariant.1 l.invariant.2
          (ordinary_first c.args.end l.rest.now 64 parts.0 (c.ordinary_block.ensures c.if-not-ordinary_block.false))),
    )

pub returns-clause-within : goal.returns-clause-within
returns-clause-within c = omega (arith, c.ordinary_bytes.ensures.within, c.loop-block.invariant.0)

pub returns-clause-each : goal.returns-clause-each
returns-clause-each c =
    let l = c.loop-block in
    let s = c.args.s.now in
    ordinary_on c.args.end s (length s - length l.rest.now) _ l.invariant.1 l.invariant.2 c.ordinary_bytes.ensures.each
