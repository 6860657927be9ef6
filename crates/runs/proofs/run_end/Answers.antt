use Rattle.std.specs.Prelude.{not}
use mathlib.Core.Path.{sym, ◌∙◌, ap}
use mathlib.Core.Bool.{true, ◌&&◌}
use native.Mathlib.Omega.{arith}
use lib.ListN.{length, length-take, length-drop}
use Rattle.std.proofs.Common.{rules}
use Rattle.std.proofs.lemmas.Iterator.{YieldsList-from_slice}
use Rattle.std.proofs.lemmas.Iterator.Consumers.{fold_from_yields_List}
use Rattle.std.proofs.lemmas.Iterator.Search.{position_from_yields_List}
use Rattle.lists.proofs.Fronts.{front-none, front_stops}
use Rattle.runs.proofs.Testing.{run_begins, block-passes, first-fails}
use Rattle.runs.proofs.run_end.Goals as goal

pub returns-then-s-from : goal.returns-then-s-from
returns-then-s-from g c = λ test tested. let a = c.args in omega (arith, ap length (front-none test a.s.now a.from (omega arith)))

pub returns-then-not-passes : goal.returns-then-not-passes
returns-then-not-passes g c = λ test tested.
    let a = c.args in
    let fails = sym (tested _ _ c.passes.ensures) ∙ c.if-not-passes.true in
    omega (arith, ap length (front_stops test a.s.now a.from (omega arith) fails))

pub loop-block-init : goal.loop-block-init
loop-block-init g c = (
  simp (length-take, length-drop) (omega arith),
  λ test tested. (run_begins test c.args.s.now c.args.from (omega arith) (sym (tested _ _ c.passes.ensures) ∙ c.if-not-passes.false)).1,
)

pub loop-block-preserved : goal.loop-block-preserved
loop-block-preserved g c =
    let l = c.loop-block in
    let parts = c.in-Some.ensures.cases in (
      omega (arith, parts.2, l.invariant.0),
      λ test tested.
          let all =
          fold_from_yields_List _ (λ a b. a && test b) true c.fold.result c.fold.ensures.ran (YieldsList-from_slice c.in-Some.block.now (cc))
          (λ a x b q k. search (rules, tested)) in
          omega (arith, block-passes test 32 l.rest.now parts (sym all ∙ c.if-not-fold.false), l.invariant.1 test tested, parts.2),
    )

pub returns-in-Some-position : goal.returns-in-Some-position
returns-in-Some-position g c = λ test tested.
    let l = c.loop-block in
    let found = position_from_yields_List (λ b. not (test b)) _ _ c.position.result c.position.ensures.ran (YieldsList-from_slice l.rest.now (cc))
    (λ x b q k. search (rules, tested)) in
    omega (arith, rw c.in-Some-position.is at (first-fails test l.rest.now found), l.invariant.1 test tested, l.invariant.0)

pub returns : goal.returns
returns g c = λ test tested.
    let l = c.loop-block in
    let found = position_from_yields_List (λ b. not (test b)) _ _ c.position.result c.position.ensures.ran (YieldsList-from_slice l.rest.now (cc))
    (λ x b q k. search (rules, tested)) in
    omega (arith, rw c.in-None.is at (first-fails test l.rest.now found), l.invariant.1 test tested, l.invariant.0)
