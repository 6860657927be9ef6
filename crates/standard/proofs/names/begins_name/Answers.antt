use Prim.Native.Nat.{ℕ}
use mathlib.Core.Path.{sym, ◌∙◌, ap}
use mathlib.Core.List.{List}
use Rattle.standard.specs.declared.records.Records.{Records}
use Rattle.standard.specs.Names.{Name, begins, records}
use Rattle.standard.proofs.Lookup.{begins-none, begins_hit, begins_miss}
use Rattle.standard.proofs.names.begins_name.Goals as goal

pub loop-record-init : goal.loop-record-init
loop-record-init c =
    let all = ap (λ (r : Records). r.rest.now) c.into_iter-record-iterator.ensures.into_iter_gives ∙ c.of-record-items.ensures in
    (tt, tt, ap (λ (t : List ℕ). begins (records t) c.args.s.now) (sym all))

pub loop-record-preserved : goal.loop-record-preserved
loop-record-preserved c =
    let s = c.args.s.now in
    let steps = ap (λ (names : List Name). begins names s) c.in-Some.ensures.steps in
    (tt, tt, c.loop-record.invariant.2 ∙ steps ∙ begins_miss _ _ s (sym c.stands_at.ensures ∙ c.if-stands_at.false))

pub returns-then-stands_at : goal.returns-then-stands_at
returns-then-stands_at c =
    let s = c.args.s.now in
    let steps = ap (λ (names : List Name). begins names s) c.in-Some.ensures.steps in
    let hit = begins_hit _ _ s (sym c.stands_at.ensures ∙ c.if-stands_at.true) in
    sym (c.loop-record.invariant.2 ∙ steps ∙ hit)

pub returns : goal.returns
returns c =
    let none = ap (λ (names : List Name). begins names c.args.s.now) c.in-None.ensures.steps.0 in
    sym (c.loop-record.invariant.2 ∙ none ∙ begins-none _)
