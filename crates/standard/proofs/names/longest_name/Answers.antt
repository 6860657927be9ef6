use Prim.Native.Nat.{ℕ}
use mathlib.Core.Path.{sym, ◌∙◌, ap}
use mathlib.Core.List.{List}
use Rattle.standard.specs.declared.names.Found.{Found}
use Rattle.standard.specs.declared.records.Records.{Records}
use Rattle.standard.specs.Names.{Name, found_of, found_where, longest_from, longest, records}
use Rattle.standard.proofs.Lookup.{found_back, longest-end, longest-more}
use Rattle.standard.proofs.names.longest_name.Goals as goal

pub loop-record-init : goal.loop-record-init
unfolding longest
loop-record-init c =
    let all = ap (λ (r : Records). r.rest.now) c.into_iter-record-iterator.ensures.into_iter_gives ∙ c.of-record-items.ensures in
    (tt, tt, ap (λ (t : List ℕ). longest (records t) c.args.s.now) (sym all), tt)

pub loop-record-preserved : goal.loop-record-preserved
loop-record-preserved c =
    let l = c.loop-record in
    let s = c.args.s.now in
    let steps = ap (λ (names : List Name). longest_from (found_of l.found) names s) c.in-Some.ensures.steps in
    let longer = ap (λ (f : Found). longest_from f (records c.next.new.self.rest.now) s) (sym c.longer_of-found.ensures.longer) in
    (tt, tt, l.invariant.2 ∙ steps ∙ longest-more _ _ _ _ ∙ longer, c.longer_of-found.ensures.some)

pub returns : goal.returns
returns c =
    let l = c.loop-record in
    let none = ap (λ (names : List Name). longest_from (found_of l.found) names c.args.s.now) c.in-None.ensures.steps.0 in
    found_back l.found l.invariant.3 ∙ ap found_where (sym (l.invariant.2 ∙ none ∙ longest-end _ _))
