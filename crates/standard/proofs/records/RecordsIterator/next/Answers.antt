use mathlib.Core.Path.{◌≡◌, refl, ◌∙◌, ap}
use mathlib.Core.List.{[], ◌∷◌}
use lib.ListN.{take, drop}
use borrow.Author.Rules.{rules}
use Rattle.lists.specs.Bytes.{word32}
use Rattle.standard.specs.Names.{name, records}
use Rattle.standard.proofs.Skips.{rest_from}
use Rattle.standard.proofs.Lookup.{records_none, records_cut, records_more}
use Rattle.standard.proofs.records.RecordsIterator.next.Goals as goal

pub returns-in_default-clause-steps : goal.returns-in_default-clause-steps
returns-in_default-clause-steps c =
    let none = records_none c.args.self.now.rest.now c.in_default.ensures.cases in
    (none, none)

pub returns-then-rest-length-clause-steps : goal.returns-then-rest-length-clause-steps
returns-then-rest-length-clause-steps c =
    (ap records c.in-Some.ensures.cases.0 ∙ records_cut _ _ c.if-rest-length.true, records_none [] refl)

pub returns-clause-steps : goal.returns-clause-steps
returns-clause-steps c =
    let word = c.split_at.result.0.now in
    let after = c.split_at.result.1.now in
    let more : records c.args.self.now.rest.now ≡ name word (word32 (take 8 after) 0) (word32 (take 8 after) 4) ∷ records (drop 8 after) =
    rw (c.split_at.ensures.front, c.split_at.ensures.back) (ap records c.in-Some.ensures.cases.0 ∙ records_more _ _ c.if-rest-length.false) in
    rw rest_from more

pub returns-clause-goes : goal.returns-clause-goes
returns-clause-goes c =
    let steps = returns-clause-steps c in
    record { on = λ _. rw steps (search rules); keeps = search rules; rests = search rules }
