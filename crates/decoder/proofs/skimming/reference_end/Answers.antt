use mathlib.Core.Path.{sym, ◌∙◌}
use native.Mathlib.Omega.{arith}
use Rattle.decoder.proofs.SkimLaws.{between_more, closes_at}
use Rattle.decoder.proofs.skimming.reference_end.Goals as goal

pub returns-then-b-eq59 : goal.returns-then-b-eq59
returns-then-b-eq59 c =
    let l = c.loop-at in
    closes_at c.args.rest.now l.at l.invariant.1 c.loop-at-test.true l.invariant.0 c.if-b-eq59.true

pub loop-at-preserved : goal.loop-at-preserved
loop-at-preserved c =
    let l = c.loop-at in
    let more = sym c.in_reference.ensures ∙ c.if-not-in_reference.false in
    (between_more c.args.rest.now l.at l.invariant.1 c.loop-at-test.true l.invariant.0 more, omega arith)
