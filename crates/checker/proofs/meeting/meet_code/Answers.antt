use mathlib.Core.Path.{sym, ◌∙◌}
use mathlib.Core.List.{[], ◌∷◌}
use borrow.Author.Tests.{ne_eqb}
use Rattle.standard.specs.Errors.{placed, numbers}
use Rattle.checker.proofs.Meetings.{met_then, met_over}
use Rattle.checker.proofs.meeting.meet_code.Goals as goal

pub returns-in_err-second : goal.returns-in_err-second
unfolding placed numbers
returns-in_err-second g c =
    let a = c.args in
    rw (ne_eqb a.code 0 c.if-code-eq0.false)
    (c.from_residual.ensures
    ∙ met_over (a.code ∷ []) (a.place ∷ []) (g.N.Numbers.list a.errors) a.at (sym c.meet_number.ensures ∙ c.in_err-second.was))

pub returns : goal.returns
unfolding placed numbers
returns g c =
    let a = c.args in
    rw (ne_eqb a.code 0 c.if-code-eq0.false)
    (met_then (a.code ∷ []) (a.place ∷ []) (g.N.Numbers.list a.errors) a.at (sym c.meet_number.ensures ∙ c.in_ok-second.was)
    c.meet_number-2.ensures)
