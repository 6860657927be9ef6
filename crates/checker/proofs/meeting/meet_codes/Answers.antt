use Prim.Native.Nat.{ℕ}
use mathlib.Core.Path.{◌≡◌, refl, sym, ◌∙◌}
use mathlib.Core.List.{List, ◌++◌}
use mathlib.Core.Bool.{Bool, true, false}
use Rattle.standard.specs.Errors.{listed, placed, numbers}
use Rattle.lists.proofs.Choice.{no_way}
use Rattle.checker.specs.Pieces.{codes_of}
use Rattle.checker.proofs.Meetings.{met_then, met_over, met-within}
use Rattle.checker.proofs.meeting.meet_codes.Goals as goal

-- The errors of a code at a place, as numbers.
abbrev coded : (place code : ℕ) → List ℕ
coded place code = numbers (placed place (listed code))

-- That of a missing `;` comes first.
codes-unclosed : (unclosed : Bool) (code place : ℕ) → unclosed ≡ true
    → numbers (placed place (codes_of unclosed code)) ≡ coded place 2 ++ coded place code
unfolding placed numbers
codes-unclosed true code place e = refl
codes-unclosed false code place e = no_way (sym e)

codes-closed : (unclosed : Bool) (code place : ℕ) → unclosed ≡ false → numbers (placed place (codes_of unclosed code)) ≡ coded place code
codes-closed true code place e = no_way e
codes-closed false code place e = refl

pub returns-then-not-unclosed : goal.returns-then-not-unclosed
returns-then-not-unclosed g c =
    let a = c.args in rw (codes-closed a.unclosed a.code a.place c.if-not-unclosed.true) c.meet_code.ensures

pub returns-in_err-second : goal.returns-in_err-second
returns-in_err-second g c =
    let a = c.args in
    rw (codes-unclosed a.unclosed a.code a.place c.if-not-unclosed.false)
    (c.from_residual.ensures
    ∙ met_over (coded a.place 2) (coded a.place a.code) (g.N.Numbers.list a.errors) a.at (sym c.meet_code-2.ensures ∙ c.in_err-second.was))

pub meet_code-requires-3 : goal.meet_code-requires-3
meet_code-requires-3 g c =
    let a = c.args in
    (met-within (coded a.place 2) (g.N.Numbers.list a.errors) a.at c.requires (sym c.meet_code-2.ensures ∙ c.in_ok-second.was)).1

pub returns : goal.returns
returns g c =
    let a = c.args in
    rw (codes-unclosed a.unclosed a.code a.place c.if-not-unclosed.false)
    (met_then (coded a.place 2) (coded a.place a.code) (g.N.Numbers.list a.errors) a.at (sym c.meet_code-2.ensures ∙ c.in_ok-second.was)
    c.meet_code-3.ensures)
