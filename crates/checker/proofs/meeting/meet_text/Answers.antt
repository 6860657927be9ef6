use mathlib.Core.Path.{◌≡◌, sym, ◌∙◌}
use native.Mathlib.Omega.{arith}
use lib.ListN.{length}
use borrow.Author.Rules.{rules}
use Rattle.standard.proofs.References.{encodes-both}
use Rattle.checker.proofs.Meetings.{met_then}
use Rattle.checker.proofs.meeting.meet_text.Goals as goal

pub returns : goal.returns
returns c =
    let r = c.args.reference in
    let two : length r.chars ≡ 2 = search rules in
    rw (encodes-both r.chars r.num_chars two (omega arith))
    (met_then _ _ c.args.text.now c.args.at (sym c.meet_char-2.ensures ∙ c.in_ok-second.was) c.meet_char-3.ensures)
