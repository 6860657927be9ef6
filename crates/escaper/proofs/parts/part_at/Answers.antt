use mathlib.Core.List.{append-nil}
use borrow.Author.Rules.{rules}
use Rattle.escaper.proofs.Walking.{run_passed, special_passed, moves_join}
use Rattle.escaper.proofs.parts.part_at.Goals as goal

pub slice_bounds-run-end : goal.slice_bounds-run-end
slice_bounds-run-end c =
    let there = (run_passed c.requires.sound c.quote_of.ensures c.quiet_end-end.ensures).0.sound.there in search rules

pub returns-then-s-end-clause-moves : goal.returns-then-s-end-clause-moves
returns-then-s-end-clause-moves c =
    let run = run_passed c.requires.sound c.quote_of.ensures c.quiet_end-end.ensures in
    rw append-nil run.0

pub slice_bounds-text_of-end : goal.slice_bounds-text_of-end
slice_bounds-text_of-end c =
    let run = run_passed c.requires.sound c.quote_of.ensures c.quiet_end-end.ensures in
    let passed = special_passed run c.if-s-end.false c.special_at-special.ensures c.source_length.ensures in
    let there = passed.0.sound.there in search rules

pub returns-clause-moves : goal.returns-clause-moves
returns-clause-moves c =
    let run = run_passed c.requires.sound c.quote_of.ensures c.quiet_end-end.ensures in
    let passed = special_passed run c.if-s-end.false c.special_at-special.ensures c.source_length.ensures in
    moves_join run.0 (rw c.text_of.ensures passed.0)
