use mathlib.Core.Path.{◌≡◌, sym, ◌∙◌}
use Prim.Native.Nat.{◌-◌}
use lib.ListN.{length, drop}
use mathlib.Core.List.{List}
use Prim.Native.Nat.{ℕ}
use Rattle.checker.specs.Meeting.{met_on}
use Rattle.checker.proofs.SpanLaws.{alike_part}
use native.Mathlib.Omega.{arith}
use Rattle.standard.specs.Pieces.{char_ref_text}
use Rattle.standard.specs.Errors.{placed, numbers}
use Rattle.checker.specs.Pieces.{codes_of, piece_of}
use Rattle.checker.proofs.Walking.{walk-run, piece_there, walk_goes_on, walked, met_from, met_nowhere}
use Rattle.checker.proofs.rows.meet_pieces.Goals as goal
use Rattle.checker.proofs.rows.meet_pieces.Goals.{in-Some+else-run-ne0, in_default, in-Some-text, in_default-text, in-Some-errors, in_default-errors}

pub loop-at-preserved-then-run-ne0 : goal.loop-at-preserved-then-run-ne0
loop-at-preserved-then-run-ne0 g c =
    let s = c.args.source.now.covered.now in
    let text = c.args.transcript.now.text.now in
    let run = c.alike_front-run.ensures in
    walk-run (rw c.in-Some.is at c.loop-at.invariant) c.alike_front-run.result (omega (arith, run.source)) (omega (arith, run.source))
    (omega (arith, run.text))
    (alike_part (drop c.loop-at.at s) (drop c.in-Some.t text) (c.args.end - c.loop-at.at) (length text - c.in-Some.t) _ (omega (arith, run.source))
    (omega (arith, run.text)) run.each)

pub overflow_add-at-in-loop-at : goal.overflow_add-at-in-loop-at
overflow_add-at-in-loop-at g c =
    omega (arith, piece_there c.loop-at.invariant c.loop-at-test.true (omega arith) (piece_of c.piece_at-piece.result) c.piece_at-piece.ensures)

pub loop-at-smaller : goal.loop-at-smaller
loop-at-smaller g c =
    omega (arith, piece_there c.loop-at.invariant c.loop-at-test.true (omega arith) (piece_of c.piece_at-piece.result) c.piece_at-piece.ensures)

pub loop-at-preserved : goal.loop-at-preserved
loop-at-preserved g c =
    let p = c.piece_at-piece.result in
    let words : List ℕ = char_ref_text p.reference in
    let codes : List ℕ = numbers (placed c.loop-at.at (codes_of p.unclosed p.code)) in
    let same : c.match-text.text ≡ c.loop-at.text =
    elim c.match-text.branch [ in-Some+else-run-ne0 w ↦ w.text-is ∙ sym w.in-Some.is | in_default w ↦ w.text-is ] in
    let text_is : c.match-text-2.text ≡ met_on words c.args.transcript.now.text.now c.match-text.text =
    elim c.match-text-2.branch [
      | in-Some-text w ↦ met_from words _ w.in-Some-text.is (w.text-is ∙ w.meet_text-text.ensures)
      | in_default-text w ↦ met_nowhere words _ _ w.in_default-text.not-Some w.text-is
    ] in
    let errors_is : c.match-errors.errors ≡ met_on codes (g.N.Numbers.list c.args.transcript.now.errors) c.loop-at.errors =
    elim c.match-errors.branch [
      | in-Some-errors w ↦ met_from codes _ w.in-Some-errors.is (w.errors-is ∙ w.meet_codes-errors.ensures)
      | in_default-errors w ↦ met_nowhere codes _ _ w.in_default-errors.not-Some w.errors-is
    ] in
    walk_goes_on c.loop-at.invariant c.loop-at-test.true (omega arith) (piece_of p) c.piece_at-piece.ensures (rw same at text_is) errors_is

pub returns : goal.returns
returns g c = walked c.loop-at.invariant (omega arith)
