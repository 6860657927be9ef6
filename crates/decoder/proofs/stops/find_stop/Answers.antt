use native.Mathlib.Omega.{arith}
use Rattle.standard.specs.Contexts.{end_byte}
use Rattle.standard.specs.Answers.{done}
use Rattle.standard.proofs.Stops.{ascii-calls}
use Rattle.standard.proofs.Looking.{looking_start, looking_run, looking_end}
use Rattle.standard.proofs.Stopping.{stop_is, turn_other, turn_called, turn_none, turn_size}
use Rattle.runs.specs.Kinds.{ordinary}
use Rattle.decoder.proofs.stops.find_stop.Goals as goal

pub loop-context-init : goal.loop-context-init
loop-context-init c = looking_start

pub returns-then-s-from : goal.returns-then-s-from
returns-then-s-from c =
    let passed = looking_run c.loop-context.invariant (ordinary (end_byte c.args.context)) (ascii-calls c.args.context)
    (rw c.end_of.ensures at c.ordinary_end-from.ensures) in
    stop_is done _ (looking_end passed c.if-s-from.true)

pub returns-in_default : goal.returns-in_default
returns-in_default c =
    let passed = looking_run c.loop-context.invariant (ordinary (end_byte c.args.context)) (ascii-calls c.args.context)
    (rw c.end_of.ensures at c.ordinary_end-from.ensures) in
    turn_other passed c.if-s-from.false c.read_char.ensures c.in_default.not-Char

pub returns-then-answer-ne0 : goal.returns-then-answer-ne0
returns-then-answer-ne0 c =
    let passed = looking_run c.loop-context.invariant (ordinary (end_byte c.args.context)) (ascii-calls c.args.context)
    (rw c.end_of.ensures at c.ordinary_end-from.ensures) in
    turn_called passed c.if-s-from.false c.read_char.ensures c.in-Char.is c.calls_for-answer.ensures c.if-answer-ne0.true

pub loop-context-preserved : goal.loop-context-preserved
loop-context-preserved c =
    let passed = looking_run c.loop-context.invariant (ordinary (end_byte c.args.context)) (ascii-calls c.args.context)
    (rw c.end_of.ensures at c.ordinary_end-from.ensures) in
    turn_none passed c.if-s-from.false c.read_char.ensures c.in-Char.is c.calls_for-answer.ensures c.if-answer-ne0.false

pub overflow_add-at : goal.overflow_add-at
overflow_add-at c = omega (arith, (loop-context-preserved c).there)

pub loop-context-smaller : goal.loop-context-smaller
loop-context-smaller c =
    let passed = looking_run c.loop-context.invariant (ordinary (end_byte c.args.context)) (ascii-calls c.args.context)
    (rw c.end_of.ensures at c.ordinary_end-from.ensures) in
    omega (
      arith,
      (loop-context-preserved c).there,
      c.ordinary_end-from.ensures,
      turn_size passed c.if-s-from.false c.read_char.ensures c.in-Char.is c.calls_for-answer.ensures,
    )
