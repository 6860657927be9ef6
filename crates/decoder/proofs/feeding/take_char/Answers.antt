use mathlib.Core.Path.{sym, ◌∙◌}
use native.Mathlib.Omega.{arith}
use Rattle.decoder.proofs.Releasing.{open_fit, part_long, char_stops, char_goes}
use Rattle.decoder.proofs.feeding.take_char.Goals as goal

pub put_stop-requires : goal.put_stop-requires
put_stop-requires c =
    (open_fit c.args.«record» c.requires.0, c.requires.2)

pub returns-then-answer-ne0 : goal.returns-then-answer-ne0
returns-then-answer-ne0 c =
    let p = c.put_stop.ensures in (
      char_stops c.args.«record» c.requires.0 c.args.c
          c.calls_for-answer.ensures
          c.if-answer-ne0.true p.0,
      p.1,
    )

pub overflow_cast-p : goal.overflow_cast-p
overflow_cast-p c = omega (arith, part_long c.args.«record» c.requires.0)

pub overflow_sub-p : goal.overflow_sub-p
overflow_sub-p c = omega (arith, part_long c.args.«record» c.requires.0)

pub meet-met-requires : goal.meet-met-requires
meet-met-requires c =
    (open_fit c.args.«record» c.requires.0, c.requires.2)

pub overflow_add-result : goal.overflow_add-result
overflow_add-result c =
    omega (arith, c.requires.1)

pub returns : goal.returns
returns c =
    let m = c.meet-met.ensures in (
      char_goes c.args.«record» c.requires.0 c.args.c (sym
          c.calls_for-answer.ensures
          ∙ c.if-answer-ne0.false) m.0 m.1,
      m.2,
    )
