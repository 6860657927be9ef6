use mathlib.Core.Path.{sym, ◌∙◌, ap}
use native.Mathlib.Omega.{arith}
use Rattle.decoder.specs.Pieces.{piece_of}
use Rattle.standard.proofs.FrontPiece.{digits_there}
use Rattle.decoder.proofs.NumberLaws.{digits_absent, digits_closed, digits_open}
use Rattle.decoder.proofs.pieces.numeric_from.Goals as goal

pub returns-then-end-from : goal.returns-then-end-from
returns-then-end-from c =
    let a = c.args in
    ap piece_of c.one.ensures
    ∙ digits_absent a.base a.intro a.from _ a.rest.now c.do_numeric-digits.ensures.0 c.if-end-from.true

pub overflow_add-size : goal.overflow_add-size
overflow_add-size c =
    let a = c.args in
    omega (arith, digits_there a.base a.intro a.from _ a.rest.now c.do_numeric-digits.ensures.0 (omega arith))

pub overflow_add-size-then-next_is : goal.overflow_add-size-then-next_is
overflow_add-size-then-next_is c =
    let a = c.args in
    let e = c.do_numeric-digits.ensures.0 in
    omega (arith, digits_there a.base a.intro a.from _ a.rest.now e (omega arith))

pub returns-then-next_is : goal.returns-then-next_is
returns-then-next_is c =
    let a = c.args in
    let m = c.finish_numeric-meant.ensures in
    ap piece_of c.one-then-next_is.ensures
    ∙ digits_closed a.base a.intro a.from _ a.rest.now c.do_numeric-digits.ensures.0 _ c.if-end-from.false
    c.do_numeric-digits.ensures.1 (sym c.next_is.ensures ∙ c.if-next_is.true) m.0 m.1

pub returns : goal.returns
returns c =
    let a = c.args in
    let m = c.finish_numeric-meant.ensures in
    ap piece_of c.one-2.ensures
    ∙ digits_open a.base a.intro a.from _ a.rest.now c.do_numeric-digits.ensures.0 _ c.if-end-from.false
    c.do_numeric-digits.ensures.1 (sym c.next_is.ensures ∙ c.if-next_is.false) m.0 m.1
