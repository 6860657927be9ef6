-- character_code is what the definition of that name says: each test of the code is the next test of the definition.
use mathlib.Core.Path.{sym, ◌∙◌}
use borrow.Author.Tests.{eq-eqb, ne_eqb}
use Rattle.standard.specs.Classes.{character_code}
use Rattle.decoder.proofs.classes.character_code.Goals as goal

pub returns-then-noncharacter : goal.returns-then-noncharacter
unfolding character_code
returns-then-noncharacter c = rw (sym c.noncharacter.ensures ∙ c.if-noncharacter.true)

pub returns-then-not-control : goal.returns-then-not-control
unfolding character_code
returns-then-not-control c =
    rw (sym c.noncharacter.ensures ∙ c.if-noncharacter.false, sym c.control.ensures ∙ c.if-not-control.true)

pub returns-then-whitespace : goal.returns-then-whitespace
unfolding character_code
returns-then-whitespace c =
    rw (sym c.noncharacter.ensures ∙ c.if-noncharacter.false, sym c.control.ensures ∙ c.if-not-control.false)
    (rw (sym c.whitespace.ensures ∙ c.if-whitespace.true))

pub returns-then-c-eq0 : goal.returns-then-c-eq0
unfolding character_code
returns-then-c-eq0 c =
    rw (sym c.noncharacter.ensures ∙ c.if-noncharacter.false, sym c.control.ensures ∙ c.if-not-control.false)
    (rw (sym c.whitespace.ensures ∙ c.if-whitespace.false, eq-eqb _ 0 c.if-c-eq0.true))

pub returns : goal.returns
unfolding character_code
returns c =
    rw (sym c.noncharacter.ensures ∙ c.if-noncharacter.false, sym c.control.ensures ∙ c.if-not-control.false)
    (rw (sym c.whitespace.ensures ∙ c.if-whitespace.false, ne_eqb _ 0 c.if-c-eq0.false))
