use mathlib.Core.Path.{sym, ◌∙◌}
use Rattle.decoder.proofs.SkimLaws.{stands-alone, ampersand-first}
use Rattle.decoder.proofs.skimming.alone.Goals as goal

pub closed-requires : goal.closed-requires
closed-requires c = ampersand-first c.args.rest.now _ _ (sym c.read_char.ensures ∙ c.in-Char.is) c.if-value-eq38.true

pub returns : goal.returns
returns c =
    let read = sym c.read_char.ensures ∙ c.in-Char.is in
    let calls = sym c.calls_for.ensures ∙ c.if-calls_for-ne0.false in
    stands-alone read calls c.if-value-eq13.false c.if-value-eq38.false c.character_code.ensures c.one.ensures
