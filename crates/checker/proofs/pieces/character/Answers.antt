use mathlib.Core.Path.{◌∙◌, ap}
use lib.ListN.{drop}
use Rattle.standard.specs.declared.characters.CharRead.{CharRead}
use Rattle.standard.specs.Pieces.{character, encodes}
use Rattle.standard.proofs.Skips.{rest_from}
use Rattle.checker.proofs.PieceLaws.{character-none}
use Rattle.checker.proofs.pieces.character.Goals as goal

pub returns-in_default : goal.returns-in_default
unfolding encodes
returns-in_default c =
    let a = c.args in
    let read = rw (rest_from a.s.now a.at) at c.read_char.ensures in
    character-none (drop a.at a.s.now) c.read_char.result c.in_default.not-Char
    ∙ ap (λ (r : CharRead). character r (drop a.at a.s.now)) read
