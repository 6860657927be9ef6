use mathlib.Core.Path.{sym, ◌∙◌, ap}
use native.Mathlib.Omega.{arith}
use Rattle.decoder.specs.Pieces.{piece_of}
use Rattle.standard.proofs.Skips.{rest_from}
use Rattle.standard.proofs.FrontPiece.{first_reference, first_character}
use Rattle.decoder.proofs.PieceLaws.{front_newline}
use Rattle.decoder.proofs.pieces.piece_at.Goals as goal

pub returns-in-13 : goal.returns-in-13
returns-in-13 c =
    let s = c.args.rest.now in
    ap piece_of (rw (rest_from s 1) at c.newline.ensures) ∙ front_newline _ _ s (omega arith) c.in-13.is

pub returns-in-38 : goal.returns-in-38
returns-in-38 c =
    let s = c.args.rest.now in
    rw (rest_from s 1) at c.reference.ensures ∙ sym (first_reference _ _ s (omega arith) c.in-38.is)

pub returns-in_default : goal.returns-in_default
returns-in_default c = c.character.ensures ∙ sym (first_character _ _ _ (omega arith) (λ e. omega (arith, e)) (λ e. omega (arith, e)))
