use mathlib.Core.Path.{◌∙◌, ap}
use Rattle.standard.specs.Reading.{reading_at, ◌⊕◌}
use Rattle.decoder.specs.declared.pieces.Piece.{Piece}
use Rattle.decoder.specs.Pieces.{piece_of}
use Rattle.decoder.specs.Turns.{released_of}
use Rattle.decoder.proofs.Releasing.{fit_count, fit_long, none-gives, wrote_as}
use Rattle.decoder.proofs.feeding.put_last.Goals as goal

pub put_turn-requires : goal.put_turn-requires
put_turn-requires c = (
  c.finish-released.ensures.within,
  fit_count c.args.held c.requires.0,
  fit_long c.args.held c.requires.0,
  c.requires.1,
)

pub returns : goal.returns
returns c =
    let f = c.finish-released in
    let a = c.args in
    let p = c.put_turn.ensures in (
      wrote_as
          (ap (λ (own : Piece). released_of a.held f.result ⊕ reading_at 0 (piece_of own))
          c.none.ensures
          ∙ none-gives 0 0 (released_of a.held f.result) ∙ f.ensures.gives)
          p.0,
      p.1,
    )
