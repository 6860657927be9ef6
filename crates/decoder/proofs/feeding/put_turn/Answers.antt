use native.Mathlib.Omega.{arith}
use Rattle.lists.proofs.Puts.{put_length}
use Rattle.decoder.proofs.Writing.{wrote_text, wrote-join}
use Rattle.decoder.proofs.Releasing.{rest_copied}
use Rattle.decoder.proofs.feeding.put_turn.Goals as goal

pub slice_bounds-copy-end : goal.slice_bounds-copy-end
slice_bounds-copy-end c =
    omega (arith, c.requires.1, c.requires.2)

pub put_piece-requires : goal.put_piece-requires
put_piece-requires c =
    let first = c.put_piece-next.ensures in
    let mid = put_length first.0.texts in
    let copied = rest_copied c.args.held c.args.released c.requires.2 c.requires.0 c.requires.1 (omega (arith, c.requires.3.0, first.1))
    c.copy.ensures in (
      omega (arith, c.requires.3.0, first.1, put_length copied.0, copied.1),
      omega (arith, c.requires.3.1, first.2, put_length first.0.numbers_of),
    )

pub returns : goal.returns
returns c =
    let first = c.put_piece-next.ensures in
    let mid = put_length first.0.texts in
    let copied = rest_copied c.args.held c.args.released c.requires.2 c.requires.0 c.requires.1 (omega (arith, c.requires.3.0, first.1))
    c.copy.ensures in
    let last = c.put_piece.ensures in (
      wrote-join (wrote-join first.0 (wrote_text _ _ copied.0)) last.0,
      (omega (arith, first.1, copied.1, last.1), omega (arith, first.2, last.2)),
    )
