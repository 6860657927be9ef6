use Prim.Native.Nat.{◌<◌}
use native.Mathlib.Omega.{arith}
use lib.ListN.{length}
use Rattle.lists.proofs.Puts.{put_length}
use Rattle.decoder.proofs.SkimLaws.{run_length}
use Rattle.decoder.proofs.Walk.{piece_there, advances_run, advances_piece}
use Rattle.decoder.proofs.whole.decode_next.Goals as goal

pub returns-then-from-s : goal.returns-then-from-s
returns-then-from-s c =
    let run = c.copy_run-run.ensures in
    advances_run run.0 run.1 c.args.errors.now c.args.ends.errors (omega (arith, c.requires.1))

pub overflow_add-result : goal.overflow_add-result
overflow_add-result c =
    let run = c.copy_run-run in
    let q = c.piece_at-piece in
    let more : run.result.at < length c.args.s.now = omega (arith, run.ensures.0.there) in
    omega (arith, c.requires.0, (piece_there c.args.context c.args.s.now run.result.at q.result q.ensures more).1)

pub put_piece-requires : goal.put_piece-requires
put_piece-requires c =
    let run = c.copy_run-run.ensures in
    (omega (arith, c.requires.2, run_length run.0, run.1.next_is, put_length run.1), omega (arith, c.requires.3))

pub returns : goal.returns
returns c =
    let run = c.copy_run-run in
    let q = c.piece_at-piece in
    let p = c.put_piece.ensures in
    let more : run.result.at < length c.args.s.now = omega (arith, run.ensures.0.there, c.if-from-s.false) in
    advances_piece run.ensures.0 run.ensures.1 q.result q.ensures more p.0 p.2
