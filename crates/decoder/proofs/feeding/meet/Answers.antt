use Rattle.decoder.proofs.Releasing.{fit_count, fit_long, wrote_as}
use Rattle.decoder.proofs.feeding.meet.Goals as goal

pub put_turn-requires : goal.put_turn-requires
put_turn-requires c =
    let t = c.step-turn.ensures in
    (t.within, fit_count c.args.held c.requires.0, fit_long c.args.held c.requires.0, c.requires.1)

pub returns : goal.returns
returns c =
    let t = c.step-turn.ensures in
    let p = c.put_turn.ensures in
    (t.next, wrote_as t.gives p.0, p.1)
