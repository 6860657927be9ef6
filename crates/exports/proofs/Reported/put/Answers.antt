-- All four numbers fit.
use mathlib.Core.List.{[], ◌∷◌}
use native.Mathlib.Omega.{arith}
use Rattle.rooms.proofs.Fits.{numbers_fit}
use Rattle.exports.proofs.Reported.put.Goals as goal

pub returns-clause-written : goal.returns-clause-written
returns-clause-written c =
    let r = c.args.self in
    (numbers_fit (r.answer ∷ r.text ∷ r.errors ∷ r.place ∷ []) (omega (arith, c.requires)) c.put_numbers.ensures).new_is
