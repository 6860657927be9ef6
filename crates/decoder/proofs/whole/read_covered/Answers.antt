use Prim.Native.Nat.{ℕ, ◌≤◌, ◌<◌}
use mathlib.Core.Path.{◌≡◌}
use native.Mathlib.Omega.{arith}
use Rattle.decoder.proofs.Answering.{reads_of, wrote-few, counted-few}
use Rattle.decoder.proofs.whole.read_covered.Goals as goal

-- What is at most 65,536 fits a number of the code.
below_word : {n m : ℕ} → n ≡ m → m ≤ 65536 → n < 4294967296
below_word e h = omega arith

pub overflow_cast-result : goal.overflow_cast-result
overflow_cast-result g c =
    omega (arith, wrote-few g.met.T.Laid.laying c.args.context c.args.s.now c.requires.0 c.decode_pieces-ends.ensures)

pub overflow_cast-result-2 : goal.overflow_cast-result-2
overflow_cast-result-2 g c =
    let few = wrote-few g.met.T.Laid.laying c.args.context c.args.s.now c.requires.0 c.decode_pieces-ends.ensures in
    record { fits = below_word (counted-few g.met.T.Laid.some c.EACH.ensures few.1) few.2 }

pub end_named-requires : goal.end_named-requires
end_named-requires g c = c.requires.0

pub returns : goal.returns
returns g c =
    let w = c.decode_pieces-ends.ensures in
    let few = wrote-few g.met.T.Laid.laying c.args.context c.args.s.now c.requires.0 w in
    reads_of _ (counted-few g.met.T.Laid.some c.EACH.ensures few.1) c.end_named.ensures w
