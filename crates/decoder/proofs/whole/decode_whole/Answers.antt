use Prim.Native.Nat.{ℕ, ◌/◌}
use mathlib.Core.Path.{◌≡◌, subst}
use native.Mathlib.Omega.{arith}
use lib.ListN.{length}
use Rattle.lists.specs.Bytes.{plainly}
use Rattle.decoder.specs.Whole.{DecodesBy}
use Rattle.decoder.proofs.whole.decode_whole.Goals as goal

pub returns : goal.returns
returns c =
    let a = c.args in
    let words : length a.errors.now / 1 ≡ length a.errors.now = omega arith in
    subst (λ (room : ℕ). DecodesBy plainly room a.context a.source.now a.text.now a.errors.now c.decode.result c.decode.new.text c.decode.new.errors)
    words c.decode.ensures
