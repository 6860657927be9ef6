use mathlib.Core.Path.{◌≡◌, sym, ◌∙◌}
use native.Mathlib.Omega.{arith}
use lib.ListN.{get_or}
use Rattle.decoder.proofs.Open.{name-some}
use Rattle.decoder.proofs.opening.is_named.Goals as goal

pub returns-in-38 : goal.returns-in-38
returns-in-38 c =
    let s = c.args.store.now in
    let ampersand : get_or s 0 0 ≡ 38 = omega arith in
    sym (name-some s (omega arith) ∙ rw (c.begins_name.ensures, ampersand))
