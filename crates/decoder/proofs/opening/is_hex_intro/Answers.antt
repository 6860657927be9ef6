use Prim.Native.Char.{code}
use mathlib.Core.Path.{◌∙◌, ap, ap₂}
use mathlib.Core.List.{[], ◌∷◌}
use mathlib.Core.Bool.{◌||◌}
use lib.Dec.{eqb}
use lib.Pointwise.{pointwise}
use Rattle.decoder.proofs.Open.{pointwise-same}
use Rattle.decoder.proofs.opening.is_hex_intro.Goals as goal

pub returns : goal.returns
returns c =
    let s = c.args.store.now in
    ap₂ ◌||◌ (c.eq.ensures ∙ ap (pointwise eqb s) c.as_slice.ensures ∙ pointwise-same s (code "&" ∷ code "#" ∷ code "x" ∷ []))
    (c.eq-2.ensures ∙ ap (pointwise eqb s) c.as_slice-2.ensures ∙ pointwise-same s (code "&" ∷ code "#" ∷ code "X" ∷ []))
