-- How an input starts: what `strip_prefix` asks is what the definition does.
use Prim.Native.Nat.{ℕ}
use mathlib.Core.Path.{◌≡◌, refl, sym}
use mathlib.Core.List.{List, [], ◌∷◌}
use mathlib.Core.Bool.{Bool, true, false}
use lib.Dec.{eqb}
use lib.ListN.{length, take}
use lib.Pointwise.{pointwise}
use borrow.Author.Tests.{eq-eqb, ne_eqb, eqb-true, eqb-false}
use Rattle.standard.specs.Names.{stands}

-- Two numbers are compared either way.
swapped : (a b : ℕ) (t : Bool) → eqb a b ≡ t → eqb b a ≡ t
swapped a b true e = eq-eqb b a (sym (eqb-true a b e))
swapped a b false e = ne_eqb b a (λ k. eqb-false a b e (sym k))

-- What `strip_prefix` asks.
abbrev pub begins_with : List ℕ → List ℕ → Bool
begins_with word s = pointwise eqb (take (length word) s) word

pub stands_prefix : (word s : List ℕ) → stands word s ≡ begins_with word s
unfolding stands
stands_prefix [] s = refl
stands_prefix (a ∷ word) [] = refl
stands_prefix (a ∷ word) (b ∷ s) = rw (swapped a b (eqb a b) refl, stands_prefix word s)
