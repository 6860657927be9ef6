-- The two ways in which numbers are laid into a room: as they are, and as bytes.
use Prim.Native.Nat.{ℕ, ◌*◌}
use mathlib.Core.Path.{◌≡◌, refl}
use mathlib.Core.List.{List, [], ◌∷◌, ◌++◌}
use native.Mathlib.Omega.{arith}
use lib.ListN.{length}
use Rattle.lists.specs.Bytes.{plainly, fours}
use Rattle.lists.specs.Layings.{Laying}

pub laid-plainly : Laying 1 plainly
laid-plainly = record { none = refl; join = λ a b. refl; long = λ a. omega arith }

pub laid-fours : Laying 4 fours
unfolding fours
laid-fours = record { none = refl; join = join; long = long }
  where
    join : (a b : List ℕ) → fours (a ++ b) ≡ fours a ++ fours b
    join [] b = refl
    join (n ∷ a) b = rw (join a b)

    long : (a : List ℕ) → length (fours a) ≡ 4 * length a
    long [] = refl
    long (n ∷ a) = omega (arith, long a)
