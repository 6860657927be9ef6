-- Laws of a block of a list that is taken into an array, element by element.
use Prim.Native.Nat.{ℕ, ◌+◌, ◌<◌}
use mathlib.Core.Path.{◌≡◌}
use mathlib.Core.List.{List, [], ◌∷◌, ◌++◌}
use native.Mathlib.Omega.{arith}
use native.Mathlib.Numerals.{add-one}
use lib.ListN.{length, get_or, take, drop, set, length-drop}
use lib.Seq.{take-suc, take-suc-set, get_or-drop}

-- The first i + 1 elements from `at` on are the first i and the next.
take_more : (s : List ℕ) (at i : ℕ) → at + i < length s → take (i + 1) (drop at s) ≡ take i (drop at s) ++ get_or s (at + i) 0 ∷ []
take_more s at i there =
    let h : i < length (drop at s) = simp length-drop (omega arith) in rw (add-one i, take-suc (drop at s) i 0 h, get_or-drop at s i 0)

-- An array that has the first i elements from `at` on has the next too once that is stored.
pub taken_more : (l s : List ℕ) (at i : ℕ) → i < length l → at + i < length s → take i l ≡ take i (drop at s)
    → take (i + 1) (set l i (get_or s (at + i) 0)) ≡ take (i + 1) (drop at s)
taken_more l s at i h there e = rw (take_more s at i there, add-one i, take-suc-set l i (get_or s (at + i) 0) h, e)
