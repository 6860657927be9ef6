-- The text of a reference of one or two characters.
use Prim.Native.Nat.{ℕ, ◌≤◌}
use mathlib.Core.Path.{◌≡◌, ap}
use mathlib.Core.List.{List, [], ◌∷◌, ◌++◌, append-nil}
use native.Mathlib.Omega.{arith}
use lib.ListN.{length, get_or, take}
use lib.Seq.{take_all}
use Rattle.standard.specs.Utf8.{encode}
use Rattle.standard.specs.Pieces.{encodes}

-- The text of the first of two characters.
pub encodes_one : (l : List ℕ) → length l ≡ 2 → encodes (take 1 l) ≡ encode (get_or l 0 0)
unfolding encodes
encodes_one [] e = absurd (omega arith)
encodes_one (a ∷ l) e = append-nil (encode a)

-- The text of both, where two or more are asked for.
pub encodes-both : (l : List ℕ) (n : ℕ) → length l ≡ 2 → 2 ≤ n → encodes (take n l) ≡ encode (get_or l 0 0) ++ encode (get_or l 1 0)
unfolding encodes
encodes-both [] n e h = absurd (omega arith)
encodes-both (a ∷ []) n e h = absurd (omega arith)
encodes-both (a ∷ b ∷ []) n e h = rw (take_all n (a ∷ b ∷ []) h) (ap (λ (t : List ℕ). encode a ++ t) (append-nil (encode b)))
encodes-both (a ∷ b ∷ c ∷ l) n e h = absurd (omega arith)
