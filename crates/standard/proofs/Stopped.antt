-- A number that stops at 0x110000, the first past the last code point, says and means what the exact one does.
use Prim.Native.Nat.{ℕ, zero, suc, ◌+◌, ◌*◌, ◌≤◌, ◌<◌, min}
use mathlib.Core.Path.{◌≡◌, sym, ◌∙◌, ap}
use mathlib.Core.List.{List, [], ◌∷◌}
use mathlib.Core.Logic.{⊎_elim}
use native.Mathlib.Nat.{mul-zero, mul-suc}
use native.Mathlib.Omega.{arith}
use Rattle.lists.proofs.Choice.{below?}
use Rattle.standard.specs.Numbers.{digit_of, number_from, meaning_of}
use Rattle.standard.proofs.Meanings.{meaning_outside}

-- One digit more.
add-stopped : (base v d : ℕ) → min (min v 0x110000 * base + d) 0x110000 ≡ min (v * base + d) 0x110000
add-stopped zero v d = rw (mul-zero (min v 0x110000), mul-zero v)
add-stopped (suc base) v d =
    ⊎_elim (λ (h : v < 0x110000). ap (λ (x : ℕ). min (x * suc base + d) 0x110000) (let e : min v 0x110000 ≡ v = omega arith in e))
    (λ (h : 0x110000 ≤ v). rw (mul-suc (min v 0x110000) base, mul-suc v base) (omega arith)) (below? v 0x110000)

-- Digits after a number that stopped.
pub number-stopped : (base v : ℕ) (s : List ℕ) → min (number_from base (min v 0x110000) s) 0x110000 ≡ min (number_from base v s) 0x110000
unfolding number_from
number-stopped base v [] = omega arith
number-stopped base v (c ∷ s) =
    sym (number-stopped base (min v 0x110000 * base + digit_of c) s)
    ∙ ap (λ (x : ℕ). min (number_from base x s) 0x110000) (add-stopped base v (digit_of c))
    ∙ number-stopped base (v * base + digit_of c) s

-- A number that stopped means what the exact one means.
pub meaning_stopped : (n : ℕ) → meaning_of (min n 0x110000) ≡ meaning_of n
meaning_stopped n =
    ⊎_elim (λ (h : n < 0x110000). ap meaning_of (omega arith))
    (λ (h : 0x110000 ≤ n). meaning_outside (min n 0x110000) (omega arith) ∙ sym (meaning_outside n (omega arith))) (below? n 0x110000)

-- So does a number whose digits go on after it stopped.
pub meaning_from : (base v : ℕ) (s : List ℕ) → meaning_of (number_from base (min v 0x110000) s) ≡ meaning_of (number_from base v s)
meaning_from base v s =
    sym (meaning_stopped (number_from base (min v 0x110000) s)) ∙ ap meaning_of (number-stopped base v s)
    ∙ meaning_stopped (number_from base v s)
