-- The table of replacements as an array: what stands at its places, and the numbers before and after it.
use Prim.Native.Nat.{ℕ, zero, suc, ◌+◌, ◌-◌, ◌≤◌, ◌<◌}
use mathlib.Core.Path.{◌≡◌, refl, ◌∙◌, ap}
use mathlib.Core.List.{List, [], ◌∷◌}
use mathlib.Core.Bool.{true, and-eq-true_iff}
use mathlib.Core.Logic.{◌⊎◌, ⊎_elim}
use native.Mathlib.Omega.{arith}
use lib.ListN.{get_or}
use borrow.Author.Tests.{ne_eqb}
use Rattle.lists.specs.Notation.{between, every}
use Rattle.lists.proofs.Choice.{between_true}
use Rattle.standard.specs.Numbers.{replacements, replaced_by}

-- The values of a function at some numbers, one after the other.
unfoldable pub values : (ℕ → ℕ) → (count first : ℕ) → List ℕ
values f zero first = []
values f (suc count) first = f first ∷ values f count (suc first)

-- At each place stands the function's value.
value_at : (f : ℕ → ℕ) (count first i : ℕ) → i < count → get_or (values f count first) i 0 ≡ f (first + i)
unfolding values
value_at f zero first i h = absurd (omega arith)
value_at f (suc count) first zero h = ap f (omega arith)
value_at f (suc count) first (suc i) h = value_at f count (suc first) i (omega arith) ∙ ap f (omega arith)

-- The value at a number stands as far on as the number is from the first.
pub value_of : (f : ℕ → ℕ) (count first n : ℕ) → first ≤ n → n < first + count → get_or (values f count first) (n - first) 0 ≡ f n
value_of f count first n h k = value_at f count first (n - first) (omega arith) ∙ ap f (omega arith)

-- A number outside the range that the first column is in stays.
replaced_outside : (low high n : ℕ) (entries : List (ℕ × ℕ)) → every (λ entry. between low high entry.0) entries ≡ true → (n < low) ⊎ (high < n)
    → replaced_by entries n ≡ n
unfolding replaced_by
replaced_outside low high n [] e h = refl
replaced_outside low high n (entry ∷ entries) e h =
    let w = (and-eq-true_iff (between low high entry.0) (every (λ entry. between low high entry.0) entries)).0 e in
    let r = between_true low high entry.0 w.0 in
    rw (ne_eqb n entry.0 (λ q. ⊎_elim (λ k. omega arith) (λ k. omega arith) h)) (replaced_outside low high n entries w.1 h)

-- A number outside 80 to 9F stays.
pub outside_c1 : (n : ℕ) → (n < 0x80) ⊎ (0x9F < n) → replaced_by replacements n ≡ n
unfolding replacements
outside_c1 n h = replaced_outside 0x80 0x9F n replacements refl h
