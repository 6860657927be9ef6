-- Laws of joined readings, and of the numbers of their errors.
use Prim.Native.Nat.{ℕ, ◌+◌}
use mathlib.Core.Path.{◌≡◌, refl, ap}
use mathlib.Core.List.{List, [], ◌∷◌, ◌++◌, append_assoc, append-nil}
use native.Mathlib.Omega.{arith}
use lib.ListN.{length}
use Rattle.standard.specs.Errors.{Error, numbers}
use Rattle.standard.specs.Reading.{Reading, reading, ◌⊕◌}

-- The numbers of joined errors are joined numbers.
pub numbers-append : (a b : List Error) → numbers (a ++ b) ≡ numbers a ++ numbers b
unfolding numbers
numbers-append [] b = refl
numbers-append (e ∷ a) b = ap (λ (l : List ℕ). e.code ∷ e.place ∷ l) (numbers-append a b)

-- Each error is two numbers.
pub numbers-length : (a : List Error) → length (numbers a) ≡ length a + length a
unfolding numbers
numbers-length [] = refl
numbers-length (e ∷ a) = omega (arith, numbers-length a)

-- Joining readings is associative.
pub ⊕-assoc : (a b c : Reading) → (a ⊕ b) ⊕ c ≡ a ⊕ (b ⊕ c)
⊕-assoc a b c = λ i. reading (append_assoc a.text b.text c.text i) (append_assoc a.errors b.errors c.errors i)

-- Nothing after a reading changes nothing.
pub ⊕-none : (a : Reading) → a ⊕ reading [] [] ≡ a
⊕-none a = λ i. reading (append-nil a.text i) (append-nil a.errors i)
