-- Laws of a choice by a test, and of tests on numbers and lengths.
use Rattle.std.specs.Prelude.{if◌then◌else◌}
use Prim.Native.Nat.{ℕ, ◌≤◌, ◌<◌}
use mathlib.Core.Path.{◌≡◌, refl, subst}
use mathlib.Core.List.{List, []}
use mathlib.Core.Bool.{Bool, true, false, ◌&&◌, ◌||◌, and-eq-true_iff}
use mathlib.Core.Logic.{◌⊎◌, inl, inr, ⊎_elim, ⊎_map}
use native.Mathlib.Omega.{arith}
use lib.Dec.{T, ltb, leb, eqb}
use lib.ListN.{length, drop_of_length-le}
use borrow.Author.Tests.{le-leb, lt-leb, ltb-true, ltb-false, leb-true, leb-false, eqb-true, eqb-false}
use Rattle.lists.specs.Notation.{between}

-- What omega reads tests of numbers by: ltb is a leb.
pub ruleset facts = (arith, leb-true, leb-false, eqb-true, eqb-false)

-- What holds of each arm where the test chooses it holds of the choice.
pub if_both {ℓ} : {A : Type 0} (P : A → Type ℓ) (t : Bool) (a b : A) → (t ≡ true → P a) → (t ≡ false → P b) → P (if t then a else b)
if_both P true a b f g = f refl
if_both P false a b f g = g refl

-- A test does not both hold and fail.
pub no_way {ℓ} : {A : Type ℓ} → true ≡ false → A
no_way e = absurd (subst T e tt)

-- A test holds or fails.
pub test? : (t : Bool) → (t ≡ true) ⊎ (t ≡ false)
test? true = inl refl
test? false = inr refl

-- Two numbers are the same, or they are not.
pub same? : (a b : ℕ) → (a ≡ b) ⊎ (a ≡ b → ⊥)
same? a b = ⊎_map (eqb-true a b) (eqb-false a b) (test? (eqb a b))

-- One number is below the other, or it is not.
pub below? : (a b : ℕ) → (a < b) ⊎ (b ≤ a)
below? a b = ⊎_map (ltb-true a b) (ltb-false a b) (test? (ltb a b))

-- Where both tests hold at once, each holds.
pub and_true : (t u : Bool) → t && u ≡ true → (t ≡ true) × (u ≡ true)
and_true t u e = (and-eq-true_iff t u).0 e

-- Where one of two tests holds, the first holds or the second.
pub or_true : (t u : Bool) → t || u ≡ true → (t ≡ true) ⊎ (u ≡ true)
or_true true u e = inl refl
or_true false u e = inr e

-- Where neither of two tests holds, each fails.
pub or_none : (t u : Bool) → t || u ≡ false → (t ≡ false) × (u ≡ false)
or_none true u e = no_way e
or_none false u e = (refl, e)

-- A number in a range passes its test.
pub inside-between : (a b c : ℕ) → a ≤ c → c ≤ b → between a b c ≡ true
inside-between a b c p q = rw (le-leb a c p) (le-leb c b q)

-- A number under or over a range fails its test.
pub outside_between : (a b c : ℕ) → (c < a) ⊎ (b < c) → between a b c ≡ false
outside_between a b c (inl h) = rw (lt-leb a c h)
outside_between a b c (inr h) = ⊎_elim (λ e. rw e (lt-leb c b h)) (λ e. rw e) (test? (leb a c))

-- A number that passes a range's test is in it.
pub between_true : (a b c : ℕ) → between a b c ≡ true → (a ≤ c) × (c ≤ b)
between_true a b c e = let w = and_true (leb a c) (leb c b) e in (leb-true a c w.0, leb-true c b w.1)

-- A list whose length is tested to be 0 is empty.
pub length_none : {A : Type 0} (l : List A) → eqb (length l) 0 ≡ true → l ≡ []
length_none l e = drop_of_length-le l {i = 0} (omega (arith, eqb-true (length l) 0 e))
