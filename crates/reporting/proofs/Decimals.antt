-- Laws of decimal numbers: how one is made of its tenth and its last digit, how long it is, and what it says.
use Prim.Native.Nat.{ℕ, zero, suc, ◌+◌, ◌*◌, ◌/◌, ◌%◌, ◌≤◌, ◌<◌}
use Prim.Native.Char.{code}
use mathlib.Core.Path.{◌≡◌, refl, ◌∙◌, ap}
use mathlib.Core.List.{List, [], ◌∷◌, ◌++◌}
use mathlib.Core.Logic.{⊎_elim}
use native.Mathlib.Omega.{arith}
use lib.ListN.{length, get_or, length-append, get_or-append}
use borrow.Author.Tests.{lt-ltb, le-ltb}
use Rattle.lists.proofs.Choice.{below?, inside-between}
use Rattle.standard.specs.Numbers.{digit_of, number_from, number}
use Rattle.reporting.specs.Report.{digit, decimal_by, decimal}

-- A number has the same digits however many it may have at most.
same_digits : (a b n : ℕ) → n < a → n < b → decimal_by a n ≡ decimal_by b n
unfolding decimal_by
same_digits zero b n h k = absurd (omega arith)
same_digits (suc a) zero n h k = absurd (omega arith)
same_digits (suc a) (suc b) n h k =
    ⊎_elim (λ (l : n < 10). rw (lt-ltb n 10 l))
    (λ (l : 10 ≤ n). rw (le-ltb n 10 l) (ap (λ (u : List ℕ). u ++ (digit (n % 10) ∷ [])) (same_digits a b (n / 10) (omega arith) (omega arith))))
    (below? n 10)

-- A number below 10 is one digit.
pub decimal-one : (n : ℕ) → n < 10 → decimal n ≡ digit n ∷ []
unfolding decimal decimal_by
decimal-one n h = rw (lt-ltb n 10 h)

-- Any other is the digits of its tenth, and its last digit.
pub decimal-more : (n : ℕ) → 10 ≤ n → decimal n ≡ decimal (n / 10) ++ (digit (n % 10) ∷ [])
unfolding decimal decimal_by
decimal-more n h =
    rw (le-ltb n 10 h)
    (ap (λ (u : List ℕ). u ++ (digit (n % 10) ∷ [])) (same_digits n (suc (n / 10)) (n / 10) (omega arith) (omega arith)))

-- What holds of one digit, and of a number wherever it holds of its tenth, holds of each number.
decimal_induction {ℓ} : (P : ℕ → List ℕ → Type ℓ) → ((n : ℕ) → n < 10 → P n (digit n ∷ []))
    → ((n : ℕ) (u : List ℕ) → 10 ≤ n → P (n / 10) u → P n (u ++ (digit (n % 10) ∷ []))) → (n : ℕ) → P n (decimal n)
decimal_induction P one more n = within (suc n) n (omega arith)
  where
    within : (most n : ℕ) → n < most → P n (decimal n)
    within zero n h = absurd (omega arith)
    within (suc most) n h =
        ⊎_elim (λ (l : n < 10). rw (decimal-one n l) (one n l))
        (λ (l : 10 ≤ n). rw (decimal-more n l) (more n (decimal (n / 10)) l (within most (n / 10) (omega arith)))) (below? n 10)

-- A number with ten times the bound has one digit more.
longer-by-one : (bound digits : ℕ) → ((n : ℕ) → n < bound → length (decimal n) ≤ digits) → 1 ≤ digits
    → (n : ℕ) → n < 10 * bound → length (decimal n) ≤ suc digits
longer-by-one bound digits within some n h =
    ⊎_elim (λ (l : n < 10). rw (decimal-one n l) (omega arith))
    (λ (l : 10 ≤ n). rw (decimal-more n l, length-append) (omega (arith, within (n / 10) (omega arith)))) (below? n 10)

-- A number below 10 has one digit.
pub one-digit : (n : ℕ) → n < 10 → length (decimal n) ≤ 1
one-digit n h = rw (decimal-one n h) (omega arith)

-- A number below 10,000 has at most four.
pub four_digits : (n : ℕ) → n < 10000 → length (decimal n) ≤ 4
four_digits =
    longer-by-one 1000 3 (longer-by-one 100 2 (longer-by-one 10 1 one-digit (omega arith)) (omega arith)) (omega arith)

-- What a digit says.
digit-says : (n : ℕ) → n < 10 → digit_of (digit n) ≡ n
unfolding digit_of
digit-says n h = rw (inside-between (code "0") (code "9") (digit n) (omega arith) (omega arith)) (omega arith)

-- One digit more says ten times as much and its own.
number-last : (before : ℕ) (u : List ℕ) (c : ℕ) → number_from 10 before (u ++ (c ∷ [])) ≡ number_from 10 before u * 10 + digit_of c
unfolding number_from
number-last before [] c = refl
number-last before (d ∷ u) c = number-last (before * 10 + digit_of d) u c

-- The digits of a number say the number.
pub decimal-says : (n : ℕ) → number 10 (decimal n) ≡ n
unfolding number_from
decimal-says =
    decimal_induction (λ n u. number 10 u ≡ n) (λ n h. omega (arith, digit-says n h))
    (λ n u h e. number-last 0 u (digit (n % 10)) ∙ rw (e, digit-says (n % 10) (omega arith)) (omega arith))

-- No number but 0 begins with a zero.
pub no_zero_in_front : (n : ℕ) → 0 < n → code "0" < get_or (decimal n) 0 0
no_zero_in_front n h =
    (decimal_induction (λ n u. (0 < length u) × (0 < n → code "0" < get_or u 0 0)) (λ n h. (omega arith, λ k. omega arith))
    (λ n u h w. (
      rw length-append (omega arith),
      λ k. rw (get_or-append u (digit (n % 10) ∷ []) 0 0 w.0) (w.1 (omega arith)),
    )) n).1 h
