-- Tables of worked cases: what the definitions give for each, and what is expected.
use mathlib.Core.Path.{◌≡◌}
use mathlib.Core.List.{List, map}

pub record Case (A : Type 0) : Type 0 where
  pub given : A
  pub expected : A

infix 1 ◌gives◌
abbrev pub ◌gives◌ : {A : Type 0} → A → A → Case A
given gives expected = record { given = given; expected = expected }

-- The definitions give what is expected, case by case.
abbrev pub Hold : {A : Type 0} → List (Case A) → Type 0
Hold cases = map (λ c. c.given) cases ≡ map (λ c. c.expected) cases
