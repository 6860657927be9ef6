-- The notation of the definitions: this project's own, with no source.
use Rattle.std.specs.Prelude.{ℕ, List, [], ◌∷◌, Bool, true, false, ◌&&◌, leb, eqb, if◌then◌else◌}

-- From a to b, both included.
abbrev pub between : ℕ → ℕ → ℕ → Bool
between a b c = leb a c && leb c b

-- The next element is there and passes the test.
abbrev pub next_passes : (ℕ → Bool) → List ℕ → Bool
next_passes p [] = false
next_passes p (c ∷ s) = p c

-- The next element is c.
abbrev pub next : ℕ → List ℕ → Bool
next c s = next_passes (λ b. eqb b c) s

-- The longest front of a list whose every element passes the test.
unfoldable pub front : (ℕ → Bool) → List ℕ → List ℕ
front p [] = []
front p (c ∷ s) = if p c then c ∷ front p s else []

-- Every element of a list passes the test.
abbrev pub every : {A : Type 0} → (A → Bool) → List A → Bool
every test [] = true
every test (a ∷ l) = test a && every test l
