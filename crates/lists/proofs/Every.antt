-- What holds of every element of a list, as a type and as a test.
use mathlib.Core.Path.{◌≡◌, sym, subst}
use mathlib.Core.Logic.{◌⊎◌, inl, inr}
use mathlib.Core.List.Memᴰ
use mathlib.Core.List.{List, [], ◌∷◌, Memᴰ}
use mathlib.Core.Bool.{Bool, true, and-eq-true_iff}
use Rattle.lists.specs.Notation.{every}

-- P holds of every element.
abbrev pub All : {A : Type 0} → (A → Type 0) → List A → Type 0
All P [] = Unit {0}
All P (a ∷ l) = P a × All P l

-- Where each element that passes has P, a list whose every element passes has P throughout.
pub every-all : {A : Type 0} (P : A → Type 0) (test : A → Bool) → ((a : A) → test a ≡ true → P a) → (l : List A) → every test l ≡ true → All P l
every-all P test rule [] e = tt
every-all P test rule (a ∷ l) e =
    let w = (and-eq-true_iff (test a) (every test l)).0 e in (rule a w.0, every-all P test rule l w.1)

-- What holds of every element holds of each.
pub all_member : {A : Type 0} (P : A → Type 0) (l : List A) {a : A} → All P l → Memᴰ a l → P a
all_member P [] all m = absurd (Memᴰ.not-nil m)
all_member P (b ∷ l) {a} all m = go (Memᴰ.cases_cons m) (λ i. all_member P l all.1 i)
  where
    go : (a ≡ b) ⊎ Memᴰ a l → (Memᴰ a l → P a) → P a
    go (inl e) later = subst P (sym e) all.0
    go (inr i) later = later i
