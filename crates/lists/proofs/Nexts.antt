-- Laws of what is next at a place of some bytes.
use Prim.Native.Nat.{ℕ, ◌≤◌, ◌<◌}
use mathlib.Core.Path.{◌≡◌, refl, sym, ◌∙◌}
use mathlib.Core.List.{List, [], ◌∷◌}
use mathlib.Core.Bool.{Bool, true, false}
use mathlib.Core.Logic.{⊎_elim}
use native.Mathlib.Omega.{arith}
use lib.Dec.{ltb}
use lib.ListN.{length, get_or, drop, drop_of_length-le}
use lib.Seq.{drop-cons}
use borrow.Author.Tests.{lt-ltb}
use Rattle.lists.specs.Notation.{next_passes, front}
use Rattle.lists.proofs.Choice.{if_both, no_way, below?}

module _ (p : ℕ → Bool) (s : List ℕ) (at : ℕ) where
  -- What is next at a place is what stands there.
  pub next_at : at < length s → next_passes p (drop at s) ≡ p (get_or s at 0)
  next_at there = rw (drop-cons s at 0 there)

  -- After the end nothing is next.
  pub next_none : length s ≤ at → next_passes p (drop at s) ≡ false
  next_none there = rw (drop_of_length-le s there)

-- Where an element is next there is a place for it.
pub next_there : (p : ℕ → Bool) (at : ℕ) (s : List ℕ) → next_passes p (drop at s) ≡ true → at < length s
next_there p at s e = ⊎_elim (λ h. h) (λ h. no_way (sym e ∙ next_none p s at h)) (below? at (length s))

-- An element that passes is next where the front has some.
pub next-front : (p : ℕ → Bool) (s : List ℕ) → next_passes p s ≡ ltb 0 (length (front p s))
unfolding front
next-front p [] = refl
next-front p (c ∷ s) =
    if_both (λ (l : List ℕ). p c ≡ ltb 0 (length l)) (p c) _ _
    (λ t. t ∙ sym (lt-ltb 0 (length (c ∷ front p s)) (omega arith))) (λ f. f)
