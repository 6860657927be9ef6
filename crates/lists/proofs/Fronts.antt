-- Laws of the longest front of a list whose every element passes a test p: its elements, one by one or in blocks, and skipping it.
use Rattle.std.specs.Prelude.{if◌then◌else◌}
use Prim.Native.Nat.{ℕ, zero, suc, ◌+◌, ◌≤◌, ◌<◌}
use mathlib.Core.Path.{◌≡◌, refl, sym, ◌∙◌, ap}
use mathlib.Core.List.{List, [], ◌∷◌, ◌++◌}
use mathlib.Core.Bool.{Bool, true, false}
use native.Mathlib.Omega.{arith}
use native.Mathlib.Numerals.{add-one}
use lib.ListN.{length, get_or, take, drop, length-append, length-take, length-drop, drop_of_length-le}
use lib.Seq.{drop-cons, drop-drop}
use Rattle.lists.specs.Notation.{front, every}
use Rattle.lists.proofs.Choice.{if_both, and_true}

-- Where no element is left there is none at the front.
pub front-none : (p : ℕ → Bool) (s : List ℕ) (i : ℕ) → length s ≤ i → front p (drop i s) ≡ []
unfolding front
front-none p s i h = rw (drop_of_length-le s h)

-- Where the first n elements pass, and the one after them doesn't, they are the front.
pub front_ends : (p : ℕ → Bool) (l : List ℕ) (n : ℕ) → n ≤ length l → ((i : ℕ) → i < n → p (get_or l i 0) ≡ true)
    → (n < length l → p (get_or l n 0) ≡ false) → n ≡ length (front p l)
unfolding front
front_ends p [] zero h each end = refl
front_ends p [] (suc n) h each end = absurd (omega arith)
front_ends p (b ∷ l) zero h each end = rw (end (omega arith)) refl
front_ends p (b ∷ l) (suc n) h each end =
    rw (each 0 (omega arith)) (ap suc (front_ends p l n (omega arith) (λ i k. each (suc i) (omega arith)) (λ k. end (omega arith))))

module _ (p : ℕ → Bool) (s : List ℕ) (i : ℕ) (there : i < length s) where
  -- An element that fails the test ends the front.
  pub front_stops : p (get_or s i 0) ≡ false → front p (drop i s) ≡ []
  unfolding front
  front_stops e = rw (drop-cons s i 0 there, e)

  -- An element that passes it is the next of the front.
  pub front_goes_on : p (get_or s i 0) ≡ true → front p (drop i s) ≡ get_or s i 0 ∷ front p (drop (i + 1) s)
  unfolding front
  front_goes_on e = rw (drop-cons s i 0 there, e, add-one i)

-- The front is the first elements of the list.
pub front-is-take : (p : ℕ → Bool) (s : List ℕ) → front p s ≡ take (length (front p s)) s
unfolding front
front-is-take p [] = refl
front-is-take p (c ∷ s) =
    let later = front-is-take p s in
    if_both (λ (l : List ℕ). l ≡ take (length l) (c ∷ s)) (p c) _ _ (λ t. ap (◌∷◌ c) later) (λ f. refl)

-- The front is not longer than the list.
pub front_length : (p : ℕ → Bool) (s : List ℕ) → length (front p s) ≤ length s
front_length p s = omega (arith, simp length-take at (ap length (front-is-take p s)))

-- What holds of the front with each element that passes holds of the front.
pub front_induction {ℓ} : (p : ℕ → Bool) (P : List ℕ → List ℕ → Type ℓ) → ((s : List ℕ) → P [] s)
    → ((b : ℕ) (u s : List ℕ) → p b ≡ true → P u s → P (b ∷ u) (b ∷ s)) → (s : List ℕ) → P (front p s) s
unfolding front
front_induction p P none more [] = none []
front_induction p P none more (b ∷ s) = go (p b) refl (front_induction p P none more s)
  where
    go : (t : Bool) → p b ≡ t → P (front p s) s → P (if t then b ∷ front p s else []) (b ∷ s)
    go true e rest = more b (front p s) s e rest
    go false e rest = none (b ∷ s)

-- Each element of the front passes.
pub front-each : (p : ℕ → Bool) (s : List ℕ) (i : ℕ) → i < length (front p s) → p (get_or s i 0) ≡ true
front-each p = front_induction p (λ u s. (i : ℕ) → i < length u → p (get_or s i 0) ≡ true) (λ s i h. absurd (omega arith)) more
  where
    more : (b : ℕ) (u s : List ℕ) → p b ≡ true → ((i : ℕ) → i < length u → p (get_or s i 0) ≡ true)
        → (i : ℕ) → i < length (b ∷ u) → p (get_or (b ∷ s) i 0) ≡ true
    more b u s e rest zero h = e
    more b u s e rest (suc i) h = rest i (omega arith)

-- The elements u from `at` to next pass: the front at `at` is u and then the front at next.
pub record Passed (p : ℕ → Bool) (s : List ℕ) (at : ℕ) (u : List ℕ) (next : ℕ) : Type 0 where
  pub next_is : next ≡ at + length u
  pub front_is : front p (drop at s) ≡ u ++ front p (drop next s)

-- The front at `at` is empty.
pub record FrontEmpty (p : ℕ → Bool) (s : List ℕ) (at : ℕ) : Type 0 where
  pub front_is : front p (drop at s) ≡ []

-- The front at `from` ends where the front at `at` does.
pub record Skipping (p : ℕ → Bool) (s : List ℕ) (from at : ℕ) : Type 0 where
  pub there : at ≤ length s
  pub same_end : from + length (front p (drop from s)) ≡ at + length (front p (drop at s))

-- The first n elements, where they pass, and then the front of the rest are the front.
front-take : (p : ℕ → Bool) (n : ℕ) (s : List ℕ) → every p (take n s) ≡ true → front p s ≡ take n s ++ front p (drop n s)
unfolding front
front-take p zero s e = refl
front-take p (suc n) [] e = refl
front-take p (suc n) (c ∷ s) e =
    let w = and_true (p c) (every p (take n s)) e in rw w.0 (ap (λ (l : List ℕ). c ∷ l) (front-take p n s w.1))

module _ {p : ℕ → Bool} {s : List ℕ} {at : ℕ} where
  -- An element that passes is the first of the front.
  pub passed_one : at < length s → p (get_or s at 0) ≡ true → Passed p s at (get_or s at 0 ∷ []) (at + 1)
  passed_one there e = record { next_is = refl; front_is = front_goes_on p s at there e }

  -- A block of n elements that pass is the first of the front.
  pub passed_block : (n : ℕ) → at + n ≤ length s → every p (take n (drop at s)) ≡ true → Passed p s at (take n (drop at s)) (at + n)
  passed_block n there e = record {
    next_is = simp (length-take, length-drop) (omega arith);
    front_is = front-take p n (drop at s) e ∙ rw (drop-drop n at s);
  }

  -- At an element that fails the front is empty.
  pub stopped_at : at < length s → p (get_or s at 0) ≡ false → FrontEmpty p s at
  stopped_at there e = record { front_is = front_stops p s at there e }

  -- At the end of the list the front is empty.
  pub stopped_end : length s ≤ at → FrontEmpty p s at
  stopped_end there = record { front_is = front-none p s at there }

-- Before the first element nothing is skipped yet.
pub skipping_all : {p : ℕ → Bool} {s : List ℕ} {from : ℕ} → from ≤ length s → Skipping p s from from
skipping_all there = record { there = there; same_end = refl }

-- Elements that pass are skipped.
pub skipping_on : {p : ℕ → Bool} {s u : List ℕ} {from at next : ℕ} → next ≤ length s → Skipping p s from at → Passed p s at u next
    → Skipping p s from next
skipping_on {p} {s} {u} {from} {at} {next} there h w = record {
  there = there;
  same_end = h.same_end ∙ rw (w.front_is, length-append) (omega (arith, w.next_is));
}

-- Where the front is empty all is skipped.
pub skipped : {p : ℕ → Bool} {s : List ℕ} {from at : ℕ} → Skipping p s from at → FrontEmpty p s at → at ≡ from + length (front p (drop from s))
skipped {p} {s} {from} {at} h w = sym (h.same_end ∙ rw w.front_is (omega arith))
