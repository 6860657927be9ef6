-- What the library's searches say of the longest front of a list whose every element passes a test.
use Rattle.std.specs.Prelude.{not, if◌then◌else◌}
use Rattle.std.specs.List.{fold, position_or_len}
use Rattle.std.specs.Option.{unwrap_or}
use Rattle.std.proofs.Common.{cond, Option, Some, None}
use Prim.Native.Nat.{ℕ, ◌+◌, ◌-◌, ◌≤◌, ◌<◌}
use mathlib.Core.Path.{◌≡◌, refl, sym, ◌∙◌, ap}
use mathlib.Core.List.{List, [], ◌∷◌}
use mathlib.Core.Bool.{Bool, true, false, ◌&&◌}
use mathlib.Core.Logic.{⊎_elim}
use native.Mathlib.Nat.{zero-add}
use native.Mathlib.Omega.{arith}
use lib.Dec.{ltb}
use lib.ListN.{length, get_or, take, drop, length-append, length-take, length-drop}
use lib.Seq.{take_all}
use borrow.Author.Tests.{lt-ltb, le-ltb}
use Rattle.lists.specs.Notation.{front, every}
use Rattle.lists.proofs.Choice.{below?}
use Rattle.lists.proofs.Fronts.{front_length, front_goes_on, passed_block}

-- A fold that holds on to whether all pass.
fold-all : (test : ℕ → Bool) (all : Bool) (s : List ℕ) → fold (λ a b. a && test b) all s ≡ all && every test s
fold-all test true [] = refl
fold-all test false [] = refl
fold-all test true (b ∷ s) = fold-all test (test b) s
fold-all test false (b ∷ s) = fold-all test false s

-- A run goes on after its first element as what follows that begins.
pub run_begins : (test : ℕ → Bool) (s : List ℕ) (from : ℕ) → from < length s → test (get_or s from 0) ≡ true
    → let rest = take (length s - (from + 1)) (drop (from + 1) s) in
    (length rest ≤ length s) × (from + length (front test (drop from s)) + length rest ≡ length s + length (front test rest))
run_begins test s from there passes =
    let left : length (drop (from + 1) s) ≤ length s - (from + 1) = simp length-drop (omega arith) in
    rw (take_all (length s - (from + 1)) (drop (from + 1) s) left)
    (simp length-drop (omega arith), simp length-drop (omega (arith, ap length (front_goes_on test s from there passes))))

-- A block whose every element passes is the first of the front.
pub block-passes : (test : ℕ → Bool) (n : ℕ) (s : List ℕ) {block after : List ℕ}
    → (block ≡ take n s) × (after ≡ drop n s) × (length after + n ≡ length s)
    → fold (λ a b. a && test b) true block ≡ true → length (front test s) ≡ n + length (front test after)
block-passes test n s parts e =
    let there : 0 + n ≤ length s = omega (arith, parts.2) in
    let all = sym (fold-all test true (take n s)) ∙ rw parts.0 at e in
    ap length (passed_block {p = test} {s = s} {at = 0} n there all).front_is
    ∙ rw parts.1 (simp (length-append, length-take, length-drop, zero-add) (omega arith))

-- How many pass before the first that doesn't.
prefix-front : (test : ℕ → Bool) (s : List ℕ) → position_or_len (λ b. not (test b)) s ≡ length (front test s)
unfolding front
prefix-front test [] = refl
prefix-front test (b ∷ s) = go (test b) (prefix-front test s)
  where
    go : (t : Bool) → position_or_len (λ b. not (test b)) s ≡ length (front test s)
        → cond (not (not t)) (1 + position_or_len (λ b. not (test b)) s) 0 ≡ length (if t then b ∷ front test s else [])
    go true e = omega (arith, e)
    go false e = refl

-- The place of the first that doesn't pass, or the length where all do.
pub first-fails : (test : ℕ → Bool) (s : List ℕ) {found : Option ℕ}
    → found ≡ cond (ltb (position_or_len (λ b. not (test b)) s) (length s)) (Some (position_or_len (λ b. not (test b)) s)) None
    → unwrap_or found (length s) ≡ length (front test s)
first-fails test s e =
    rw (e, prefix-front test s)
    (⊎_elim (λ (h : length (front test s) < length s). rw (lt-ltb (length (front test s)) (length s) h))
    (λ (h : length s ≤ length (front test s)). rw (le-ltb (length (front test s)) (length s) h) (omega (arith, h, front_length test s)))
    (below? (length (front test s)) (length s)))
