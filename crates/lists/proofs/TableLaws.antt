-- Laws of tables of answers: how one is shown, and what it gives.
use Prim.Native.Nat.{ℕ}
use mathlib.Core.Path.{◌≡◌, sym, ◌∙◌}
use mathlib.Core.Bool.{Bool, true, not, ◌&&◌}
use mathlib.Core.List.{List, [], ◌∷◌}
use mathlib.Core.Logic.{◌⊎◌, inl, inr}
use lib.Dec.{eqb}
use borrow.Author.Tests.{eqb-false, not-true}
use Rattle.lists.proofs.Choice.{and_true}
use Rattle.lists.proofs.Tables.{Line, Kept, EachKept, OneOf, Table}

infixr 3 ◌and◌
-- What each condition makes so: its line's answer, and the rest.
pub data Gives (answer : ℕ) : List Line → Type 1 where
  none : Gives answer []
  ◌and◌ : {l : Line} {lines : List Line} → (l.when → (answer ≡ l.number) × l.then) → Gives answer lines → Gives answer (l ∷ lines)

-- Some line's condition holds.
abbrev pub Some : List Line → Type 0
Some [] = ⊥
Some (l ∷ lines) = l.when ⊎ Some lines

-- A number is none of the lines'.
abbrev pub other : ℕ → List Line → Bool
other n [] = true
other n (l ∷ lines) = not (eqb n l.number) && other n lines

-- No two lines have the same number.
abbrev pub distinct : List Line → Bool
distinct [] = true
distinct (l ∷ lines) = other l.number lines && distinct lines

-- A number that is none of theirs is no answer of theirs.
other_than : {answer : ℕ} (n : ℕ) (lines : List Line) → other n lines ≡ true → OneOf answer lines → answer ≡ n → ⊥
other_than n [] o w e = w
other_than n (l ∷ lines) o (inl k) e =
    eqb-false n l.number (not-true (eqb n l.number) (and_true (not (eqb n l.number)) (other n lines) o).0) (sym e ∙ k)
other_than n (l ∷ lines) o (inr k) e = other_than n lines (and_true (not (eqb n l.number)) (other n lines) o).1 k e

module _ {answer : ℕ} where
  -- The answer of the condition that holds.
  one : {lines : List Line} → Gives answer lines → Some lines → OneOf answer lines
  one none w = elim w [ ]
  one (g and gs) (inl w) = inl (g w).0
  one (g and gs) (inr s) = inr (one gs s)

  -- A line, by what its condition makes so, and that it is given for nothing else.
  keep : {l : Line} → (l.when → (answer ≡ l.number) × l.then) → (answer ≡ l.number → l.when) → Kept answer l
  keep g only = record { only = only; given = λ w. (g w).0; so = λ w. (g w).1 }

  -- Where the answer is none of theirs no condition holds.
  vain : {lines : List Line} → Gives answer lines → (OneOf answer lines → ⊥) → EachKept answer lines
  vain none o = tt
  vain (g and gs) o = (keep g (λ e. absurd (o (inl e))), vain gs (λ w. o (inr w)))

  -- Where one condition holds, its line alone is given.
  each_kept : {lines : List Line} → distinct lines ≡ true → Gives answer lines → Some lines → EachKept answer lines
  each_kept d none w = elim w [ ]
  each_kept d (◌and◌ {l} {lines} g gs) (inl w) =
      let k = and_true (other l.number lines) (distinct lines) d in
      (keep g (λ e. w), vain gs (λ o. other_than l.number lines k.0 o (g w).0))
  each_kept d (◌and◌ {l} {lines} g gs) (inr s) =
      let k = and_true (other l.number lines) (distinct lines) d in
      (keep g (λ e. absurd (other_than l.number lines k.0 (one gs s) e)), each_kept k.1 gs s)

  -- A table by what each condition makes so, where some condition holds.
  pub table_by : {lines : List Line} → distinct lines ≡ true → Gives answer lines → Some lines → Table answer lines
  table_by d g s = record { each = each_kept d g s; no_other = one g s }

  -- An answer that no line of a table has is never given.
  pub never : {lines : List Line} (n : ℕ) → Table answer lines → other n lines ≡ true → answer ≡ n → ⊥
  never {lines} n t o e = other_than n lines o t.no_other e

-- The answer is a line's, whose condition holds, and what it says is so.
abbrev pub Holds : ℕ → List Line → Type 0
Holds answer [] = ⊥
Holds answer (l ∷ lines) = ((answer ≡ l.number) × l.when × l.then) ⊎ Holds answer lines

-- So it is of every table.
pub holds : {answer : ℕ} {lines : List Line} → Table answer lines → Holds answer lines
holds {answer} {lines} t = go lines t.each t.no_other
  where
    go : (lines : List Line) → EachKept answer lines → OneOf answer lines → Holds answer lines
    go [] e w = elim w [ ]
    go (l ∷ lines) e (inl k) = let w = e.0.only k in inl (k, w, e.0.so w)
    go (l ∷ lines) e (inr k) = inr (go lines e.1 k)
