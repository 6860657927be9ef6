-- The cutting law, over an arbitrary machine: what it gives of two lists, one after the other, is what it gives of the joined list.
use Rattle.std.specs.Prelude.{if◌then◌else◌}
use Prim.Native.Nat.{ℕ}
use mathlib.Core.Path.{◌≡◌, refl, sym, ◌∙◌, ap}
use mathlib.Core.List.{List, [], ◌∷◌, ◌++◌}
use mathlib.Core.Bool.{Bool, true, false, not}
use lib.Dec.{eqb}
use Rattle.standard.specs.Answers.{done}
use Rattle.standard.specs.Reading.{Reading, reading, ◌⊕◌}
use Rattle.standard.proofs.Joining.{⊕-assoc}

-- What a run comes to: an answer, what was given, and the state where it stops.
pub record Ran (S : Type 0) : Type 0 where
  pub answer : ℕ
  pub gives : Reading
  pub stop : S

-- Its parts, one after the other.
abbrev pub ran : {S : Type 0} → ℕ → Reading → S → Ran S
ran answer gives stop = record { answer = answer; gives = gives; stop = stop }

-- What was given before a run comes first.
abbrev pub before : {S : Type 0} → Reading → Ran S → Ran S
before g r = ran r.answer (g ⊕ r.gives) r.stop

-- A machine: in a state a byte calls for an answer; where that is done, it gives something and there is a next state; else it gives its last.
module _ {S : Type 0} (calls : S → ℕ → ℕ) (gives : S → ℕ → Reading) (next : S → ℕ → S) (last : S → ℕ → Reading) where
  -- Its run over bytes.
  unfoldable pub run : S → List ℕ → Ran S
  run at [] = ran done (reading [] []) at
  run at (b ∷ s) = if not (eqb (calls at b) done) then ran (calls at b) (last at b) at else before (gives at b) (run (next at b) s)

  -- A run that goes on over t where it was not stopped.
  abbrev pub then_run : List ℕ → Ran S → Ran S
  then_run t r = if eqb r.answer done then before r.gives (run r.stop t) else r

  before_then : (t : List ℕ) (g : Reading) (r : Ran S) → before g (then_run t r) ≡ then_run t (before g r)
  before_then t g r = choice (eqb r.answer done)
    where
      choice : (u : Bool)
          → before g (if u then before r.gives (run r.stop t) else r) ≡ (if u then before (g ⊕ r.gives) (run r.stop t) else before g r)
      choice true =
          ap (λ (x : Reading). ran (run r.stop t).answer x (run r.stop t).stop) (sym (⊕-assoc g r.gives (run r.stop t).gives))
      choice false = refl

  -- A run over two lists is a run over the first that goes on over the second.
  pub run_append : (at : S) (s t : List ℕ) → run at (s ++ t) ≡ then_run t (run at s)
  unfolding run
  run_append at [] t = refl
  run_append at (b ∷ s) t = choice (eqb (calls at b) done) refl (run_append (next at b) s t)
    where
      choice : (u : Bool) → eqb (calls at b) done ≡ u → run (next at b) (s ++ t) ≡ then_run t (run (next at b) s)
          → (if not u then ran (calls at b) (last at b) at else before (gives at b) (run (next at b) (s ++ t)))
          ≡ then_run t (if not u then ran (calls at b) (last at b) at else before (gives at b) (run (next at b) s))
      choice true e later = ap (before (gives at b)) later ∙ before_then t (gives at b) (run (next at b) s)
      choice false e later = rw e
