-- What is promised of a public function by its whole contract: it asks nothing, and one result alone fits.
use Prim.Native.Nat.{ℕ}
use mathlib.Core.Path.{◌≡◌, sym, ◌∙◌}
use mathlib.Core.List.{List}
use denote.Triple.Entry.{Args, Res}
use denote.Triple.Clauses.{Ended, AtExit}
use Rattle.demands.proofs.Calls.{Lifetimes, Requires, Ensures}

-- The later contents of each buffer that a function is lent to write to.
abbrev pub Buffers : Ended → Type 0
Buffers function = (κs : Lifetimes function) → AtExit function κs → List (List ℕ)

-- Whatever it is lent, its `requires` holds; and of two results that meet its `ensures` for the same the answers are equal, and so is each buffer.
pub record Settled (function : Ended) (requires : Requires function) (ensures : Ensures function) (buffers : Buffers function) : Type 0 where
  pub total : (κs : Lifetimes function) (a : Args function.signature κs) → requires κs a
  pub unique : (κs : Lifetimes function) (a : Args function.signature κs) (x y : Res function.signature κs) (e f : AtExit function κs)
      → ensures κs a x e → ensures κs a y f → (x ≡ y) × (buffers κs e ≡ buffers κs f)

-- So it is where the `ensures` says of the result, and of each buffer, what it is.
pub settled : {function : Ended} {requires : Requires function} {ensures : Ensures function} {buffers : Buffers function}
    (result : (κs : Lifetimes function) → Args function.signature κs → Res function.signature κs)
    (contents : (κs : Lifetimes function) → Args function.signature κs → List (List ℕ))
    → ((κs : Lifetimes function) (a : Args function.signature κs) → requires κs a)
    → ((κs : Lifetimes function) (a : Args function.signature κs) (x : Res function.signature κs) (e : AtExit function κs) → ensures κs a x e
    → (x ≡ result κs a) × (buffers κs e ≡ contents κs a)) → Settled function requires ensures buffers
settled result contents total is = record {
  total = total;
  unique = λ κs a x y e f p q. let u = is κs a x e p in let v = is κs a y f q in (u.0 ∙ sym v.0, u.1 ∙ sym v.1);
}

-- Which bytes a function's result points at.
abbrev pub Read : Ended → Type 0
Read function = (κs : Lifetimes function) → Res function.signature κs → List ℕ

-- The same of a function that hands out bytes where they lie, and is lent nothing to write to: one list of bytes alone fits, wherever it lies.
pub record SettledBytes (function : Ended) (requires : Requires function) (ensures : Ensures function) (read : Read function) : Type 0 where
  pub total : (κs : Lifetimes function) (a : Args function.signature κs) → requires κs a
  pub unique : (κs : Lifetimes function) (a : Args function.signature κs) (x y : Res function.signature κs) (e f : AtExit function κs)
      → ensures κs a x e → ensures κs a y f → read κs x ≡ read κs y
