-- A way to lay numbers into a room.
use Rattle.std.specs.Prelude.{ℕ, ◌*◌, ◌≡◌, List, [], ◌++◌, length}

-- None are laid as none, joined ones one after the other, and each takes so many values.
pub record Laying {A : Type 0} (each : ℕ) (lay : List ℕ → List A) : Type 0 where
  pub none : lay [] ≡ []
  pub join : (a b : List ℕ) → lay (a ++ b) ≡ lay a ++ lay b
  pub long : (a : List ℕ) → length (lay a) ≡ each * length a
