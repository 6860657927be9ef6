-- Tables of answers, as document 01 prints them: an answer's number, when it is given exactly, and what then holds.
use Prim.Native.Nat.{ℕ}
use mathlib.Core.Path.{◌≡◌}
use mathlib.Core.List.{List, [], ◌∷◌}
use mathlib.Core.Logic.{◌⊎◌}

-- A line of a table.
pub record Line : Type 1 where
  pub number : ℕ
  pub when : Type 0
  pub then : Type 0

infix 1 ◌when◌with◌
abbrev pub ◌when◌with◌ : ℕ → Type 0 → Type 0 → Line
n when w with t = record { number = n; when = w; then = t }

-- The line is kept: its answer is given exactly when its condition holds, and then the rest of it is so.
pub record Kept (answer : ℕ) (line : Line) : Type 0 where
  pub only : answer ≡ line.number → line.when
  pub given : line.when → answer ≡ line.number
  pub so : line.when → line.then

-- Each line is kept.
abbrev pub EachKept : ℕ → List Line → Type 0
EachKept answer [] = Unit {0}
EachKept answer (line ∷ lines) = Kept answer line × EachKept answer lines

-- The answer is one of the lines'.
abbrev pub OneOf : ℕ → List Line → Type 0
OneOf answer [] = ⊥
OneOf answer (line ∷ lines) = (answer ≡ line.number) ⊎ OneOf answer lines

-- Each line is kept, and no other answer is given.
pub record Table (answer : ℕ) (lines : List Line) : Type 0 where
  pub each : EachKept answer lines
  pub no_other : OneOf answer lines
