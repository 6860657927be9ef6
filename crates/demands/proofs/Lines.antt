-- Lines of the table of answers: an answer is given exactly when something holds, and then the rest is so.
use Prim.Native.Nat.{ℕ}
use mathlib.Core.Path.{◌≡◌, sym, ◌∙◌}

-- The answer is n exactly when `when` holds, and then `then` does.
pub record Line (answer n : ℕ) (when then : Type 0) : Type 0 where
  pub only : answer ≡ n → when
  pub given : when → answer ≡ n
  pub so : when → then

-- A line by what the answer is defined as: `when` makes that n, and n is given for `when` alone.
pub line-by : {answer : ℕ} (defined n : ℕ) (when then : Type 0) → answer ≡ defined → (when → defined ≡ n) → (defined ≡ n → when)
    → (defined ≡ n → then)
    → Line answer n when then
line-by defined n when then is forth back so =
    record { only = λ e. back (sym is ∙ e); given = λ w. is ∙ forth w; so = λ w. so (forth w) }

-- The answer is n exactly when `when` holds, and then `then` does of whatever shows it.
pub record LineOf (answer n : ℕ) (when : Type 0) (then : when → Type 0) : Type 0 where
  pub only : answer ≡ n → when
  pub given : when → answer ≡ n
  pub so : (w : when) → then w
