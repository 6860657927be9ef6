-- Kinds of bytes, for the contracts of code that reads them in runs. No reading is defined by them.
use Rattle.std.specs.Prelude.{◌≡◌, ℕ, Bool, not, ◌||◌, ◌&&◌, ltb, eqb}
use Prim.Native.Char.{code}
use Rattle.lists.specs.Notation.{between}

-- An ASCII byte.
abbrev pub ascii : ℕ → Bool
ascii b = ltb b 0x80

-- A byte that is a character of its own and stops no reading: ASCII but NUL and the end.
abbrev pub ordinary : (end b : ℕ) → Bool
ordinary end b = between 0x1 0x7F b && not (eqb b end)

-- A byte that is a character of its own, stands for itself and has no error: printable ASCII but `&`, and LF and tab.
abbrev pub standing : ℕ → Bool
standing b = (between 0x20 0x7E b && not (eqb b (code "&"))) || eqb b 0xA || eqb b 0x9

-- The same, where a source ends before end.
abbrev pub plain : (end b : ℕ) → Bool
plain end b = standing b && not (eqb b end)

-- A byte that is neither replaced by escaping, where quote is, nor the first of U+00A0.
unfoldable pub quiet : (quote b : ℕ) → Bool
quiet quote b = not (eqb b (code "&")) && not (eqb b (code "<")) && not (eqb b (code ">")) && not (eqb b 0xC2) && not (eqb b quote)

-- What calls of a function on bytes answer is what a test says.
abbrev pub Tests : (ℕ → Bool → Type 0) → (ℕ → Bool) → Type 0
Tests answers test = (b : ℕ) (t : Bool) → answers b t → t ≡ test b
