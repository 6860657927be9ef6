-- Bytes and rows that need no look at each character.
use Rattle.std.specs.Prelude.{ℕ, ◌+◌, ◌*◌, ◌≤◌, ◌<◌, ◌≡◌, List, Bool, true, not, ◌||◌, ◌&&◌, ltb, eqb, length, get_or, drop}
use Prim.Native.Char.{code}
use Rattle.lists.specs.Notation.{between}

-- A byte that is a character of its own and stops no reading: ASCII but NUL and the end.
abbrev pub ordinary : ℕ → ℕ → Bool
ordinary end b = between 0x1 0x7F b && not (eqb b end)

-- The first n bytes are ordinary.
abbrev pub Ordinary : (end : ℕ) (s : List ℕ) (n : ℕ) → Type 0
Ordinary end s n = (i : ℕ) → i < n → ordinary end (get_or s i 0) ≡ true

-- An ASCII byte that stands for itself, with an error or without.
abbrev pub lone : ℕ → Bool
lone b = ltb b 0x80 && not (eqb b (code "\r")) && not (eqb b (code "&"))

-- A byte that is a piece and its own text, without an error, and is the byte c too: LF, tab, or printable ASCII but `&`.
abbrev pub alike : ℕ → ℕ → Bool
alike b c = (between 0x20 0x7E b && not (eqb b (code "&")) || eqb b 0xA || eqb b 0x9) && eqb b c

-- The first n bytes of a source and of a text are alike.
abbrev pub Alike : (s text : List ℕ) (n : ℕ) → Type 0
Alike s text n = (i : ℕ) → i < n → alike (get_or s i 0) (get_or text i 0) ≡ true

-- A row of n source bytes, m text bytes and k errors is n bytes that the text has too.
pub record PlainRow (s : List ℕ) (at n : ℕ) (text : List ℕ) (t m k : ℕ) : Type 0 where
  pub bytes : m ≡ n
  pub no_errors : k ≡ 0
  pub there : t + n ≤ length text
  pub same : Alike (drop at s) (drop t text) n

-- A row of one source byte, one text byte and no errors.
abbrev pub unit_row : (n m k : ℕ) → Bool
unit_row n m k = eqb n 1 && eqb m 1 && eqb k 0

-- The n rows from next on are such.
abbrev pub UnitRows : (rows : List ℕ) (next n : ℕ) → Type 0
UnitRows rows next n =
    (i : ℕ) → i < n → unit_row (get_or rows (next + 3 * i) 0) (get_or rows (next + 3 * i + 1) 0) (get_or rows (next + 3 * i + 2) 0) ≡ true

-- They are n bytes that the text has too.
pub record PlainRows (rows : List ℕ) (next : ℕ) (s : List ℕ) (at : ℕ) (text : List ℕ) (t n : ℕ) : Type 0 where
  pub rows_there : next + 3 * n ≤ length rows
  pub source_there : at + n ≤ length s
  pub text_there : t + n ≤ length text
  pub units : UnitRows rows next n
  pub same : Alike (drop at s) (drop t text) n
