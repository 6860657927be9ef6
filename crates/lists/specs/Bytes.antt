-- Document 01, 'numbers in slices are four bytes, little-endian'.
use Rattle.std.specs.Prelude.{ℕ, ◌+◌, ◌*◌, ◌/◌, ◌%◌, List, [], ◌∷◌, ◌++◌, get_or}

-- Four bytes from i on as a number, the lowest first.
abbrev pub word32 : List ℕ → ℕ → ℕ
word32 l i = get_or l i 0 + 256 * get_or l (i + 1) 0 + 65536 * get_or l (i + 2) 0 + 16777216 * get_or l (i + 3) 0

-- Bytes in fours as numbers, the lowest byte first.
unfoldable pub words : List ℕ → List ℕ
words [] = []
words (a ∷ []) = []
words (a ∷ b ∷ []) = []
words (a ∷ b ∷ c ∷ []) = []
words (a ∷ b ∷ c ∷ d ∷ l) = word32 (a ∷ b ∷ c ∷ d ∷ []) 0 ∷ words l

-- The four bytes of a number, the lowest first.
abbrev pub four_bytes : ℕ → List ℕ
four_bytes n = n % 256 ∷ n / 256 % 256 ∷ n / 65536 % 256 ∷ n / 16777216 % 256 ∷ []

-- Numbers as they are, in a room of numbers.
abbrev pub plainly : List ℕ → List ℕ
plainly numbers = numbers

-- Numbers as bytes, four each, the lowest first: in a room of bytes.
unfoldable pub fours : List ℕ → List ℕ
fours [] = []
fours (n ∷ numbers) = four_bytes n ++ fours numbers
