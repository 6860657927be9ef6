-- How numbers are lent: as they are, or in bytes. Document 01, 'numbers in slices are four bytes, little-endian'.
use Prim.Native.Nat.{ℕ, ◌/◌, ◌%◌, ◌<◌}
use mathlib.Core.Path.{◌≡◌}
use mathlib.Core.List.{List}
use lib.ListN.{length}
use Rattle.lists.specs.Bytes.{plainly, fours, words}

-- Each number in a place of its own, or in four bytes, the lowest first.
pub data Way : Type 0 where
  plain : Way
  in_bytes : Way

-- How many values a number takes.
abbrev pub width : Way → ℕ
width plain = 1
width in_bytes = 4

-- Numbers as values.
abbrev pub laid : Way → List ℕ → List ℕ
laid plain = plainly
laid in_bytes = fours

-- The numbers that values say.
abbrev pub said : Way → List ℕ → List ℕ
said plain values = values
said in_bytes values = words values

-- How many numbers a room has: odd last bytes are no room.
abbrev pub room : Way → List ℕ → ℕ
room plain values = length values
room in_bytes values = length values / 4

-- The values are whole numbers, these.
abbrev pub Says : Way → (values numbers : List ℕ) → Type 0
Says way values numbers = (length values % width way ≡ 0) × (said way values ≡ numbers)

-- A number that fits into four bytes.
abbrev pub Small : ℕ → Type 0
Small n = n < 4294967296
