-- The built-in names, tested by computing: their number, their order, their shape, and the Latin-1 values.
use Rattle.std.specs.Prelude.{if◌then◌else◌}
use Prim.Native.Nat.{ℕ, zero, suc, ◌+◌}
use Prim.Native.Char.{code}
use mathlib.Core.Path.{◌≡◌, refl}
use mathlib.Core.List.{List, [], ◌∷◌, ◌++◌}
use mathlib.Core.Bool.{Bool, true, false, not, ◌||◌, ◌&&◌}
use lib.Dec.{ltb, eqb}
use lib.ListN.{length}
use Rattle.lists.specs.Notation.{every}
use Rattle.standard.specs.Classes.{alphanumeric}
use Rattle.standard.specs.Utf8.{bytes}
use Rattle.standard.specs.Names.{Name, stands, records, table_of}
use Rattle.standard.specs.NameList.{builtin}
use Rattle.standard.proofs.Computing.{computing}

-- There are 216.
pub count : length builtin ≡ 216
unfolding computing
count = refl

-- Reading their table gives them back.
pub table-read : records (table_of builtin) ≡ builtin
unfolding computing
table-read = refl

-- Bytes come before others in a dictionary.
before : List ℕ → List ℕ → Bool
before a [] = false
before [] (y ∷ b) = true
before (x ∷ a) (y ∷ b) = ltb x y || (eqb x y && before a b)

rising : List Name → Bool
rising [] = true
rising (n ∷ []) = true
rising (n ∷ m ∷ names) = before n.word m.word && rising (m ∷ names)

-- Each name comes before the next.
sorted : rising builtin ≡ true
unfolding computing rising before
sorted = refl

-- One or more letters and digits, and then nothing or one `;`.
tidy_word : List ℕ → Bool
tidy_word [] = false
tidy_word (c ∷ []) = alphanumeric c
tidy_word (c ∷ d ∷ []) = alphanumeric c && (alphanumeric d || eqb d (code ";"))
tidy_word (c ∷ d ∷ e ∷ word) = alphanumeric c && tidy_word (d ∷ e ∷ word)

closes : List ℕ → Bool
closes [] = false
closes (c ∷ []) = eqb c (code ";")
closes (c ∷ d ∷ word) = closes (d ∷ word)

same : List ℕ → List ℕ → Bool
same a b = eqb (length a) (length b) && stands a b

-- Some name has the word and the meaning of n.
has : List Name → List ℕ → Name → Bool
has [] word n = false
has (m ∷ names) word n = (same m.word word && eqb m.first n.first && eqb m.second n.second) || has names word n

-- `;` stands only last, and each name without it also stands with it and means the same.
tidy : every (λ n. tidy_word n.word && (closes n.word || has builtin (n.word ++ code ";" ∷ []) n)) builtin ≡ true
unfolding computing tidy_word closes same has
tidy = refl

-- The names of Latin-1: those without `;` but the ten that document 01 lists after them.
others : List (List ℕ)
others =
    bytes "amp" ∷ bytes "AMP" ∷ bytes "lt" ∷ bytes "LT" ∷ bytes "gt" ∷ bytes "GT" ∷ bytes "quot" ∷ bytes "QUOT" ∷ bytes "COPY" ∷ bytes "REG" ∷ []

among : List (List ℕ) → List ℕ → Bool
among [] word = false
among (w ∷ words) word = same w word || among words word

-- How many of them have the value v.
having : ℕ → List Name → ℕ
having v [] = 0
having v (n ∷ names) = (if eqb n.first v && not (closes n.word || among others n.word) then 1 else 0) + having v names

-- How many have each of k values from v on.
having_each : ℕ → ℕ → List ℕ
having_each zero v = []
having_each (suc k) v = having v builtin ∷ having_each k (suc v)

ones : ℕ → List ℕ
ones zero = []
ones (suc k) = 1 ∷ ones k

-- Each of the 96 values from A0 to FF has one.
latin1 : having_each 96 0xA0 ≡ ones 96
unfolding computing closes same others among having having_each ones
latin1 = refl
