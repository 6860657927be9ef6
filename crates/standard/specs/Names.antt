-- WHATWG HTML, 13.2.5.73: names, the longest one that stands at the front of some bytes, and tables of names as bytes.
use Rattle.std.specs.Prelude.{
  ℕ,
  zero,
  suc,
  ◌+◌,
  List,
  [],
  ◌∷◌,
  ◌++◌,
  Bool,
  true,
  false,
  ◌||◌,
  ◌&&◌,
  ltb,
  leb,
  eqb,
  length,
  take,
  drop,
  if◌then◌else◌,
  Option,
  Some,
  None,
}
use Rattle.lists.specs.Bytes.{word32, four_bytes}
use Rattle.standard.specs.declared.names.CharRef.{CharRef}
use Rattle.standard.specs.declared.names.Found.{Found}

-- A name, without its `&`, and its characters: the second is 0 where there is one only.
pub record Name : Type 0 where
  pub word : List ℕ
  pub first : ℕ
  pub second : ℕ

-- A name, given its word and its characters.
abbrev pub name : List ℕ → ℕ → ℕ → Name
name word first second = record { word = word; first = first; second = second }

-- The word stands at the front of s.
unfoldable pub stands : List ℕ → List ℕ → Bool
stands [] s = true
stands (a ∷ word) [] = false
stands (a ∷ word) (b ∷ s) = eqb a b && stands word s

-- The characters of a name.
abbrev pub char_ref : ℕ → ℕ → CharRef
char_ref first second =
    record { chars = first ∷ second ∷ []; num_chars = if eqb second 0 then 1 else 2 }

-- No name, as what was found.
abbrev pub no_name : Found
no_name = record { len = 0; reference = record { chars = 0 ∷ 0 ∷ []; num_chars = 0 } }

-- A name, as what was found.
abbrev pub found_as : Name → Found
found_as n = record { len = length n.word; reference = char_ref n.first n.second }

-- The longer of what was found and a name, if that stands at the front of s.
unfoldable pub longer : Found → Name → List ℕ → Found
longer found n s = if ltb found.len (length n.word) && stands n.word s then found_as n else found

-- The longest of what was found and the names that stand at the front of s.
unfoldable pub longest_from : Found → List Name → List ℕ → Found
longest_from found [] s = found
longest_from found (n ∷ names) s = longest_from (longer found n s) names s

-- The longest name that stands at the front of s.
unfoldable pub longest : List Name → List ℕ → Found
longest names s = longest_from no_name names s

-- What was found, or no name.
abbrev pub found_of : Option Found → Found
found_of None = no_name
found_of (Some f) = f

-- What was found, where that is a name.
abbrev pub found_where : Found → Option Found
found_where f = if eqb f.len 0 then None else Some f

-- The bytes s are a beginning of some name.
unfoldable pub begins : List Name → List ℕ → Bool
begins [] s = false
begins (n ∷ names) s = stands s n.word || begins names s

-- A record without its length byte: a name of n bytes from i on, and its two characters.
abbrev pub record_at : List ℕ → ℕ → ℕ → Name
record_at l i n = name (take n (drop i l)) (word32 l (i + n)) (word32 l (i + n + 4))

-- The records of a table after its first skip bytes, as far as they are whole.
unfoldable pub records_from : (skip : ℕ) → List ℕ → List Name
records_from skip [] = []
records_from zero (n ∷ l) = if leb (n + 8) (length l) then record_at l 0 n ∷ records_from (n + 8) l else []
records_from (suc skip) (b ∷ l) = records_from skip l

-- The names of a table.
abbrev pub records : List ℕ → List Name
records l = records_from 0 l

-- The table of some names.
unfoldable pub table_of : List Name → List ℕ
table_of [] = []
table_of (n ∷ names) = length n.word ∷ n.word ++ four_bytes n.first ++ four_bytes n.second ++ table_of names
