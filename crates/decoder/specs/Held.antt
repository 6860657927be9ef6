-- Document 01, 'The chunk decoder', 'Held': what is not written yet of the bytes that were taken.
use Rattle.std.specs.Prelude.{ℕ, ◌-◌, List, [], ◌∷◌, Bool, true, false, not, ◌||◌, ◌&&◌, eqb, length, drop, if◌then◌else◌}
use Prim.Native.Char.{code}
use Rattle.lists.specs.Notation.{next, every}
use Rattle.standard.specs.declared.Context.{Context}
use Rattle.standard.specs.Numbers.{is_digit}
use Rattle.standard.specs.Names.{Name, longest, begins}
use Rattle.standard.specs.Reading.{covered, Reading, decode}

-- The letter that makes a number hexadecimal.
abbrev pub is_x : ℕ → Bool
is_x c = eqb c (code "x") || eqb c (code "X")

-- A name ending in `;`.
abbrev pub closed_name : List Name → List ℕ → Bool
closed_name names s = eqb (longest names s).len (length s) && next (code ";") (drop (length s - 1) s)

-- A beginning of some name, until that is a name ending in `;`.
abbrev pub held_name : List Name → List ℕ → Bool
held_name names s = begins names s && not (closed_name names s)

-- After `&#`: nothing, or digits; `x`, or `x` and digits.
abbrev pub held_number : List ℕ → Bool
held_number [] = true
held_number (c ∷ s) = if is_x c then every (is_digit 16) s else every (is_digit 10) (c ∷ s)

-- After `&`: nothing, a number's beginning or a name's.
abbrev pub held_after : List Name → List ℕ → Bool
held_after names [] = true
held_after names (c ∷ s) = if eqb c (code "#") then held_number s else held_name names (c ∷ s)

-- An ending that is held.
abbrev pub is_held : List Name → List ℕ → Bool
is_held names [] = false
is_held names (c ∷ s) = eqb c (code "&") && held_after names s

-- What stands before the ending that is held.
unfoldable pub unheld : List Name → List ℕ → List ℕ
unheld names [] = []
unheld names (c ∷ s) = if is_held names (c ∷ s) then [] else c ∷ unheld names s

-- What is released of the bytes that were taken: all but an incomplete character (which their covered part ends before) and a held ending.
abbrev pub released : List Name → Context → List ℕ → Reading
released names context taken = decode names context (unheld names (covered context taken))
