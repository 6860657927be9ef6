-- Names whose text is not longer than they are with their `&`, and what is found among names.
use Prim.Native.Nat.{ℕ, suc, ◌≤◌, ◌<◌}
use mathlib.Core.Path.{◌≡◌, refl, sym}
use mathlib.Core.List.{List, [], ◌∷◌, Memᴰ}
use mathlib.Core.Bool.{Bool, true, ◌&&◌, and-eq-true_iff}
use native.Mathlib.Omega.{arith}
use lib.Dec.{ltb, leb, eqb}
use lib.ListN.{length}
use borrow.Author.Tests.{ltb-true, leb-true}
use Rattle.lists.specs.Notation.{every}
use Rattle.lists.proofs.Choice.{if_both, no_way}
use Rattle.lists.proofs.Every.{All, every-all, all_member}
use Rattle.standard.specs.declared.names.Found.{Found}
use Rattle.standard.specs.Utf8.{octets, encode, bytes}
use Rattle.standard.specs.Names.{Name, stands, char_ref, no_name, found_as, longer, longest_from, longest}
use Rattle.standard.specs.NameList.{builtin}
use Rattle.standard.specs.Pieces.{encodes, char_ref_text}

-- A name is narrow: it is not empty, and its text is not longer than it is with its `&`.
abbrev NarrowName : Name → Type 0
NarrowName n = (1 ≤ length n.word) × (length (char_ref_text (char_ref n.first n.second)) ≤ suc (length n.word))

-- Every name is narrow.
abbrev pub Narrow : List Name → Type 0
Narrow names = All NarrowName names

-- The test of a narrow name.
abbrev narrow_name : Name → Bool
narrow_name n = leb 1 (length n.word) && leb (length (char_ref_text (char_ref n.first n.second))) (suc (length n.word))

-- Names that pass the test are narrow.
narrow_by_test : (names : List Name) → every narrow_name names ≡ true → Narrow names
narrow_by_test = every-all NarrowName narrow_name go
  where
    go : (n : Name) → narrow_name n ≡ true → NarrowName n
    go n e = let w = (and-eq-true_iff _ _).0 e in (leb-true _ _ w.0, leb-true _ _ w.1)

-- The built-in names are narrow.
pub builtin_narrow : Narrow builtin
unfolding builtin bytes encode octets encodes
builtin_narrow = narrow_by_test builtin refl

-- A word that stands at the front of s is not longer than s.
pub stands-fits : (word s : List ℕ) → stands word s ≡ true → length word ≤ length s
unfolding stands
stands-fits [] s e = omega arith
stands-fits (a ∷ word) [] e = no_way (sym e)
stands-fits (a ∷ word) (b ∷ s) e = omega (arith, stands-fits word s ((and-eq-true_iff (eqb a b) (stands word s)).0 e).1)

-- What holds of what was found, and of each name that is not empty and stands there, holds of the longest of them.
longest-from : (P : Found → Type 0) (s : List ℕ) (names : List Name) (found : Found) → P found
    → ((n : Name) → Memᴰ n names → 0 < length n.word → stands n.word s ≡ true → P (found_as n)) → P (longest_from found names s)
unfolding longest_from longer
longest-from P s [] found h each = h
longest-from P s (n ∷ names) found h each =
    longest-from P s names (longer found n s) (if_both P (ltb found.len (length n.word) && stands n.word s) _ _ go (λ f. h))
    (λ m i. each m (Memᴰ.tail i))
  where
    go : (ltb found.len (length n.word) && stands n.word s) ≡ true → P (found_as n)
    go t =
        let w = (and-eq-true_iff (ltb found.len (length n.word)) (stands n.word s)).0 t in
        each n (Memᴰ.head refl) (omega (arith, ltb-true found.len (length n.word) w.0)) w.1

-- The longest name is none, or a name of the list that is not empty and stands there.
pub longest_cases : (P : Found → Type 0) (s : List ℕ) (names : List Name) → P no_name
    → ((n : Name) → Memᴰ n names → 0 < length n.word → stands n.word s ≡ true → P (found_as n)) → P (longest names s)
unfolding longest
longest_cases P s names = longest-from P s names no_name

-- What is found is not longer than s, and with narrow names its text is not longer than it is with its `&`.
abbrev pub FoundFits : List Name → List ℕ → Found → Type 0
FoundFits names s found = (found.len ≤ length s) × (Narrow names → length (char_ref_text found.reference) ≤ suc found.len)

-- The longest name fits.
pub longest-fits : (names : List Name) (s : List ℕ) → FoundFits names s (longest names s)
unfolding encodes
longest-fits names s =
    longest_cases (FoundFits names s) s names (omega arith, λ narrow. omega arith)
    (λ n i some e. (stands-fits n.word s e, λ narrow. (all_member NarrowName names narrow i).1))
