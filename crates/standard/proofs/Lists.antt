-- The standard's classes are document 01's lists: the characters that get error 5, and what a number means.
use Rattle.std.specs.Prelude.{if◌then◌else◌}
use Prim.Native.Nat.{ℕ, zero, suc, ◌%◌, ◌≤◌, ◌<◌}
use mathlib.Core.Path.{◌≡◌, refl, ◌∙◌, ap}
use mathlib.Core.List.{List, [], ◌∷◌, ◌++◌}
use mathlib.Core.Bool.{Bool, true, false, ◌||◌, ◌&&◌, and-eq-true_iff}
use mathlib.Core.Logic.{inr, ⊎_elim}
use native.Mathlib.Omega.{arith}
use lib.Dec.{ltb, eqb}
use lib.ListN.{take, drop}
use borrow.Author.Tests.{ne_eqb, eqb-true, eqb-false}
use Rattle.lists.specs.Notation.{between}
use Rattle.lists.proofs.Choice.{below?, outside_between}
use Rattle.standard.specs.Utf8.{bytes}
use Rattle.standard.specs.Classes.{character_code}
use Rattle.standard.specs.Numbers.{number, replacements, replaced_by, Meaning, means, meaning_of}
use Rattle.standard.proofs.Computing.{computing}

-- 'Each value whose low 16 bits are FFFE or FFFF', with FDD0-FDEF.
abbrev pub noncharacters : ℕ → Bool
noncharacters c = between 0xFDD0 0xFDEF c || between 0xFFFE 0xFFFF (c % 0x10000)

-- 'Error 5 for U+0001-0008, 000B, 000E-001F, 007F-009F, FDD0-FDEF, and each value whose low 16 bits are FFFE or FFFF.'
abbrev pub with_error : ℕ → Bool
with_error c = between 0x1 0x8 c || eqb c 0xB || between 0xE 0x1F c || between 0x7F 0x9F c || noncharacters c

-- The C1 table as document 01 prints it: two digits, a space, four digits, a comma and a space.
unfoldable pub c1_line : List ℕ
c1_line =
    bytes "80 20AC, 82 201A, 83 0192, 84 201E, 85 2026, 86 2020, 87 2021, 88 02C6, 89 2030, 8A 0160, 8B 2039, 8C 0152, 8E 017D, "
    ++ bytes "91 2018, 92 2019, 93 201C, 94 201D, 95 2022, 96 2013, 97 2014, 98 02DC, 99 2122, 9A 0161, 9B 203A, 9C 0153, 9E 017E, 9F 0178"

-- The first k entries of such a line.
unfoldable pub entries_of : ℕ → List ℕ → List (ℕ × ℕ)
entries_of zero line = []
entries_of (suc k) line = (number 16 (take 2 line), number 16 (take 4 (drop 3 line))) ∷ entries_of k (drop 9 line)

-- The standard's table is that line.
pub c1_line_lem : replacements ≡ entries_of 27 c1_line
unfolding computing entries_of c1_line
c1_line_lem = refl

-- '0, D800-DFFF and above 10FFFF give U+FFFD with error 3. 80-9F go through the table, error 3 always. 01-08, 0B, 0D-1F, 7F,
-- FDD0-FDEF and low 16 bits FFFE or FFFF keep their value, error 3.'
unfoldable pub meaning_listed : ℕ → Meaning
meaning_listed n =
    if eqb n 0 || between 0xD800 0xDFFF n || ltb 0x10FFFF n then means 0xFFFD 3
    else if between 0x80 0x9F n then means (replaced_by (entries_of 27 c1_line) n) 3
    else if between 0x1 0x8 n || eqb n 0xB || between 0xD 0x1F n || eqb n 0x7F || noncharacters n then means n 3
    else means n 0

-- A test that passes below k passes at each number below k.
unfoldable pub below : ℕ → (ℕ → Bool) → Bool
below zero p = true
below (suc k) p = p k && below k p

pub below_at : (k : ℕ) (p : ℕ → Bool) (n : ℕ) → below k p ≡ true → n < k → p n ≡ true
unfolding below
below_at zero p n e h = absurd (omega arith)
below_at (suc k) p n e h = go (eqb n k) refl (below_at k p n ((and-eq-true_iff (p k) (below k p)).0 e).1)
  where
    go : (t : Bool) → eqb n k ≡ t → (n < k → p n ≡ true) → p n ≡ true
    go true f ih = ap p (eqb-true n k f) ∙ ((and-eq-true_iff (p k) (below k p)).0 e).0
    go false f ih = let d = eqb-false n k f in ih (omega arith)

-- Below 100 hex the lists are compared by computing, from there on the lists of controls are past.
codes-low : below 0x100 (λ c. eqb (character_code c) (if with_error c then 5 else 0)) ≡ true
unfolding computing below
codes-low = refl

codes-high : (c : ℕ) → 0x100 ≤ c → character_code c ≡ (if with_error c then 5 else 0)
unfolding character_code
codes-high c h =
    rw (outside_between 0 0x1F c (inr (omega arith)), outside_between 0x7F 0x9F c (inr (omega arith)), outside_between 0x1 0x8 c (inr (omega arith)))
    (rw (outside_between 0xE 0x1F c (inr (omega arith)), ne_eqb c 0xB (omega arith)) refl)

-- The characters that get error 5.
pub characters : (c : ℕ) → character_code c ≡ (if with_error c then 5 else 0)
characters c = ⊎_elim (λ h. eqb-true _ _ (below_at 0x100 _ c codes-low h)) (λ h. codes-high c h) (below? c 0x100)

-- Two meanings are the same.
same : Meaning → Meaning → Bool
same a b = eqb a.char b.char && eqb a.code b.code

same-is : (a b : Meaning) → same a b ≡ true → a ≡ b
unfolding same
same-is a b e =
    let f = (and-eq-true_iff (eqb a.char b.char) (eqb a.code b.code)).0 e in
    λ i. means (eqb-true a.char b.char f.0 i) (eqb-true a.code b.code f.1 i)

meanings_low : below 0x100 (λ n. same (meaning_of n) (meaning_listed n)) ≡ true
unfolding computing below same meaning_listed entries_of c1_line
meanings_low = refl

meanings_high : (n : ℕ) → 0x100 ≤ n → meaning_of n ≡ meaning_listed n
unfolding meaning_of meaning_listed
meanings_high n h =
    rw (ne_eqb n 0 (omega arith), ne_eqb n 0xD (omega arith), outside_between 0 0x1F n (inr (omega arith)))
    (rw (outside_between 0x7F 0x9F n (inr (omega arith)))
    (rw (outside_between 0x80 0x9F n (inr (omega arith)), outside_between 0x1 0x8 n (inr (omega arith)), ne_eqb n 0xB (omega arith))
    (rw (outside_between 0xD 0x1F n (inr (omega arith)), ne_eqb n 0x7F (omega arith))
    (order (ltb 0x10FFFF n) (between 0xD800 0xDFFF n) (noncharacters n)))))
  where
    order : (outside surrogate nonchar : Bool)
        → (if outside then means 0xFFFD 3 else if surrogate then means 0xFFFD 3 else if nonchar then means n 3 else means n 0)
        ≡ (if surrogate || outside then means 0xFFFD 3 else if nonchar then means n 3 else means n 0)
    order true true nonchar = refl
    order true false nonchar = refl
    order false true nonchar = refl
    order false false nonchar = refl

-- What a number means.
pub meanings : (n : ℕ) → meaning_of n ≡ meaning_listed n
meanings n = ⊎_elim (λ h. same-is _ _ (below_at 0x100 _ n meanings_low h)) (λ h. meanings_high n h) (below? n 0x100)
