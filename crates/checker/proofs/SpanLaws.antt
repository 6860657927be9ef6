-- Runs: what holds of each of n elements, found one by one or in blocks.
use Prim.Native.Nat.{ℕ, ◌+◌, ◌-◌, ◌*◌, ◌≤◌, ◌<◌}
use mathlib.Core.Path.{◌≡◌, sym, ◌∙◌, ap, subst}
use mathlib.Core.List.{List}
use mathlib.Core.Bool.{Bool, true}
use mathlib.Core.Logic.{⊎_elim}
use native.Mathlib.Omega.{arith}
use lib.ListN.{get_or, take, drop}
use lib.Seq.{get_or-drop}
use Rattle.std.proofs.Common.{get_or-take}
use Rattle.lists.proofs.Choice.{below?}
use Rattle.checker.specs.Spans.{ordinary, Ordinary, alike, Alike, unit_row, UnitRows}

-- Whether the i-th byte is ordinary, and whether the i-th bytes are alike.
abbrev pub ordinary_at : (end : ℕ) (s : List ℕ) → ℕ → Bool
ordinary_at end s i = ordinary end (get_or s i 0)

abbrev pub alike_at : (s text : List ℕ) → ℕ → Bool
alike_at s text i = alike (get_or s i 0) (get_or text i 0)

-- Whether the i-th row from next on is of one byte.
abbrev pub unit_at : (rows : List ℕ) (next : ℕ) → ℕ → Bool
unit_at rows next i = unit_row (get_or rows (next + 3 * i) 0) (get_or rows (next + 3 * i + 1) 0) (get_or rows (next + 3 * i + 2) 0)

-- A test holds of the numbers below n.
abbrev Each : (ℕ → Bool) → ℕ → Type 0
Each p n = (i : ℕ) → i < n → p i ≡ true

-- Of n, and of m after them.
each-join : (p : ℕ → Bool) (n m : ℕ) → Each p n → ((i : ℕ) → i < m → p (n + i) ≡ true) → Each p (n + m)
each-join p n m first later i h =
    ⊎_elim (first i)
    (λ (k : n ≤ i). let e : n + (i - n) ≡ i = omega arith in subst (λ (j : ℕ). p j ≡ true) e (later (i - n) (omega arith))) (below? i n)

-- What stands in a part of some bytes stands in all of them.
part : (s : List ℕ) (i k j : ℕ) → j < k → get_or (take k (drop i s)) j 0 ≡ get_or s (i + j) 0
part s i k j h = get_or-take k (drop i s) j 0 h ∙ get_or-drop i s j 0

-- Bytes of which i are ordinary, and the first n of the rest after them.
pub ordinary_on : (end : ℕ) (s : List ℕ) (i n : ℕ) {rest : List ℕ} → rest ≡ drop i s → Ordinary end s i → Ordinary end rest n → Ordinary end s (i + n)
ordinary_on end s i n is first later =
    each-join (ordinary_at end s) i n first
    (λ j m. sym (ap (ordinary end) (ap (λ (r : List ℕ). get_or r j 0) is ∙ get_or-drop i s j 0)) ∙ later j m)

-- Where the first of a block of them are, so many of the rest are.
pub ordinary_first : (end : ℕ) (rest : List ℕ) (n : ℕ) {block : List ℕ} → block ≡ take n rest → Ordinary end block n → Ordinary end rest n
ordinary_first end rest n is all = λ j m. ap (ordinary end) (sym (ap (λ (r : List ℕ). get_or r j 0) is ∙ get_or-take n rest j 0 m)) ∙ all j m

-- Bytes of which i are alike, and the first n of parts after them.
pub alike_on : (s text : List ℕ) (i k m n : ℕ) → n ≤ k → n ≤ m → Alike s text i → Alike (take k (drop i s)) (take m (drop i text)) n
    → Alike s text (i + n)
alike_on s text i k m n h l first later =
    each-join (alike_at s text) i n first
    (λ j x. rw (part s i k j (omega arith), part text i m j (omega arith)) at (later j x))

-- The first n bytes of parts are the first of what they are parts of.
pub alike_part : (s text : List ℕ) (k m n : ℕ) → n ≤ k → n ≤ m → Alike (take k s) (take m text) n → Alike s text n
alike_part s text k m n h l same j x =
    rw (get_or-take k s j 0 (omega arith), get_or-take m text j 0 (omega arith)) at (same j x)

-- Rows of which i are of one byte, and n more.
pub units-join : (rows : List ℕ) (next i n : ℕ) → UnitRows rows next i → UnitRows rows (next + 3 * i) n → UnitRows rows next (i + n)
units-join rows next i n first later =
    each-join (unit_at rows next) i n first
    (λ j k. let there : next + 3 * i + 3 * j ≡ next + 3 * (i + j) = omega arith in rw there at (later j k))
