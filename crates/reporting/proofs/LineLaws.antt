-- Laws of lines: how they fall into the parts that are written one after the other.
use Prim.Native.Nat.{ℕ, suc, ◌-◌, ◌≤◌}
use Prim.Native.Char.{code}
use mathlib.Core.Path.{◌≡◌, refl, ap}
use mathlib.Core.List.{List, [], ◌∷◌, ◌++◌, append_assoc}
use native.Mathlib.Omega.{arith}
use lib.ListN.{length, get_or, take, drop}
use lib.Seq.{take_all}
use Rattle.standard.specs.Errors.{Error, numbers}
use Rattle.reporting.specs.Report.{decimal, pair, line, error_lines}
use Rattle.reporting.specs.Lines.{pair_lines}

-- A line of two numbers is the first, a space, the second, and LF.
pub pair_line : (a b : ℕ) → line (pair a b) ≡ decimal a ++ (code " " ∷ (decimal b ++ (code "\n" ∷ [])))
pair_line a b = simp append_assoc

-- A line of a word and more is the word, and a line of the rest.
pub word_line : (word rest : List ℕ) → line (word ++ rest) ≡ word ++ line rest
word_line word rest = append_assoc word rest (code "\n" ∷ [])

-- Where two numbers are left, their line comes first.
pub pairs_more : (ns : List ℕ) → 2 ≤ length ns
    → pair_lines ns ≡ line (pair (get_or ns 0 0) (get_or ns 1 0)) ++ pair_lines (take (length ns - 2) (drop 2 ns))
unfolding pair_lines
pairs_more [] h = absurd (omega arith)
pairs_more (a ∷ []) h = absurd (omega arith)
pairs_more (a ∷ b ∷ ns) h = rw (take_all (suc (suc (length ns)) - 2) ns (omega arith))

-- Where at most one number is left, no line is.
pub pairs_none : (ns : List ℕ) → length ns ≤ 1 → pair_lines ns ≡ []
unfolding pair_lines
pairs_none [] h = refl
pairs_none (a ∷ []) h = refl
pairs_none (a ∷ b ∷ ns) h = absurd (omega arith)

-- The lines of errors are those of their numbers.
pub pair_lines_lem : (errors : List Error) → pair_lines (numbers errors) ≡ error_lines errors
unfolding pair_lines numbers error_lines
pair_lines_lem [] = refl
pair_lines_lem (e ∷ errors) = ap (λ (l : List ℕ). line (pair e.code e.place) ++ l) (pair_lines_lem errors)
