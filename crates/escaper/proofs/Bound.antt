-- The result of escaping is at most six times as long as the input.
use Prim.Native.Nat.{ℕ, zero, suc, ◌+◌, ◌-◌, ◌*◌, ◌≤◌}
use Prim.Native.Char.{code}
use mathlib.Core.Path.{◌≡◌, refl}
use mathlib.Core.List.{List, [], ◌∷◌}
use mathlib.Core.Bool.{◌&&◌}
use native.Mathlib.Omega.{arith}
use lib.Dec.{eqb}
use lib.ListN.{length, take, length-append, length-take}
use Rattle.lists.proofs.Choice.{if_both}
use Rattle.standard.specs.declared.characters.CharRead.{CharRead}
use Rattle.standard.specs.declared.characters.CharRead.TheVariants.{Char, Incomplete, Illformed, End}
use Rattle.standard.specs.Utf8.{read_char}
use Rattle.standard.specs.Reading.{size_of}
use Rattle.standard.proofs.Computing.{computing}
use Rattle.standard.proofs.Utf8.{read_length}
use Rattle.escaper.specs.declared.Mode.{Mode}
use Rattle.escaper.specs.Escape.{in_attribute, written_for, written_for_read, escape_from, escape}

-- What is written for a character is its own bytes, or at most six.
written_six : (mode : Mode) (c room : ℕ) (own : List ℕ) → 6 ≤ room → length own ≤ room → length (written_for mode c own) ≤ room
unfolding written_for computing
written_six mode c room own h o =
    if_both Short (eqb c (code "&")) _ _ (λ t. omega arith)
    (λ f. if_both Short (eqb c (code "<")) _ _ (λ t. omega arith)
    (λ f. if_both Short (eqb c (code ">")) _ _ (λ t. omega arith)
    (λ f. if_both Short (eqb c 0xA0) _ _ (λ t. omega arith)
    (λ f. if_both Short (in_attribute mode && eqb c (code "\"")) _ _ (λ t. omega arith) (λ f. o)))))
  where
    Short : List ℕ → Type 0
    Short l = length l ≤ room

-- What is written for what is read, and six times what is left after it, is at most six times what there is.
read_six : (mode : Mode) (b : ℕ) (s : List ℕ) (r : CharRead) → read_char (b ∷ s) ≡ r
    → length (written_for_read mode r (b ∷ s)) + 6 * (length s - (size_of r - 1)) ≤ 6 * suc (length s)
read_six mode b s (Char c n) e =
    let w = read_length (b ∷ s) c n e in
    omega (arith, written_six mode c (6 * n) (take n (b ∷ s)) (omega arith) (simp length-take (omega arith)))
read_six mode b s (Incomplete n) e = omega arith
read_six mode b s (Illformed n) e = omega arith
read_six mode b s End e = omega arith

-- The result after k bytes is at most six times as long as the rest.
escape-from_six : (mode : Mode) (k : ℕ) (s : List ℕ) → length (escape_from mode k s) ≤ 6 * (length s - k)
unfolding escape_from
escape-from_six mode k [] = omega arith
escape-from_six mode zero (b ∷ s) =
    let later = escape-from_six mode (size_of (read_char (b ∷ s)) - 1) s in
    simp length-append (omega (arith, read_six mode b s (read_char (b ∷ s)) refl))
escape-from_six mode (suc k) (b ∷ s) = omega (arith, escape-from_six mode k s)

-- The result is at most six times as long as the input.
pub escape_six : (mode : Mode) (s : List ℕ) → length (escape mode s) ≤ 6 * length s
escape_six mode s = omega (arith, escape-from_six mode 0 s)
