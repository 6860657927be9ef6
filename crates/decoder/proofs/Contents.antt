-- Laws of what is written into the error room: codes of errors as numbers.
use Prim.Native.Nat.{ℕ, ◌≤◌}
use mathlib.Core.Path.{◌≡◌, refl, ◌∙◌, ap}
use mathlib.Core.List.{List, [], ◌∷◌, ◌++◌}
use native.Mathlib.Omega.{arith}
use lib.Dec.{eqb}
use lib.ListN.{length, length-append}
use Rattle.lists.proofs.Choice.{if_both}
use Rattle.standard.specs.Errors.{no_error, listed, Error, error, placed, numbers}
use Rattle.standard.proofs.Joining.{numbers-append}
use Rattle.decoder.specs.declared.pieces.Piece.{Piece}
use Rattle.decoder.specs.Pieces.{piece_of}

-- Joined codes at one place are the errors of each.
placed-append : (offset : ℕ) (a b : List ℕ) → placed offset (a ++ b) ≡ placed offset a ++ placed offset b
unfolding placed
placed-append offset [] b = refl
placed-append offset (c ∷ a) b = ap (λ (l : List Error). error c offset ∷ l) (placed-append offset a b)

-- The numbers of joined codes at one place are joined numbers.
pub placed-numbers : (offset : ℕ) (a b : List ℕ) → numbers (placed offset (a ++ b)) ≡ numbers (placed offset a) ++ numbers (placed offset b)
placed-numbers offset a b = ap numbers (placed-append offset a b) ∙ numbers-append (placed offset a) (placed offset b)

-- A code is at most two numbers.
pub listed-short : (offset code : ℕ) → length (numbers (placed offset (listed code))) ≤ 2
unfolding numbers placed
listed-short offset code =
    if_both (λ (l : List ℕ). length (numbers (placed offset l)) ≤ 2) (eqb code no_error) _ _ (λ t. omega arith) (λ f. omega arith)

-- The errors of a piece are at most four numbers.
pub piece-few : (offset : ℕ) (p : Piece) → length (numbers (placed offset (piece_of p).codes)) ≤ 4
piece-few offset p =
    rw (placed-numbers offset (listed p.first) (listed p.second))
    (simp length-append (omega (arith, listed-short offset p.first, listed-short offset p.second)))
