-- Laws of some pieces: how many bytes they have, which of them bytes reach into, and their reading.
use Prim.Native.Nat.{ℕ, zero, suc, ◌+◌, ◌-◌, ◌≤◌, ◌<◌}
use mathlib.Core.Path.{◌≡◌, refl, sym, ◌∙◌, ap}
use mathlib.Core.List.{List, [], ◌∷◌, ◌++◌}
use native.Mathlib.Omega.{arith}
use lib.ListN.{length, drop}
use Rattle.lists.proofs.Every.{All}
use Rattle.standard.specs.declared.Context.{Context}
use Rattle.standard.specs.Names.{Name}
use Rattle.standard.specs.Pieces.{Piece}
use Rattle.standard.specs.Reading.{pieces, Reading, ◌⊕◌, reading_at, joined}
use Rattle.standard.proofs.PieceSize.{piece-size}
use Rattle.standard.proofs.Bounds.{pieces_unfold, pieces_induction}
use Rattle.standard.proofs.Joining.{⊕-assoc}
use Rattle.checker.specs.Transcript.{total, reached}

-- Every piece has a byte.
abbrev pub Sized : List Piece → Type 0
Sized ps = All (λ (p : Piece). 1 ≤ p.size) ps

-- So has every piece of a source.
pub pieces-sized : (names : List Name) (context : Context) (s : List ℕ) → Sized (pieces names context s)
pieces-sized names context =
    pieces_induction names context (λ s ps. Sized ps) tt (λ s ps h rest. ((piece-size names context s h).0, rest))

-- A source that has bytes has pieces.
pub pieces-some : (names : List Name) (context : Context) (s : List ℕ) → 0 < length s → 0 < length (pieces names context s)
pieces-some names context s h = rw (pieces_unfold names context s h) (omega arith)

-- Where every piece has a byte, those of a front have one and those of the rest.
pub sized-parts : (a b : List Piece) → Sized (a ++ b) → Sized a × Sized b
sized-parts [] b s = (tt, s)
sized-parts (p ∷ a) b s = let w = sized-parts a b s.1 in ((s.0, w.0), w.1)

-- The bytes of a front and those of the rest are all.
pub total-append : (a b : List Piece) → total (a ++ b) ≡ total a + total b
unfolding total
total-append [] b = omega arith
total-append (p ∷ a) b = omega (arith, total-append a b)

-- There are no more pieces than bytes.
pub total-least : (a : List Piece) → Sized a → length a ≤ total a
unfolding total
total-least [] s = omega arith
total-least (p ∷ a) s = omega (arith, s.0, total-least a s.1)

-- The bytes of a front reach into that front.
pub reached-front : (a b : List Piece) → Sized a → reached (total a) (a ++ b) ≡ a
unfolding reached total
reached-front [] [] s = refl
reached-front [] (p ∷ b) s = refl
reached-front (p ∷ a) b s = go (p.size + total a) refl (reached-front a b s.1)
  where
    go : (n : ℕ) → p.size + total a ≡ n → reached (total a) (a ++ b) ≡ a → reached n (p ∷ (a ++ b)) ≡ p ∷ a
    go zero e later = absurd (omega (arith, s.0))
    go (suc n) e later = let less : suc n - p.size ≡ total a = omega arith in rw less (ap (λ (l : List Piece). p ∷ l) later)

-- What n bytes reach into is a front.
pub reached-cut : (n : ℕ) (ps : List Piece) → ps ≡ reached n ps ++ drop (length (reached n ps)) ps
unfolding reached
reached-cut n [] = refl
reached-cut zero (p ∷ ps) = refl
reached-cut (suc n) (p ∷ ps) = ap (λ (l : List Piece). p ∷ l) (reached-cut (suc n - p.size) ps)

-- Bytes that are there reach into some piece.
pub reached-some : (n : ℕ) (ps : List Piece) → 0 < n → n ≤ total ps → 0 < length (reached n ps)
unfolding reached total
reached-some n [] h k = absurd (omega arith)
reached-some zero (p ∷ ps) h k = absurd (omega arith)
reached-some (suc n) (p ∷ ps) h k = omega arith

-- A front and the rest are read one after the other.
pub joined-append : (at : ℕ) (a b : List Piece) → joined at (a ++ b) ≡ joined at a ⊕ joined (at + total a) b
unfolding joined total
joined-append at [] b = ap (λ (n : ℕ). joined n b) (omega arith)
joined-append at (p ∷ a) b =
    let here : Reading = reading_at at p in
    let later : Reading = joined (at + p.size) a in
    ap (λ (x : Reading). here ⊕ x) (joined-append (at + p.size) a b) ∙ sym (⊕-assoc here later (joined (at + p.size + total a) b))
    ∙ ap (λ (n : ℕ). (here ⊕ later) ⊕ joined n b) (let e : at + p.size + total a ≡ at + (p.size + total a) = omega arith in e)
