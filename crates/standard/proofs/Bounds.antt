-- The pieces of a source, one after the other, and the bounds of what is read: sizes, text and errors.
use Prim.Native.Nat.{ℕ, zero, suc, ◌+◌, ◌-◌, ◌≤◌, ◌<◌}
use mathlib.Core.Path.{◌≡◌, refl, ◌∙◌, ap, subst}
use mathlib.Core.List.{List, [], ◌∷◌, ◌++◌}
use native.Mathlib.Omega.{arith}
use lib.ListN.{length, drop, length-drop, length-append}
use Rattle.standard.specs.declared.Context.{Context}
use Rattle.standard.specs.Errors.{placed}
use Rattle.standard.specs.Names.{Name}
use Rattle.standard.specs.Pieces.{Piece, piece_at}
use Rattle.standard.specs.Reading.{pieces_from, pieces, Reading, joined, decode, text_bound, errors_bound}
use Rattle.standard.proofs.Skips.{drop_pred, pieces_skip}
use Rattle.standard.proofs.Narrow.{Narrow}
use Rattle.standard.proofs.PieceSize.{piece-fits, piece-size}

-- The pieces of a source are its first piece and those of what that leaves.
pub pieces_unfold : (names : List Name) (context : Context) (s : List ℕ) → 0 < length s
    → pieces_from names context 0 s ≡ piece_at names context s ∷ pieces_from names context 0 (drop (piece_at names context s).size s)
unfolding pieces_from
pieces_unfold names context [] h = absurd (omega arith)
pieces_unfold names context (b ∷ s) h =
    let p : Piece = piece_at names context (b ∷ s) in
    ap (λ (ps : List Piece). p ∷ ps)
    (pieces_skip names context (p.size - 1) s
    ∙ ap (λ (l : List ℕ). pieces_from names context 0 l) (drop_pred p.size b s (piece-size names context (b ∷ s) h).0))

-- What holds of no bytes, and of a source wherever it holds of what the first piece leaves, holds of each source.
pub pieces_induction {ℓ} : (names : List Name) (context : Context) (P : List ℕ → List Piece → Type ℓ) → P [] []
    → ((s : List ℕ) (ps : List Piece) → 0 < length s → P (drop (piece_at names context s).size s) ps → P s (piece_at names context s ∷ ps))
    → (s : List ℕ) → P s (pieces names context s)
unfolding pieces_from
pieces_induction names context P none more s = from 0 s
  where
    from : (k : ℕ) (s : List ℕ) → P (drop k s) (pieces_from names context k s)
    from zero [] = none
    from (suc k) [] = none
    from zero (b ∷ s) =
        let p : Piece = piece_at names context (b ∷ s) in
        let ps : List Piece = pieces_from names context (p.size - 1) s in
        more (b ∷ s) ps (omega arith)
        (subst (λ (l : List ℕ). P l ps) (drop_pred p.size b s (piece-size names context (b ∷ s) (omega arith)).0) (from (p.size - 1) s))
    from (suc k) (b ∷ s) = from k s

-- As many errors are placed as there are codes.
pub length-placed : (offset : ℕ) (codes : List ℕ) → length (placed offset codes) ≡ length codes
unfolding placed
length-placed offset [] = refl
length-placed offset (c ∷ codes) = ap suc (length-placed offset codes)

-- Two lists, one not longer than k and one not longer than what k elements leave, are together not longer than all.
join-fits : {A : Type 0} (k : ℕ) (s : List ℕ) (a b : List A) → k ≤ length s → length a ≤ k → length b ≤ length (drop k s) → length (a ++ b) ≤ length s
join-fits k s a b h i j = simp length-append (omega (arith, length-drop k s))

-- A reading fits in n bytes: it has no more errors, and with narrow names no longer a text.
abbrev ReadingFits : List Name → ℕ → Reading → Type 0
ReadingFits names n r = (length r.errors ≤ n) × (Narrow names → length r.text ≤ n)

-- What is read of a source fits in its bytes.
pub reading-fits : (names : List Name) (context : Context) (s : List ℕ) (offset : ℕ)
    → ReadingFits names (length s) (joined offset (pieces names context s))
unfolding joined
reading-fits names context =
    pieces_induction names context (λ s ps. (offset : ℕ) → ReadingFits names (length s) (joined offset ps))
    (λ offset. (omega arith, λ narrow. omega arith)) more
  where
    more : (s : List ℕ) (ps : List Piece) → 0 < length s
        → ((offset : ℕ) → ReadingFits names (length (drop (piece_at names context s).size s)) (joined offset ps))
        → (offset : ℕ) → ReadingFits names (length s) (joined offset (piece_at names context s ∷ ps))
    more s ps h rest offset =
        let p : Piece = piece_at names context s in
        let w = piece-fits names context s h in
        let r = rest (offset + p.size) in (
          join-fits p.size s (placed offset p.codes) _ w.there (rw length-placed w.few) r.0,
          λ narrow. join-fits p.size s p.text _ w.there (w.short narrow) (r.1 narrow),
        )

-- With narrow names the text of a source is within its bound.
pub text_fits : (names : List Name) (context : Context) (s : List ℕ) → Narrow names → length (decode names context s).text ≤ text_bound (length s)
text_fits names context s = (reading-fits names context s 0).1

-- The errors of a source are within their bound.
pub errors_fit : (names : List Name) (context : Context) (s : List ℕ) → length (decode names context s).errors ≤ errors_bound (length s)
errors_fit names context s = (reading-fits names context s 0).0
