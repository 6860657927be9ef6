-- Laws of what is read of a source: by its first piece, by its first character, and by an `&` with what is held after it.
use Prim.Native.Nat.{ℕ, zero, suc, ◌+◌, ◌-◌, ◌≤◌, ◌<◌}
use Prim.Native.Char.{code}
use mathlib.Core.Path.{◌≡◌, refl, sym, ◌∙◌, ap}
use mathlib.Core.List.{List, [], ◌∷◌, ◌++◌}
use mathlib.Core.Bool.{false}
use native.Mathlib.Omega.{arith}
use lib.Dec.{eqb}
use lib.ListN.{length, take, drop, length-drop}
use lib.Seq.{drop-append-le}
use Rattle.lists.specs.Notation.{next}
use Rattle.lists.proofs.Every.{All}
use Rattle.standard.specs.declared.Context.{Context}
use Rattle.standard.specs.Errors.{listed, placed}
use Rattle.standard.specs.Classes.{character_code}
use Rattle.standard.specs.Names.{Name}
use Rattle.standard.specs.Pieces.{Piece, piece, piece_at}
use Rattle.standard.specs.Reading.{pieces_from, pieces, Reading, reading, reading_at, ◌⊕◌, joined}
use Rattle.standard.proofs.Ascii.{Plain}
use Rattle.standard.proofs.Bounds.{pieces_unfold}
use Rattle.standard.proofs.Joining.{⊕-assoc}
use Rattle.standard.proofs.Skips.{drop_pred}
use Rattle.decoder.proofs.Looks.{Looks, ascii, looks_read, looks_length, next-same}

-- What holds of every element holds of those after the first k.
pub all_drop : (P : ℕ → Type 0) (k : ℕ) (h : List ℕ) → All P h → All P (drop k h)
all_drop P zero h all = all
all_drop P (suc k) [] all = all
all_drop P (suc k) (c ∷ h) all = all_drop P k h all.1

-- What holds of every element of two lists holds of those of both.
pub all_append : (P : ℕ → Type 0) (g h : List ℕ) → All P g → All P h → All P (g ++ h)
all_append P [] h all more = more
all_append P (c ∷ g) h all more = (all.0, all_append P g h all.1 more)

module _ (names : List Name) (context : Context) where
  -- What is read of a source from a place on.
  abbrev pub read_from : ℕ → List ℕ → Reading
  read_from p s = joined p (pieces names context s)

  -- Of nothing, nothing.
  pub read_nothing : (p : ℕ) → read_from p [] ≡ reading [] []
  unfolding pieces_from joined
  read_nothing p = refl

  -- Of a source, its first piece and what is read of the rest.
  pub read_piece : (p : ℕ) (s : List ℕ) (q : Piece) → 0 < length s → piece_at names context s ≡ q
      → read_from p s ≡ reading_at p q ⊕ read_from (p + q.size) (drop q.size s)
  unfolding joined
  read_piece p s q h e =
      ap (joined p) (pieces_unfold names context s h)
      ∙ ap (λ (q : Piece). reading_at p q ⊕ read_from (p + q.size) (drop q.size s)) e

  -- A character that is no CR and no `&` is a piece.
  character_piece : (s : List ℕ) {c n : ℕ} → Looks s c n → next (code "\r") s ≡ false → next (code "&") s ≡ false
      → piece_at names context s ≡ piece n (take n s) (listed (character_code c))
  unfolding piece_at
  character_piece [] look e f = absurd (omega (arith, looks_length look))
  character_piece (b ∷ s) look e f = rw (e, f, looks_read look)

  -- So it is read as itself, with its error if it has one.
  pub read_character : (p : ℕ) {s : List ℕ} {c n : ℕ} → Looks s c n → eqb c (code "\r") ≡ false → eqb c (code "&") ≡ false
      → read_from p s ≡ reading (take n s) (placed p (listed (character_code c))) ⊕ read_from (p + n) (drop n s)
  read_character p {s} {c} {n} look e f =
      read_piece p s (piece n (take n s) (listed (character_code c))) (omega (arith, looks_length look))
      (character_piece s look (next-same (code "\r") (omega arith) look ∙ e)
      (next-same (code "&") (omega arith) look ∙ f))

  -- Bytes that stand for themselves are their own text.
  pub read_plains : (p : ℕ) (h s : List ℕ) → All Plain h → read_from p (h ++ s) ≡ reading h [] ⊕ read_from (p + length h) s
  unfolding placed
  read_plains p [] s all = ap (λ (n : ℕ). read_from n s) (let e : p ≡ p + 0 = omega arith in e)
  read_plains p (c ∷ h) s all =
      let w = all.0 in
      read_character p {s = c ∷ h ++ s} (ascii w.0) w.1 w.2
      ∙ rw w.3
      (ap (λ (r : Reading). reading (c ∷ []) [] ⊕ r)
      (read_plains (p + 1) h s all.1
      ∙ ap (λ (n : ℕ). reading h [] ⊕ read_from n s) (let e : p + 1 + length h ≡ p + suc (length h) = omega arith in e)))

  -- Where the piece of an `&` is within what is held, what is held after the piece stands for itself.
  pub read_held : (q : ℕ) (h s : List ℕ) (x : Piece) → All Plain h → piece_at names context (code "&" ∷ h ++ s) ≡ x → 1 ≤ x.size
      → x.size ≤ suc (length h)
      → read_from q (code "&" ∷ h ++ s) ≡ (reading_at q x ⊕ reading (drop (x.size - 1) h) []) ⊕ read_from (suc (q + length h)) s
  read_held q h s x all e some there =
      let fits : x.size - 1 ≤ length h = omega arith in
      read_piece q (code "&" ∷ h ++ s) x (omega arith) e
      ∙ ap (λ (r : Reading). reading_at q x ⊕ r)
      (ap (read_from (q + x.size)) (sym (drop_pred x.size (code "&") (h ++ s) some) ∙ drop-append-le (x.size - 1) h s fits)
      ∙ read_plains (q + x.size) (drop (x.size - 1) h) s (all_drop Plain (x.size - 1) h all)
      ∙ ap (λ (n : ℕ). reading (drop (x.size - 1) h) [] ⊕ read_from n s)
      (let i : q + x.size + length (drop (x.size - 1) h) ≡ suc (q + length h) = simp length-drop (omega arith) in i))
      ∙ sym (⊕-assoc (reading_at q x) (reading (drop (x.size - 1) h) []) (read_from (suc (q + length h)) s))
