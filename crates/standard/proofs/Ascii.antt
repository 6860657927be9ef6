-- Runs of ASCII bytes: each is a character of its own, so a run is read at once.
use Prim.Native.Nat.{ℕ, zero, suc, ◌+◌, ◌≤◌, ◌<◌}
use Prim.Native.Char.{code}
use mathlib.Core.Path.{◌≡◌, refl, ◌∙◌, ap}
use mathlib.Core.List.{List, [], ◌∷◌}
use mathlib.Core.Bool.{Bool, true, false, not, ◌||◌, ◌&&◌}
use mathlib.Core.Logic.{◌⊎◌, inl, inr, ⊎_elim}
use native.Mathlib.Omega.{arith}
use lib.Dec.{eqb}
use lib.ListN.{length, take, drop}
use borrow.Author.Tests.{lt-ltb, eqb-true, not-true}
use Rattle.lists.specs.Notation.{between, every}
use Rattle.lists.proofs.Choice.{and_true, or_true, between_true}
use Rattle.standard.specs.declared.Context.{Context}
use Rattle.standard.specs.declared.characters.CharRead.TheVariants.{Char}
use Rattle.standard.specs.Utf8.{tails, after_lead, read_char}
use Rattle.standard.specs.Errors.{no_error, placed}
use Rattle.standard.specs.Classes.{character_code}
use Rattle.standard.specs.Names.{Name}
use Rattle.standard.specs.Pieces.{piece, piece_at}
use Rattle.standard.proofs.Computing.{computing}
use Rattle.standard.proofs.Lists.{below, below_at}
use Rattle.standard.specs.Reading.{pieces_from, pieces, Reading, reading, ◌⊕◌, joined}

-- An ASCII byte is a character of its own.
pub read-ascii : (b : ℕ) (s : List ℕ) → b < 0x80 → read_char (b ∷ s) ≡ Char b 1
unfolding read_char after_lead tails
read-ascii b s h = rw (lt-ltb b 0x80 h)

-- A byte that stands for itself without an error: ASCII, no CR, no `&`, and of no class that has an error.
abbrev pub Plain : ℕ → Type 0
Plain b = (b < 0x80) × (eqb b (code "\r") ≡ false) × (eqb b (code "&") ≡ false) × (character_code b ≡ no_error)

-- Printable ASCII has no error and is no CR: computed for each.
printable : ℕ → Bool
printable b = not (between 0x20 0x7E b) || (not (eqb b (code "\r")) && eqb (character_code b) no_error)

all_printable : below 0x80 printable ≡ true
unfolding computing below printable
all_printable = refl

-- So all of it but `&` stands for itself.
plain_printable : (b : ℕ) → between 0x20 0x7E b && not (eqb b (code "&")) ≡ true → Plain b
unfolding printable
plain_printable b e =
    let u = and_true (between 0x20 0x7E b) (not (eqb b (code "&"))) e in
    let h = between_true 0x20 0x7E b u.0 in
    let w = and_true (not (eqb b (code "\r"))) (eqb (character_code b) no_error)
    (rw u.0 at (below_at 0x80 printable b all_printable (omega arith))) in
    (omega arith, not-true (eqb b (code "\r")) w.0, not-true (eqb b (code "&")) u.1, eqb-true (character_code b) no_error w.1)

-- LF and tab do too.
plain_blank : (b : ℕ) → (b ≡ 0xA) ⊎ (b ≡ 0x9) → Plain b
unfolding computing
plain_blank b (inl e) = rw e (omega arith, refl, refl, refl)
plain_blank b (inr e) = rw e (omega arith, refl, refl, refl)

-- So each of them stands for itself.
pub plain-standing : (b : ℕ) → between 0x20 0x7E b && not (eqb b (code "&")) || eqb b 0xA || eqb b 0x9 ≡ true → Plain b
plain-standing b e =
    let printable = between 0x20 0x7E b && not (eqb b (code "&")) in
    ⊎_elim (λ f. ⊎_elim (plain_printable b) (λ g. plain_blank b (inl (eqb-true b 0xA g))) (or_true printable (eqb b 0xA) f))
    (λ g. plain_blank b (inr (eqb-true b 0x9 g))) (or_true (printable || eqb b 0xA) (eqb b 0x9) e)

-- Such a byte is a piece of its own.
plain-piece : (names : List Name) (context : Context) (b : ℕ) (s : List ℕ) → Plain b → piece_at names context (b ∷ s) ≡ piece 1 (b ∷ []) []
unfolding piece_at
plain-piece names context b s h = rw (h.1, h.2, read-ascii b s h.0, h.3)

joined-plain : (names : List Name) (context : Context) (b : ℕ) (s : List ℕ) (offset : ℕ) → Plain b
    → joined offset (pieces names context (b ∷ s)) ≡ reading (b ∷ []) [] ⊕ joined (offset + 1) (pieces names context s)
unfolding pieces_from joined placed
joined-plain names context b s offset h = rw (plain-piece names context b s h)

-- A run of them is its own text.
pub joined-run : (names : List Name) (context : Context) (p : ℕ → Bool) → ((b : ℕ) → p b ≡ true → Plain b) → (n : ℕ) (s : List ℕ) (offset : ℕ)
    → n ≤ length s → every p (take n s) ≡ true
    → joined offset (pieces names context s) ≡ reading (take n s) [] ⊕ joined (offset + n) (pieces names context (drop n s))
joined-run names context p plain zero s offset h e = ap (λ (n : ℕ). joined n (pieces names context s)) (omega arith)
joined-run names context p plain (suc n) [] offset h e = absurd (omega arith)
joined-run names context p plain (suc n) (b ∷ s) offset h e =
    let w = and_true (p b) (every p (take n s)) e in
    joined-plain names context b s offset (plain b w.0)
    ∙ ap (λ (r : Reading). reading (b ∷ []) [] ⊕ r)
    (joined-run names context p plain n s (offset + 1) (omega arith) w.1
    ∙ ap (λ (k : ℕ). reading (take n s) [] ⊕ joined k (pieces names context (drop n s))) (omega arith))
