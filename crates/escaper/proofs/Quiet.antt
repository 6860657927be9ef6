-- Quiet characters: where the first byte of a character is quiet, all its bytes are, and it is written as it stands.
use Prim.Native.Nat.{ℕ, zero, suc, ◌/◌, ◌%◌, ◌+◌, ◌-◌, ◌<◌}
use Prim.Native.Char.{code}
use mathlib.Core.Path.{◌≡◌, refl, sym, ◌∙◌, ap}
use mathlib.Core.List.{List, ◌∷◌}
use mathlib.Core.Bool.{true, false}
use native.Mathlib.Omega.{arith}
use native.Mathlib.Numerals.{sub-one}
use lib.Dec.{ltb, eqb}
use lib.ListN.{get_or, take, drop}
use borrow.Author.Tests.{ne_eqb}
use Rattle.lists.specs.Notation.{every}
use Rattle.lists.proofs.Choice.{if_both, no_way}
use Rattle.standard.specs.declared.characters.CharRead.TheVariants.{Char}
use Rattle.standard.specs.Utf8.{read_char, octets}
use Rattle.standard.proofs.Utf8.{read_length}
use Rattle.standard.proofs.RoundTrip.{encode-octets}
use Rattle.standard.proofs.Back.{read_back}
use Rattle.escaper.specs.declared.Mode.{Mode}
use Rattle.escaper.specs.declared.Mode.TheVariants.{Text, Attribute}
use Rattle.escaper.specs.Escape.{written_for}
use Rattle.runs.specs.Kinds.{quiet}
use Rattle.escaper.specs.Walk.{quote_of}

-- The byte of a mode is ASCII.
quote_ascii : (mode : Mode) → quote_of mode < 0x80
quote_ascii Text = omega arith
quote_ascii Attribute = omega arith

-- A byte that can stand after the first of a character is quiet.
quiet_tail : (mode : Mode) (n : ℕ) → quiet (quote_of mode) (0x80 + n % 64) ≡ true
unfolding quiet
quiet_tail mode n =
    let q = quote_ascii mode in
    let b : ℕ = 0x80 + n % 64 in
    rw (ne_eqb b (code "&") (omega arith), ne_eqb b (code "<") (omega arith), ne_eqb b (code ">") (omega arith))
    (rw (ne_eqb b 0xC2 (omega arith), ne_eqb b (quote_of mode) (omega arith)) refl)

-- The bytes after the first of a character are quiet.
quiet-tails : (mode : Mode) (c : ℕ) → every (quiet (quote_of mode)) (drop 1 (octets c)) ≡ true
unfolding octets
quiet-tails mode c =
    if_both Tails (ltb c 0x80) _ _ (λ t. refl)
    (λ f. if_both Tails (ltb c 0x800) _ _ (λ t. rw (quiet_tail mode c))
    (λ f. if_both Tails (ltb c 0x10000) _ _ (λ t. rw (quiet_tail mode (c / 64), quiet_tail mode c))
    (λ f. rw (quiet_tail mode (c / 4096), quiet_tail mode (c / 64), quiet_tail mode c))))
  where
    Tails : List ℕ → Type 0
    Tails l = every (quiet (quote_of mode)) (drop 1 l) ≡ true

-- A character whose first byte is quiet is none whose first byte isn't.
other-character : (mode : Mode) (c v : ℕ) → quiet (quote_of mode) (get_or (octets c) 0 0) ≡ true
    → quiet (quote_of mode) (get_or (octets v) 0 0) ≡ false
    → eqb c v ≡ false
other-character mode c v p q = ne_eqb c v (λ e. no_way (sym p ∙ ap (λ (n : ℕ). quiet (quote_of mode) (get_or (octets n) 0 0)) e ∙ q))

-- It is written as it stands.
quiet-written : (mode : Mode) (c : ℕ) (own : List ℕ) → quiet (quote_of mode) (get_or (octets c) 0 0) ≡ true → written_for mode c own ≡ own
unfolding written_for quiet octets
quiet-written Text c own p =
    rw (other-character Text c (code "&") p refl, other-character Text c (code "<") p refl, other-character Text c (code ">") p refl)
    (rw (other-character Text c 0xA0 p refl) refl)
quiet-written Attribute c own p =
    rw (other-character Attribute c (code "&") p refl, other-character Attribute c (code "<") p refl, other-character Attribute c (code ">") p refl)
    (rw (other-character Attribute c 0xA0 p refl, other-character Attribute c (code "\"") p refl) refl)

-- The same of a character that is read.
pub quiet-character : (mode : Mode) (b : ℕ) (s : List ℕ) (c n : ℕ) → read_char (b ∷ s) ≡ Char c n → quiet (quote_of mode) b ≡ true
    → (every (quiet (quote_of mode)) (take (n - 1) s) ≡ true) × (written_for mode c (take n (b ∷ s)) ≡ b ∷ take (n - 1) s)
quiet-character mode b s c zero e p = absurd (omega (arith, read_length (b ∷ s) c zero e))
quiet-character mode b s c (suc n) e p =
    let back = read_back (b ∷ s) c (suc n) e in
    let o : octets c ≡ b ∷ take n s = sym (encode-octets c back.1) ∙ back.0 in
    rw sub-one (rw o at (quiet-tails mode c), quiet-written mode c (b ∷ take n s) (rw o p))
