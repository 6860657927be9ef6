-- The character at the front of some bytes: ASCII, or several bytes that begin with none that a reference has.
use Prim.Native.Nat.{ℕ, zero, suc, ◌≤◌, ◌<◌}
use Prim.Native.Char.{code}
use mathlib.Core.Path.{◌≡◌, refl, sym, ◌∙◌, ap, subst}
use mathlib.Core.Logic.{inr, ⊎_elim}
use mathlib.Core.List.{List, [], ◌∷◌}
use mathlib.Core.Bool.{Bool, true, false, not, ◌||◌}
use native.Mathlib.Omega.{arith}
use lib.Dec.{eqb}
use lib.ListN.{length, get_or, take}
use borrow.Author.Tests.{lt-ltb, le-ltb, ne_eqb, eqb-true}
use Rattle.lists.specs.Notation.{next, next_passes}
use Rattle.lists.proofs.Choice.{no_way, below?, outside_between}
use Rattle.lists.proofs.Every.{All}
use Rattle.standard.specs.declared.characters.CharRead.TheVariants.{Char}
use Rattle.standard.specs.Classes.{alphanumeric}
use Rattle.standard.specs.Numbers.{digit_of, is_digit}
use Rattle.standard.specs.Utf8.{octets, encode, read_char}
use Rattle.standard.proofs.Ascii.{read-ascii, Plain, plain-standing}
use Rattle.standard.proofs.Back.{read_back}
use Rattle.standard.proofs.Computing.{computing}
use Rattle.standard.proofs.Lists.{below, below_at}
use Rattle.standard.proofs.Utf8.{read_length}
use Rattle.runs.specs.Kinds.{standing}

-- A character c of n bytes is at the front of s.
pub data Looks : List ℕ → ℕ → ℕ → Type 0 where
  ascii : {b : ℕ} {s : List ℕ} → b < 0x80 → Looks (b ∷ s) b 1
  wide : {b c n : ℕ} {s : List ℕ} → 0x80 ≤ b → 0x80 ≤ c → read_char (b ∷ s) ≡ Char c (suc n) → Looks (b ∷ s) c (suc n)

-- A character of ASCII is its own byte.
pub own_byte : (c : ℕ) → c < 0x80 → encode c ≡ c ∷ []
unfolding encode octets
own_byte c h = rw (lt-ltb c 0xD800 (omega arith), lt-ltb c 0x80 h)

-- What is read is at the front.
pub looks : (s : List ℕ) (c n : ℕ) → read_char s ≡ Char c n → Looks s c n
unfolding read_char
looks [] c n e = absurd (let z : ◌≡◌ {A = ℕ} 0 1 = cc in omega arith)
looks (b ∷ s) c zero e = absurd (omega (arith, read_length (b ∷ s) c zero e))
looks (b ∷ s) c (suc n) e = ⊎_elim low high (below? b 0x80)
  where
    low : b < 0x80 → Looks (b ∷ s) c (suc n)
    low h =
        let same : Char b 1 ≡ Char c (suc n) = sym (read-ascii b s h) ∙ e in
        let is : b ≡ c = cc in
        let one : 1 ≡ suc n = cc in
        subst (λ (x : ℕ). Looks (b ∷ s) x (suc n)) is (subst (λ (m : ℕ). Looks (b ∷ s) b m) one (ascii h))

    high : 0x80 ≤ b → Looks (b ∷ s) c (suc n)
    high h = ⊎_elim (λ k. absurd (bad k)) (λ k. wide h k e) (below? c 0x80)
      where
        bad : c < 0x80 → ⊥
        bad k =
            let same = ap (λ (l : List ℕ). get_or l 0 0) (sym (own_byte c k) ∙ (read_back (b ∷ s) c (suc n) e).0) in
            omega arith

-- What is at the front is read.
pub looks_read : {s : List ℕ} {c n : ℕ} → Looks s c n → read_char s ≡ Char c n
looks_read (ascii {b} {s} h) = read-ascii b s h
looks_read (wide h k e) = e

-- It has bytes, and they are there.
pub looks_length : {s : List ℕ} {c n : ℕ} → Looks s c n → (1 ≤ n) × (n ≤ length s)
looks_length {s} {c} {n} look = let w = read_length s c n (looks_read look) in omega arith

-- Only ASCII passes the test.
abbrev pub AsciiOnly : (ℕ → Bool) → Type 0
AsciiOnly p = (x : ℕ) → 0x80 ≤ x → p x ≡ false

-- Only ASCII is a letter or digit.
pub alphanumeric-ascii : AsciiOnly alphanumeric
alphanumeric-ascii x h =
    rw (outside_between (code "0") (code "9") x (inr (omega arith)), outside_between (code "A") (code "Z") x (inr (omega arith)))
    (outside_between (code "a") (code "z") x (inr (omega arith)))

-- Only ASCII is a digit.
pub digit-ascii : (base : ℕ) → base ≤ 16 → AsciiOnly (is_digit base)
unfolding digit_of
digit-ascii base few x h =
    rw (outside_between (code "0") (code "9") x (inr (omega arith)), outside_between (code "A") (code "F") x (inr (omega arith)))
    (rw (outside_between (code "a") (code "f") x (inr (omega arith))) (le-ltb 16 base few))

-- Only ASCII is an ASCII byte.
pub equal_ascii : (k : ℕ) → k < 0x80 → AsciiOnly (λ x. eqb x k)
equal_ascii k few x h = ne_eqb x k (omega arith)

-- Only ASCII passes one of two such tests.
pub or_ascii : (p q : ℕ → Bool) → AsciiOnly p → AsciiOnly q → AsciiOnly (λ x. p x || q x)
or_ascii p q f g x h = rw (f x h) (g x h)

-- What passes such a test is ASCII.
pub passes-ascii : (p : ℕ → Bool) → AsciiOnly p → (x : ℕ) → p x ≡ true → x < 0x80
passes-ascii p only x e = ⊎_elim (λ h. h) (λ h. no_way (sym e ∙ only x h)) (below? x 0x80)

module _ (p : ℕ → Bool) (only : AsciiOnly p) where
  -- The next byte passes it where the character does.
  pub looks_next : {s : List ℕ} {c n : ℕ} → Looks s c n → next_passes p s ≡ p c
  looks_next (ascii h) = refl
  looks_next (wide {b} {c} h k e) = only b h ∙ sym (only c k)

  -- A character that passes it is its own byte.
  pub looks_own : (P : List ℕ → ℕ → Type 0) {s : List ℕ} {c n : ℕ} → Looks s c n → p c ≡ true → ((t : List ℕ) → P (c ∷ t) 1) → P s n
  looks_own P (ascii {b} {s} h) e own = own s
  looks_own P (wide {b} {c} h k f) e own = no_way (sym e ∙ only c k)

-- The next byte is an ASCII byte where the character is.
pub next-same : (k : ℕ) → k < 0x80 → {s : List ℕ} {c n : ℕ} → Looks s c n → next k s ≡ eqb c k
next-same k few = looks_next (λ x. eqb x k) (equal_ascii k few)

-- The next byte is the character's.
pub looks_take : (p : ℕ → Bool) {s : List ℕ} {c n : ℕ} → Looks s c n → next_passes p (take n s) ≡ next_passes p s
looks_take p (ascii h) = refl
looks_take p (wide h k e) = refl

-- The letter of a hexadecimal number.
abbrev pub is_x : ℕ → Bool
is_x c = eqb c (code "x") || eqb c (code "X")

-- Only ASCII is.
pub is_x_ascii : AsciiOnly is_x
is_x_ascii =
    or_ascii (λ c. eqb c (code "x")) (λ c. eqb c (code "X")) (equal_ascii (code "x") (omega arith)) (equal_ascii (code "X") (omega arith))

-- A letter, a digit, `;` or `#`.
abbrev pub after_ampersand : ℕ → Bool
after_ampersand b = alphanumeric b || eqb b (code ";") || eqb b (code "#")

-- A byte that is one is plain: computed for each ASCII byte.
stands : ℕ → Bool
stands b = not (after_ampersand b) || standing b

-- All pass.
all_stand : below 0x80 stands ≡ true
unfolding computing below stands
all_stand = refl

-- Only ASCII is one.
reference-ascii : AsciiOnly after_ampersand
reference-ascii =
    or_ascii (λ x. alphanumeric x || eqb x (code ";")) (λ x. eqb x (code "#"))
    (or_ascii alphanumeric (λ x. eqb x (code ";")) alphanumeric-ascii (equal_ascii (code ";") (omega arith)))
    (equal_ascii (code "#") (omega arith))

-- Such a byte stands for itself without an error.
pub reference-plain : (b : ℕ) → after_ampersand b ≡ true → Plain b
unfolding stands
reference-plain b e = plain-standing b (rw e at (below_at 0x80 stands b all_stand (passes-ascii after_ampersand reference-ascii b e)))

-- `#` and that letter stand for themselves.
pub x_plain : (letter : ℕ) → is_x letter ≡ true → All Plain (code "#" ∷ letter ∷ [])
x_plain letter e = (reference-plain (code "#") refl, (reference-plain letter (go (eqb letter (code "x")) refl e), tt))
  where
    go : (t : Bool) → eqb letter (code "x") ≡ t → (t || eqb letter (code "X")) ≡ true → after_ampersand letter ≡ true
    go true e f = ap after_ampersand (eqb-true letter (code "x") e)
    go false e f = ap after_ampersand (eqb-true letter (code "X") f)
