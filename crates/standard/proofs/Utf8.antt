-- Laws of the character at the front of some bytes, as specs/Utf8.antt reads it.
use Rattle.std.specs.Prelude.{if◌then◌else◌}
use Prim.Native.Nat.{ℕ, zero, suc, ◌+◌, ◌-◌, ◌*◌, ◌/◌, ◌%◌, ◌≤◌, ◌<◌}
use mathlib.Core.Path.{◌≡◌, refl, sym, ◌∙◌, ap, subst}
use mathlib.Core.List.{List, [], ◌∷◌, ◌++◌}
use mathlib.Core.Bool.{Bool, true, false}
use mathlib.Core.Logic.{◌≢◌, ◌⊎◌}
use native.Mathlib.Omega.{arith}
use native.Mathlib.Numerals.{add-one, sub-one}
use lib.Dec.{ltb, eqb}
use lib.ListN.{length, get_or, take, drop, drop_of_length-le}
use lib.Seq.{drop-cons}
use Rattle.lists.specs.Notation.{between}
use Rattle.lists.proofs.Choice.{facts, if_both, inside-between, outside_between}
use Rattle.standard.specs.declared.characters.CharRead.{CharRead}
use Rattle.standard.specs.declared.characters.CharRead.TheVariants.{Char, Incomplete, Illformed, End}
use Rattle.standard.specs.declared.characters.Lead.{Lead}
use Rattle.std.specs.Prelude.{Option, Some, None}
use Rattle.standard.specs.Utf8.{lead_of, tails, after_lead, read_char}

-- Where a byte is asked for and none is left, the character is incomplete.
pub tails_incomplete : (need low high bits len : ℕ) (s : List ℕ) → 0 < need → length s ≤ len
    → tails need low high bits len (drop len s) ≡ Incomplete len
unfolding tails
tails_incomplete zero low high bits len s p h = absurd (omega arith)
tails_incomplete (suc n) low high bits len s p h = rw (drop_of_length-le s h)

-- Where a byte is asked for and one is left, at len, it is in its range or not.
module _ (s : List ℕ) (len low high bits : ℕ) (there : len < length s) where
  -- A byte out of its range is ill-formed.
  pub tails_illformed : (need : ℕ) → 0 < need → (get_or s len 0 < low) ⊎ (high < get_or s len 0)
      → tails need low high bits len (drop len s) ≡ Illformed len
  unfolding tails
  tails_illformed zero p h = absurd (omega arith)
  tails_illformed (suc n) p h = rw (drop-cons s len 0 there, outside_between low high (get_or s len 0) h)

  -- A byte in its range gives six bits.
  pub tails_more : (need : ℕ) → 0 < need → low ≤ get_or s len 0 → get_or s len 0 ≤ high
      → tails need low high bits len (drop len s) ≡ tails (need - 1) 0x80 0xBF (bits * 64 + get_or s len 0 % 64) (len + 1) (drop (len + 1) s)
  unfolding tails
  tails_more zero p h k = absurd (omega arith)
  tails_more (suc n) p h k = rw (sub-one, add-one, drop-cons s len 0 there, inside-between low high (get_or s len 0) h k)

-- Where no more bytes are asked for, the character is whole.
pub tails-whole : (need low high bits len : ℕ) (s : List ℕ) → need ≤ 0 → tails need low high bits len s ≡ Char bits len
unfolding tails
tails-whole zero low high bits len s h = refl
tails-whole (suc n) low high bits len s h = absurd (omega arith)

-- A bound on the bits of len bytes.
abbrev pub cap : ℕ → ℕ
cap zero = 2
cap (suc len) = 64 * cap len

-- The bits of up to three bytes leave room for six more.
pub cap-room : (len : ℕ) → len ≤ 3 → cap len ≤ 0x80000
cap-room zero h = omega arith
cap-room (suc zero) h = omega arith
cap-room (suc (suc zero)) h = omega arith
cap-room (suc (suc (suc zero))) h = omega arith
cap-room (suc (suc (suc (suc len)))) h = absurd (omega arith)

-- With no byte, there is no character.
pub read_end : (s : List ℕ) → length s ≡ 0 → read_char s ≡ End
unfolding read_char
read_end [] h = refl
read_end (b ∷ s) h = absurd (omega arith)

-- With a first byte, the character goes by what that says.
pub read_lead : (s : List ℕ) (l : Option Lead) → 0 < length s → lead_of (get_or s 0 0) ≡ l → read_char s ≡ after_lead l (drop 1 s)
unfolding read_char
read_lead [] l h e = absurd (omega arith)
read_lead (b ∷ s) l h e = rw e

-- The first byte of a character of need more, without its bits.
abbrev pub mark : ℕ → ℕ
mark zero = 0
mark (suc zero) = 0xC0
mark (suc (suc zero)) = 0xE0
mark (suc (suc (suc n))) = 0xF0

-- The scalar values of so many bytes after the first.
abbrev pub Size : ℕ → ℕ → Type 0
Size zero c = c < 0x80
Size (suc zero) c = (0x80 ≤ c) × (c < 0x800)
Size (suc (suc zero)) c = (0x800 ≤ c) × (c < 0x10000) × (c / 0x800 ≢ 0x1B)
Size (suc (suc (suc zero))) c = (0x10000 ≤ c) × (c < 0x110000)
Size (suc (suc (suc (suc n)))) c = ⊥

-- The bits of a number without its last groups of six, so many.
abbrev pub upper : ℕ → ℕ → ℕ
upper zero c = c
upper (suc n) c = upper n c / 64

-- The first of its last groups of six, as a byte, is in a range.
abbrev pub Next : ℕ → ℕ → ℕ → ℕ → Type 0
Next zero low high c = Unit {0}
Next (suc n) low high c = (low ≤ 0x80 + upper n c % 64) × (0x80 + upper n c % 64 ≤ high)

-- A good first byte is its mark and its bits, and the range of the second byte is not empty and leaves only scalar values of that size.
pub record Opens (need b low high bits : ℕ) : Type 0 where
  pub few : need ≤ 3
  pub small : bits < 128
  pub least : 0x80 ≤ low
  pub most : high ≤ 0xBF
  pub some : low ≤ high
  pub is : b ≡ mark need + bits
  pub only : (c : ℕ) → bits ≡ upper need c → Next need low high c → Size need c

-- What a lead says of a first byte is so.
abbrev pub LeadSays : ℕ → Option Lead → Type 0
LeadSays b None = Unit {0}
LeadSays b (Some l) = Opens l.need b l.low l.high l.bits

-- What lead_of says of a first byte is so.
pub lead_says : (b : ℕ) → LeadSays b (lead_of b)
lead_says b =
    if_both (LeadSays b) (ltb b 0x80) _ _ (λ t0. omega facts) (λ t0.
    if_both (LeadSays b) (ltb b 0xC2) _ _ (λ t1. tt) (λ t1.
    if_both (LeadSays b) (ltb b 0xE0) _ _ (λ t2. omega facts) (λ t2.
    if_both (LeadSays b) (eqb b 0xE0) _ _ (λ t3. omega facts) (λ t3.
    if_both (LeadSays b) (eqb b 0xED) _ _ (λ t4. omega facts) (λ t4.
    if_both (LeadSays b) (ltb b 0xF0) _ _ (λ t5. omega facts) (λ t5.
    if_both (LeadSays b) (eqb b 0xF0) _ _ (λ t6. omega facts) (λ t6.
    if_both (LeadSays b) (ltb b 0xF4) _ _ (λ t7. omega facts) (λ t7.
    if_both (LeadSays b) (eqb b 0xF4) _ _ (λ t8. omega facts) (λ t8. tt)))))))))

-- A good first byte asks for at most three more and gives at most seven bits.
pub lead_most : (b : ℕ) (l : Lead) → lead_of b ≡ Some l → (l.need ≤ 3) × (l.bits < 128)
lead_most b l e = let k = subst (LeadSays b) e (lead_says b) in (k.few, k.small)

-- The answer is a whole character.
abbrev IsChar : CharRead → Type 0
IsChar (Char a m) = Unit {0}
IsChar (Incomplete n) = ⊥
IsChar (Illformed n) = ⊥
IsChar End = ⊥

-- What equals a whole character is one.
pub is-char : {r : CharRead} {a m : ℕ} → r ≡ Char a m → IsChar r
is-char e = subst IsChar (sym e) tt

-- A whole character behind a test passed it.
pub if_char : (t : Bool) (x : CharRead) (len a m : ℕ) → (if t then x else Illformed len) ≡ Char a m → (t ≡ true) × (x ≡ Char a m)
if_char true x len a m h = (refl, h)
if_char false x len a m h = absurd (is-char h)

-- An answer that stands whatever bytes follow.
abbrev pub Settled : CharRead → Type 0
Settled (Char a m) = Unit {0}
Settled (Incomplete n) = ⊥
Settled (Illformed n) = Unit {0}
Settled End = ⊥

-- Two answers that agree where the first is settled do so behind a test.
if_settled : (t : Bool) (x y z : CharRead) → (Settled x → y ≡ x) → Settled (if t then x else z) → (if t then y else z) ≡ (if t then x else z)
if_settled true x y z f h = f h
if_settled false x y z f h = refl

-- A settled answer of the tails does not change when bytes follow.
tails-append : (need low high bits len : ℕ) (s t : List ℕ) → Settled (tails need low high bits len s)
    → tails need low high bits len (s ++ t) ≡ tails need low high bits len s
unfolding tails
tails-append zero low high bits len s t h = refl
tails-append (suc n) low high bits len [] t h = absurd h
tails-append (suc n) low high bits len (b ∷ s) t h =
    if_settled (between low high b) _ _ _ (tails-append n 0x80 0xBF (bits * 64 + b % 64) (suc len) s t) h

-- A settled answer after a first byte does not change when bytes follow.
after-append : (l : Option Lead) (s t : List ℕ) → Settled (after_lead l s) → after_lead l (s ++ t) ≡ after_lead l s
unfolding after_lead
after-append None s t h = refl
after-append (Some l) s t h = tails-append l.need l.low l.high l.bits 1 s t h

-- A settled answer, neither Incomplete nor End, does not change when bytes follow.
pub read-append : (s t : List ℕ) (r : CharRead) → read_char s ≡ r → Settled r → read_char (s ++ t) ≡ r
unfolding read_char
read-append [] t r e h = absurd (subst Settled (sym e) h)
read-append (b ∷ s) t r e h = after-append (lead_of b) s t (subst Settled (sym e) h) ∙ e

-- How far an answer goes, where the character has size bytes and total are there.
abbrev Within : ℕ → ℕ → CharRead → Type 0
Within size total (Char a m) = (m ≡ size) × (size ≤ total)
Within size total (Incomplete n) = (n ≡ total) × (1 ≤ total) × (total < size)
Within size total (Illformed n) = (n < total) × (n < size)
Within size total End = total ≡ 0

-- So far goes the answer of the tails.
tails-within : (need low high bits len size total : ℕ) (s : List ℕ) → 1 ≤ len → size ≡ len + need → total ≡ len + length s
    → Within size total (tails need low high bits len s)
unfolding tails
tails-within zero low high bits len size total s p d e = omega arith
tails-within (suc n) low high bits len size total [] p d e = omega arith
tails-within (suc n) low high bits len size total (b ∷ s) p d e =
    if_both (Within size total) (between low high b) _ _
    (λ t. tails-within n 0x80 0xBF (bits * 64 + b % 64) (suc len) size total s (omega arith) (omega arith) (omega arith)) (λ t. omega arith)

-- So far goes the answer after a first byte.
after-within : (b : ℕ) (l : Option Lead) (s : List ℕ) → LeadSays b l
    → (size : ℕ) × (1 ≤ size) × (size ≤ 4) × Within size (suc (length s)) (after_lead l s)
unfolding after_lead
after-within b None s h = (1, omega arith, omega arith, omega arith)
after-within b (Some l) s h = (
  suc l.need,
  omega arith,
  omega arith,
  tails-within l.need l.low l.high l.bits 1 (suc l.need) (suc (length s)) s (omega arith) (omega arith) (omega arith),
)

-- So far goes the answer, where the character has one to four bytes.
read-within : (s : List ℕ) (r : CharRead) → read_char s ≡ r → (size : ℕ) × (1 ≤ size) × (size ≤ 4) × Within size (length s) r
unfolding read_char
read-within [] r e = (1, omega arith, omega arith, subst (Within 1 0) e refl)
read-within (b ∷ s) r e =
    let w = after-within b (lead_of b) s (lead_says b) in (w.0, w.1, w.2, subst (Within w.0 (suc (length s))) e w.3)

-- A whole character has one to four bytes, which are there.
pub read_length : (s : List ℕ) (a m : ℕ) → read_char s ≡ Char a m → (1 ≤ m) × (m ≤ 4) × (m ≤ length s)
read_length s a m e = let w = read-within s (Char a m) e in omega arith

-- Where there is a byte the reader does not say that there is none.
pub end-length : (s : List ℕ) → read_char s ≡ End → length s ≡ 0
end-length s e = let w = read-within s End e in omega arith

-- A beginning of a character is all that is there, one to three bytes.
pub incomplete_length : (s : List ℕ) (n : ℕ) → read_char s ≡ Incomplete n → (n ≡ length s) × (1 ≤ n) × (n ≤ 3)
incomplete_length s n e = let w = read-within s (Incomplete n) e in omega arith

-- An ill-formed byte is there, and at most three of its character stand before it.
pub illformed_length : (s : List ℕ) (n : ℕ) → read_char s ≡ Illformed n → (n < length s) × (n ≤ 3)
illformed_length s n e = let w = read-within s (Illformed n) e in omega arith

-- The tails that are asked for give the character.
tails-take : (need low high bits len : ℕ) (s : List ℕ) (a m j : ℕ) → tails need low high bits len s ≡ Char a m → need ≤ j
    → tails need low high bits len (take j s) ≡ Char a m
unfolding tails
tails-take zero low high bits len s a m j h p = h
tails-take (suc n) low high bits len [] a m j h p = absurd (is-char h)
tails-take (suc n) low high bits len (b ∷ s) a m zero h p = absurd (omega arith)
tails-take (suc n) low high bits len (b ∷ s) a m (suc j) h p =
    let w = if_char (between low high b) _ len a m h in
    rw w.0 (tails-take n 0x80 0xBF (bits * 64 + b % 64) (suc len) s a m j w.1 (omega arith))

-- The same after a first byte.
after-take : (l : Option Lead) (s : List ℕ) (a m : ℕ) → after_lead l s ≡ Char a (suc m) → after_lead l (take m s) ≡ Char a (suc m)
unfolding after_lead
after-take None s a m h = absurd (is-char h)
after-take (Some l) s a m h =
    let k = tails-within l.need l.low l.high l.bits 1 (suc l.need) (suc (length s)) s (omega arith) (omega arith) (omega arith) in
    let e = subst (Within (suc l.need) (suc (length s))) h k in
    tails-take l.need l.low l.high l.bits 1 s a (suc m) m h (omega arith)

-- A character's own bytes alone give it.
pub read_take : (s : List ℕ) (a m : ℕ) → read_char s ≡ Char a m → read_char (take m s) ≡ Char a m
unfolding read_char
read_take [] a m h = absurd (is-char h)
read_take (b ∷ s) a zero h = absurd (omega (arith, read_length (b ∷ s) a zero h))
read_take (b ∷ s) a (suc m) h = after-take (lead_of b) s a m h

-- A beginning of a longer character is one that is not whole.
pub read-begun : (s t : List ℕ) (c n : ℕ) → read_char (s ++ t) ≡ Char c n → 0 < length s → length s < n → read_char s ≡ Incomplete (length s)
read-begun s t c n e some beyond = go (read_char s) refl
  where
    go : (q : CharRead) → read_char s ≡ q → q ≡ Incomplete (length s)
    go (Char a m) f =
        let same : Char a m ≡ Char c n = sym (read-append s t (Char a m) f tt) ∙ e in
        let long : m ≡ n = cc in absurd (omega (arith, read_length s a m f))
    go (Incomplete m) f = ap Incomplete (incomplete_length s m f).0
    go (Illformed m) f = absurd (subst IsChar (sym e ∙ read-append s t (Illformed m) f tt) tt)
    go End f = absurd (omega (arith, end-length s f))
